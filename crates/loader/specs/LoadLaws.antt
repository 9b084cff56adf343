-- A table that may be loaded is safe after every list of thread numbers, and its common locks guard readings: demand 3 and C-22, as the loader asks them. Assumes nothing.
use Rattle.std.proofs.lemmas.Bool.{and_parts}
use Rattle.std.specs.Prelude.{◌≡◌, refl, true, List, ℕ, ℤ, pos, negsuc, Ok, Err}
use Rattle.std.proofs.Common.{sym, ap, eqb-true}
use Rattle.table.proofs.AcceptedLaws.{accepted}
use Rattle.table.specs.Verdict.{Verdict, verdict}
use Rattle.machine.specs.State.{start}
use Rattle.machine.specs.Step.{step, run}
use Rattle.machine.specs.Engine.{engine_step}
use Rattle.machine.specs.Words.{Safe}
use Rattle.report.proofs.OverLaws.{never}
use Rattle.report.specs.Report.{unguarded_total, stray_total}
use Rattle.guarantee.proofs.Demand.{clean_table_safe}
use Rattle.guarantee.specs.Reading.{EachCommon, Steady}
use Rattle.guarantee.proofs.Reading.{reading_stays_put, reading_stays_put_engine}
use Rattle.report_printer.specs.Printed.{is_none, counts_nothing}
use Rattle.analysis.specs.Reported.{table_in, loadable_by, loadable}

none_is : (z : ℤ) → is_none z ≡ true → z ≡ pos 0
none_is (pos n) e = ap pos (eqb-true n 0 e)
none_is (negsuc n) e = never (sym e)

-- yes exactly for a text that is accepted and whose totals are both 0
record Loads (text : List ℕ) : Type 0 where
  accepts : verdict text ≡ Ok tt
  none_unguarded : unguarded_total (table_in text) ≡ pos 0
  none_stray : stray_total (table_in text) ≡ pos 0

loads : (text : List ℕ) → loadable text ≡ true → Loads text
unfolding loadable counts_nothing
loads text = go (verdict text) refl
  where
    go : (v : Verdict) → verdict text ≡ v → loadable_by v (table_in text) ≡ true → Loads text
    go (Ok u) q h =
        let both = and_parts (is_none (unguarded_total (table_in text))) (is_none (stray_total (table_in text))) h in
        record { accepts = q; none_unguarded = none_is _ both.0; none_stray = none_is _ both.1 }
    go (Err r) q h = never (sym h)

-- yes means: no two different threads ever stand before accesses of one cell of which one writes, and no thread before a release of a lock that it
-- does not hold, whatever the order of steps
pub loadable_safe : (text : List ℕ) → loadable text ≡ true → (ns : List ℕ) → Safe (table_in text) (run (table_in text) (start (table_in text)) ns)
loadable_safe text allowed ns =
    let l = loads text allowed in
    clean_table_safe (table_in text) (accepted text l.accepts) l.none_unguarded l.none_stray ns

-- and, C-22, that the common locks that the report prints guard readings of their cells, on the machine and in the engine's runs
pub loadable_steady : (text : List ℕ) → loadable text ≡ true → EachCommon text (Steady text step)
loadable_steady text allowed = reading_stays_put text (loads text allowed).accepts

pub loadable_steady_engine : (text : List ℕ) → loadable text ≡ true → EachCommon text (Steady text engine_step)
loadable_steady_engine text allowed = reading_stays_put_engine text (loads text allowed).accepts
