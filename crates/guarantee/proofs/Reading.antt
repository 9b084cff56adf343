-- C-22, "A reading stays put while guarded": from a text and a line 51 of its report, as printed, to the values of the cell, in every order of steps. Assumes nothing.
use Rattle.std.specs.Prelude.{ℕ, ◌≡◌, true, List, ◌∷◌, ◌++◌, get_or, Ok}
use Rattle.std.proofs.Common.{sym, ap, ◌∙◌}
use Rattle.sets.specs.Set.{has}
use Rattle.table.specs.Table.{Table}
use Rattle.table.specs.Accepted.{Accepted}
use Rattle.table.proofs.AcceptedLaws.{accepted}
use Rattle.table.specs.Verdict.{verdict}
use Rattle.machine.specs.State.{State}
use Rattle.machine.specs.Step.{Answer, step}
use Rattle.machine.specs.Engine.{engine_step}
use Rattle.machine.proofs.EngineLaws.{engine_steps}
use Rattle.machine.specs.Stretch.{Stepping}
use Rattle.machine.proofs.StretchLaws.{machine_steps, readings_agree}
use Rattle.report.specs.Layout.{one_each}
use Rattle.report.specs.Fits.{copies_of}
use Rattle.report.proofs.OneEach.{one_each_fits}
use Rattle.report.proofs.FindingsLaws.{common_from}
use Rattle.report.specs.Report.{cell_line, report_text, Says51}
use Rattle.report.proofs.PrintedLaws.{printed_51}
use Rattle.report.specs.Rules.{Common}
use Rattle.report.proofs.ReportRules.{families}
use Rattle.report.proofs.ReportLaws.{report_satisfies}
use Rattle.guarantee.proofs.StaysPut.{common_lock_stays_put, common_lock_next}
use Rattle.guarantee.specs.Demand.{table_in}
use Rattle.guarantee.specs.Reading.{EachCommon, Guards, Steady}

-- a lock that a line 51 prints as common to the cell is common to it
printed_common : (t : Table) (acc : Accepted t) (x reads writes shared common unguarded k : ℕ) → Says51 (report_text t) x reads writes shared common unguarded
    → has common k ≡ true
    → Common (copies_of (one_each_fits t acc)) (families t (one_each t)).flow (families t (one_each t)).held (families t (one_each t)).preceded x k
unfolding cell_line
printed_common t acc x reads writes shared common unguarded k says among =
    let line = (printed_51 t acc x reads writes shared common unguarded says).1 in
    (common_from t (one_each t) acc (one_each_fits t acc) x k (ap (λ (l : List ℕ). has (get_or l 5 0) k) (sym line) ∙ among)).1

steady_by : (text : List ℕ) → verdict text ≡ Ok tt → (by : Table → State → ℕ → Answer) → Stepping (table_in text) (by (table_in text))
    → EachCommon text (Steady text by)
steady_by text e by steps x reads writes shared common unguarded k says among =
    let t = table_in text in
    let acc = accepted text e in
    let lock = printed_common t acc x reads writes shared common unguarded k says among in
    let guards : Guards text by x k =
    common_lock_stays_put acc (copies_of (one_each_fits t acc)) (families t (one_each t)) (report_satisfies t acc) (by t) steps x k lock in
    record {
      guards = guards;
      guards_next = common_lock_next acc (copies_of (one_each_fits t acc)) (families t (one_each t)) (report_satisfies t acc) (by t) steps x k lock;
      reads_the_same = λ ns m taken gets first between one other keeps.
          readings_agree t (by t) steps m x taken one other first between (guards ns m taken gets (first ++ m ∷ between) keeps);
    }

-- C-22, of every text that is accepted. Whether its report is clean does not matter, nor whether the line says that the cell is shared
pub reading_stays_put : (text : List ℕ) → verdict text ≡ Ok tt → EachCommon text (Steady text step)
reading_stays_put text e = steady_by text e step (machine_steps (table_in text))

-- the same of the engine's runs, whatever it refuses at its limit
pub reading_stays_put_engine : (text : List ℕ) → verdict text ≡ Ok tt → EachCommon text (Steady text engine_step)
reading_stays_put_engine text e = steady_by text e engine_step (engine_steps (table_in text))
