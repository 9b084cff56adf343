-- Demand 3: a text that is accepted and whose report counts no unguarded cell and no stray GIVE is safe after every list of thread numbers. Assumes nothing.
use Rattle.std.specs.Prelude.{◌≡◌, List, [], ◌∷◌, ℕ, ℤ, pos, get_or, Ok}
use Rattle.std.proofs.Common.{sym, ap, ◌∙◌}
use Rattle.table.specs.Table.{Table}
use Rattle.table.specs.Accepted.{Accepted}
use Rattle.table.proofs.AcceptedLaws.{accepted}
use Rattle.table.specs.Verdict.{verdict}
use Rattle.machine.specs.State.{start}
use Rattle.machine.specs.Step.{run}
use Rattle.machine.specs.Engine.{engine_run}
use Rattle.machine.specs.Words.{Safe}
use Rattle.report.specs.Layout.{one_each}
use Rattle.report.specs.Fits.{copies_of}
use Rattle.report.proofs.OneEach.{one_each_fits}
use Rattle.report.specs.Report.{report_text, last_line, report_lines, unguarded_total, stray_total}
use Rattle.report.proofs.ReportRules.{families}
use Rattle.report.proofs.ReportLaws.{clean_report, report_satisfies}
use Rattle.report.proofs.ReportTextLaws.{last_49}
use Rattle.guarantee.proofs.Theorem.{clean_runs_safe}
use Rattle.guarantee.proofs.Engine.{clean_engine_runs_safe}
use Rattle.guarantee.specs.Demand.{Counts, table_in}

-- the totals that the report prints are those of its last line
printed_totals : (t : Table) → Accepted t → (u z : ℤ) → Counts (report_text t) u z → (unguarded_total t ≡ u) × (stray_total t ≡ z)
unfolding unguarded_total stray_total
printed_totals t acc u z c =
    let said = sym (last_49 t acc) ∙ c.line_59 in
    let same : last_line (report_lines t) ≡ pos 59 ∷ u ∷ z ∷ pos 0 ∷ pos 0 ∷ pos 0 ∷ pos 0 ∷ pos 0 ∷ [] = cc in
    (ap (λ (l : List ℤ). get_or l 1 (pos 0)) same, ap (λ (l : List ℤ). get_or l 2 (pos 0)) same)

pub clean_table_safe : (t : Table) → Accepted t → unguarded_total t ≡ pos 0 → stray_total t ≡ pos 0 → (ns : List ℕ) → Safe t (run t (start t) ns)
clean_table_safe t acc u z ns =
    clean_runs_safe acc (copies_of (one_each_fits t acc)) (families t (one_each t)) (report_satisfies t acc) (clean_report t acc u z) ns

-- Demand 3. For every text that is accepted and whose report's line 59, as printed, counts no unguarded cell and no stray GIVE, and for every finite list of
-- thread numbers: after the machine, with no limit on threads or frames, has run the whole list from its start, no two different threads stand before
-- accesses of one cell of which one writes, and no thread stands before a release of a lock that it does not hold.
pub demand_3 : (text : List ℕ) → verdict text ≡ Ok tt → Counts (report_text (table_in text)) (pos 0) (pos 0) → (ns : List ℕ)
    → Safe (table_in text) (run (table_in text) (start (table_in text)) ns)
demand_3 text e c ns =
    let acc = accepted text e in
    let totals = printed_totals (table_in text) acc (pos 0) (pos 0) c in
    clean_table_safe (table_in text) acc totals.0 totals.1 ns

-- the same of every state that the engine passes, whatever it refuses at its limits
pub demand_3_engine : (text : List ℕ) → verdict text ≡ Ok tt → Counts (report_text (table_in text)) (pos 0) (pos 0) → (ns : List ℕ)
    → Safe (table_in text) (engine_run (table_in text) (start (table_in text)) ns)
demand_3_engine text e c ns =
    let t = table_in text in
    let acc = accepted text e in
    let totals = printed_totals t acc (pos 0) (pos 0) c in
    clean_engine_runs_safe acc (copies_of (one_each_fits t acc)) (families t (one_each t)) (report_satisfies t acc) (clean_report t acc totals.0 totals.1) ns
