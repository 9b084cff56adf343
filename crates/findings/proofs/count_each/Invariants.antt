-- `findings::count_each` meets its contract. Assumes nothing.
use Rattle.std.specs.Prelude.{ℕ, Bool, ◌≡◌, ◌<◌, ◌≤◌, ◌+◌}
use Rattle.report.specs.Report.{bit}
use Rattle.findings.specs.FoldLaws.{Folding}
use Rattle.findings.proofs.count_each.Given as goal

abbrev pub invariant-loop-i : goal.invariant-loop-i
invariant-loop-i g l =
    ((at : ℕ → Bool) → ((i : ℕ) (b : Bool) → i < l.n → goal.F-post g l.test i b → b ≡ at i) → Folding (λ i. ◌+◌ (bit (at i))) 0 l.n l.count l.i)
    × (l.count + l.i ≤ l.n)
