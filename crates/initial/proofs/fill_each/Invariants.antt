-- `initial::fill_each` meets its contract. Assumes nothing.
use Rattle.std.specs.Prelude.{ℕ, ◌≡◌, ◌<◌, length}
use Rattle.table.specs.TabulateLaws.{Filled}
use Rattle.initial.proofs.fill_each.Given as goal

abbrev pub invariant-loop-p : goal.invariant-loop-p
invariant-loop-p g l =
    (at : ℕ → ℕ) → ((p r : ℕ) → p < length l.initial.out → goal.F-post g l.value p r → r ≡ at p) → Filled at l.out (length l.initial.out) l.p
