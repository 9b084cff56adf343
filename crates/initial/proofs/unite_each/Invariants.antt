-- `initial::unite_each` meets its contract. Assumes nothing.
use Rattle.std.specs.Prelude.{ℕ, ◌≡◌, ◌<◌, ◌≤◌}
use Rattle.initial.specs.UnionLaws.{Uniting}
use Rattle.initial.proofs.unite_each.Given as goal

abbrev pub invariant-loop-s : goal.invariant-loop-s
invariant-loop-s g l =
    (at : ℕ → ℕ) → ((s r : ℕ) → l.from ≤ s → s < l.end → goal.F-post g l.value s r → r ≡ at s) → Uniting at l.from l.end l.s l.all
