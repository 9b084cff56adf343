-- `edges::append_each` meets its contract. Assumes nothing.
use Rattle.std.specs.Prelude.{ℕ, List}
use Rattle.sets.specs.Least.{Edge}
use Rattle.edges.specs.Grown.{Appends, Growing}
use Rattle.edges.specs.RoutineLaws.{Near}
use Rattle.edges.proofs.append_each.Given as goal

abbrev pub invariant-loop-s : goal.invariant-loop-s
invariant-loop-s g l =
    ((part : ℕ → List Edge) → Appends (goal.F-post g l.append) l.program part → Growing part l.s-end l.initial.list l.list l.s) × Near l.program l.c l.s
