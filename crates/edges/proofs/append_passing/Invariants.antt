-- `edges::append_passing` meets its contract. Assumes nothing.
use Rattle.std.specs.Prelude.{ℕ, ◌+◌, [], ◌∷◌, get_or}
use Rattle.table.specs.Table.{passed}
use Rattle.edges.specs.Equations.{edge}
use Rattle.edges.specs.Grown.{Growing}
use Rattle.edges.proofs.append_passing.Given as goal

abbrev pub invariant-loop-j : goal.invariant-loop-j
invariant-loop-j l = Growing (λ (i : ℕ). edge (get_or (passed l.arguments) i 0) (l.begin + i) ∷ []) l.count l.initial.list l.list l.j
