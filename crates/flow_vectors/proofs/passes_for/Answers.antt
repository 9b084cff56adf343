-- `flow_vectors::passes_for` meets its contract. Assumes nothing.
use mathlib.Core.Path.{sym, ap, ◌∙◌}
use Prim.Native.Nat.{ℕ, ◌*◌}
use native.Mathlib.Omega.{arith}
use lib.IntN.{ℤ, pos}
use Rattle.table.proofs.CutLaws.{cut_long}
use Rattle.flow_vectors.proofs.passes_for.Goals as goal

pub slice_bounds-passes_in-end : goal.slice_bounds-passes_in-end
slice_bounds-passes_in-end c = cut_long {A = ℤ} _ 5384 (pos 0) (omega arith)

pub passes_in-requires : goal.passes_in-requires
passes_in-requires c = sym (cut_long {A = ℤ} _ 5384 (pos 0) (omega arith)) ∙ ap (λ (n : ℕ). 8 * n) c.line_count-count.ensures
