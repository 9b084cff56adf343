-- `solver::worklist::follow_edges` meets its contract. Its loop has gone along some edges, and each next one comes later. Assumes nothing.
use Rattle.std.specs.Prelude.{Option, Some, None, IfSome, ℕ, ◌-◌, ◌^◌, ◌<◌}
use Rattle.std.proofs.Common.{sym, subst, arith}
use Rattle.solver.proofs.worklist.follow_edges.Goals as goal

left : Option ℕ → ℕ
left o = elim o [ None ↦ 0 | Some k ↦ 2 ^ 64 - k ]

later_less : (k : ℕ) (o : Option ℕ) → k < 2 ^ 64 → IfSome o (λ later. k < later) → left o < left (Some k)
unfolding left
later_less k None h later = omega arith
later_less k (Some j) h later = omega arith

pub loop-next-smaller : goal.loop-next-smaller
unfolding left
loop-next-smaller c =
    subst (λ (o : Option ℕ). left c.linked_behind-next.result < left o) (sym c.in-Some.is)
    (later_less c.in-Some.k c.linked_behind-next.result (omega arith) c.linked_behind-next.ensures)
