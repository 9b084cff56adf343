-- `passes::put_edge` meets its contract. Assumes nothing.
use mathlib.Core.Path.{ap, ◌∙◌}
use Prim.Native.Nat.{ℕ}
use lib.ListN.{get_or}
use Rattle.sets.specs.LeastLaws.{edge_at}
use Rattle.passes.specs.PassLaws.{put_as}
use Rattle.passes.proofs.put_edge.Goals as goal

pub returns : goal.returns
unfolding edge_at
returns c = put_as c.from_of-f.ensures (c.also_of.ensures ∙ ap (λ (f : ℕ). get_or c.args.edges.also.now c.args.k f) c.from_of-f.ensures) c.to_of-t.ensures c.put_along.ensures
