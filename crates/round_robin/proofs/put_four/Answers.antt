-- `round_robin::put_four` meets its contract. Assumes nothing.
use mathlib.Core.Path.{refl, ◌∙◌}
use Prim.Native.Nat.{◌-◌}
use native.Mathlib.Omega.{arith}
use Rattle.round_robin.proofs.SolveLaws.{ends_in_lem, put_places, onward_none, onward_next}
use Rattle.round_robin.proofs.put_four.Goals as goal

pub returns : goal.returns
returns c =
    onward_next _ _ (omega arith)
    (onward_next _ _ (omega arith)
    (onward_next _ _ (omega arith)
    (onward_next _ _ (omega arith) (onward_none _ _ _ _) c.put-one.ensures)
    c.put-two.ensures)
    c.put-three.ensures)
    c.put.ensures

pub put-one-requires : goal.put-one-requires
put-one-requires c = ends_in_lem refl c.args.edges.now (c.args.k - 1) c.requires.among (omega arith)

pub put-two-requires : goal.put-two-requires
put-two-requires c = ends_in_lem (put_places c.put-one.ensures) c.args.edges.now (c.args.k - 2) c.requires.among (omega arith)

pub put-three-requires : goal.put-three-requires
put-three-requires c = ends_in_lem (put_places c.put-two.ensures ∙ put_places c.put-one.ensures) c.args.edges.now (c.args.k - 3) c.requires.among (omega arith)

pub put-requires : goal.put-requires
put-requires c = ends_in_lem (put_places c.put-three.ensures ∙ put_places c.put-two.ensures ∙ put_places c.put-one.ensures) c.args.edges.now (c.args.k - 4) c.requires.among (omega arith)
