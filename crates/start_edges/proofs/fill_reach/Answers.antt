-- `start_edges::fill_reach` meets its contract. Assumes nothing.
use Rattle.std.proofs.Common.{rules, of_calls}
use Rattle.start_edges.proofs.StartEdges.{all_reach}
use Rattle.start_edges.proofs.StartRoom.{reach_are}
use Rattle.start_edges.proofs.fill_reach.Goals as goal

pub returns : goal.returns
returns c =
    let acc = c.append_each.ensures.accepted in
    let grown = all_reach _ (c.append_each.ensures.grown _ (λ x y s k l e h. search (rules, of_calls))) in
    record { accepted = acc; grown = grown; ready = λ e l. reach_are _ acc e l grown }
