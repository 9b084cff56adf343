-- `dataflow::flow_passes` meets its contract. Assumes nothing.
use Rattle.std.proofs.Common.{refl}
use Rattle.edges.specs.Equations.{Flow}
use Rattle.edges.specs.RoomLaws.{edges_are}
use Rattle.dataflow.specs.AnswerLaws.{flow_ends, flow_places, flow_answer, made_answer}
use Rattle.dataflow.proofs.flow_passes.Goals as goal

pub solve-requires : goal.solve-requires
solve-requires c =
    let acc = c.fill_flow.ensures.accepted in
    let is = edges_are Flow _ acc c.requires.edges_room refl c.fill_flow.ensures.grown c.edges.ensures in
    rw (flow_places _ acc _ is c.requires.flow_len c.fill_flow-2.ensures) (flow_ends _ acc _ is c.requires.flow_len)

pub returns : goal.returns
returns c =
    let acc = c.fill_flow.ensures.accepted in
    let is = edges_are Flow _ acc c.requires.edges_room refl c.fill_flow.ensures.grown c.edges.ensures in
    let made = made_answer _ acc _ is c.requires.flow_len c.fill_flow-2.ensures c.solve.ensures.made in
    record { sets = flow_answer _ acc _ is c.requires.flow_len c.fill_flow-2.ensures c.solve.ensures.sets; made = made.0; most = made.1.0; few = made.1.1 }
