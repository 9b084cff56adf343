-- `dataflow::given_sets` meets its contract. Assumes nothing.
use Rattle.std.proofs.Common.{refl, ◌∙◌}
use Rattle.edges.specs.Equations.{Gives}
use Rattle.edges.specs.RoomLaws.{edges_are}
use Rattle.dataflow.specs.AnswerLaws.{solved, given_answer}
use Rattle.dataflow.proofs.given_sets.Goals as goal

pub returns : goal.returns
returns c =
    let is = edges_are Gives _ c.fill_calls.ensures.accepted c.requires.edges_room refl c.fill_calls.ensures.grown c.edges.ensures in
    solved _ is _ c.own_sets.ensures ∙ given_answer _ _ c.requires.given_len
