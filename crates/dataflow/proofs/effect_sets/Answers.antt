-- `dataflow::effect_sets` meets its contract. Assumes nothing.
use Rattle.std.specs.Prelude.{true, false}
use Rattle.std.proofs.Common.{refl, ◌∙◌}
use Rattle.edges.specs.Equations.{Effects}
use Rattle.edges.specs.RoomLaws.{edges_are}
use Rattle.dataflow.specs.AnswerLaws.{solved, effect_answer}
use Rattle.dataflow.proofs.effect_sets.Goals as goal

pub returns : goal.returns
returns c =
    let is = edges_are Effects _ c.fill_naming.ensures.accepted c.requires.edges_room refl c.fill_naming.ensures.grown c.edges-naming.ensures in
    record {
      reads = solved _ is _ c.own_sets.ensures ∙ effect_answer _ false _ c.requires.reads_len;
      writes = solved _ is _ c.own_sets-2.ensures ∙ effect_answer _ true _ c.requires.writes_len;
    }
