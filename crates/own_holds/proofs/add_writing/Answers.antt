-- `own_holds::add_writing` meets its contract. Assumes nothing.
use Rattle.std.proofs.Common.{ap, arith, ◌∙◌}
use Rattle.own_holds.specs.OwnLaws.{places_long, put_held, needed, edges_fit}
use Rattle.declarations.specs.Laid.{laid_for}
use Rattle.held_edges.specs.TableEdges.{writing_alone}
use Rattle.own_holds.proofs.add_writing.Goals as goal

pub held_sets-requires : goal.held_sets-requires
held_sets-requires c = let places = c.places_of.ensures ∙ ap needed c.program.view_is in record {
  edges_room = edges_fit _ (laid_for c.program.view_is c.program.invariant).accepted c.requires.edges_room;
  out_len = places_long c.args.program.now c.args.work.now c.statements-count.result c.places_of.result c.statements-count.ensures.is (omega (arith, places)) (omega (arith, places, c.requires.work_room)) ∙ places;
}

pub returns : goal.returns
unfolding writing_alone
returns c = let places = c.places_of.ensures ∙ ap needed c.program.view_is in
    put_held c.args.program.now c.args.work.now c.statements-count.result c.places_of.result c.statements-count.ensures.is (omega (arith, places)) (omega (arith, places, c.requires.work_room)) c.held_sets.new.out c.held_sets.auto.out _ _ c.held_sets.ensures (rw c.program.view_is at c.put_writing.ensures)
