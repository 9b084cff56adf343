-- `own_holds::either_holds` meets its contract. Assumes nothing.
use Rattle.std.specs.Prelude.{◌≤◌, length}
use Rattle.std.proofs.Common.{ap, arith, ◌∙◌, length-take-le}
use Rattle.table.specs.Header.{statements}
use Rattle.table.proofs.FrontLaws.{first_kept}
use Rattle.own_holds.specs.OwnLaws.{needed, edges_fit}
use Rattle.declarations.specs.Laid.{laid_for}
use Rattle.held_edges.specs.TableEdges.{writing_alone}
use Rattle.own_holds.proofs.either_holds.Goals as goal

pub held_sets-requires : goal.held_sets-requires
held_sets-requires c =
    let places = c.places_of-places.ensures ∙ ap needed c.program.view_is in
    let fits : c.places_of-places.result ≤ length c.args.work.now = omega (arith, c.requires.work_room, places) in
    record { edges_room = edges_fit _ (laid_for c.program.view_is c.program.invariant).accepted c.requires.edges_room; out_len = length-take-le _ _ fits ∙ places }

pub returns : goal.returns
unfolding writing_alone
returns c =
    let places = c.places_of-places.ensures ∙ ap needed c.program.view_is in
    let fits : c.places_of-places.result ≤ length c.args.work.now = omega (arith, c.requires.work_room, places) in
    first_kept c.places_of-places.result c.args.work.now c.held_sets.new.out fits c.held_sets.auto.out (statements c.args.program.now) (omega (arith, places)) ∙ c.held_sets.ensures
