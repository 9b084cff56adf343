-- `lockset::held_sets` meets its contract. Assumes nothing.
use Rattle.std.specs.Prelude.{List}
use Rattle.std.proofs.Common.{ap, ap₂, ◌∙◌, arith, rules, of_calls}
use Rattle.sets.specs.Least.{Edge, edges_of}
use Rattle.sets.specs.Set.{firsts}
use Rattle.held_edges.specs.TableEdges.{bases_of}
use Rattle.declarations.specs.Laid.{laid_for, few_statements}
use Rattle.lockset.specs.SettleLaws.{locks_are, out_is, held_front}
use Rattle.lockset.proofs.held_sets.Goals as goal

pub fill-requires : goal.fill-requires
fill-requires c = (c.requires.edges_room, omega (arith, few_statements c.program.view_is c.program.invariant))

pub returns : goal.returns
returns c =
    let acc = (laid_for c.program.view_is c.program.invariant).accepted in
    let all = c.firsts-all.ensures ∙ ap firsts c.locks.ensures ∙ locks_are c.args.program.now in
    let bases = c.bases_of-bases.ensures.is ∙ ap bases_of c.program.view_is in
    let edges = ap₂ {C = List Edge} edges_of c.edges.ensures c.also.ensures ∙ c.fill.ensures.filled.is in
    let start = c.fill_each.ensures _ (λ p r l h. search (rules, of_calls)) in
    let out = out_is _ acc _ _ (λ i. omega (arith, c.type_inv.flow i)) _ (λ i. omega (arith, c.type_inv.given i)) c.requires.out_len bases all start edges c.solve.ensures in
    held_front _ acc _ _ (λ i. omega (arith, c.type_inv.flow i)) _ (λ i. omega (arith, c.type_inv.given i)) _ out all (ap (λ b. b.back) bases) c.turn_round.ensures
