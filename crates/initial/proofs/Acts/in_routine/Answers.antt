-- `initial::Acts::in_routine` meets its contract. Assumes nothing.
use Rattle.std.specs.Prelude.{ℕ, ◌≡◌, ◌-◌}
use Rattle.std.proofs.Common.{ap₂, ◌∙◌, arith, rules, of_calls}
use Rattle.table.specs.Table.{table_of, routine}
use Rattle.declarations.specs.Laid.{laid_for, few_routines}
use Rattle.report.specs.Over.{union_from}
use Rattle.edges.specs.RoutineLaws.{first_at, end_at, end_there}
use Rattle.initial.specs.InitialSets.{own_at, in_routine}
use Rattle.initial.proofs.Acts.in_routine.Goals as goal

pub overflow_add-r : goal.overflow_add-r
overflow_add-r c = omega (arith, c.requires, few_routines c.program.view_is c.program.invariant)

pub returns : goal.returns
unfolding in_routine
returns c =
    let l = laid_for c.program.view_is c.program.invariant in
    let t = table_of c.args.self.now.program.now in
    let own = own_at c.args.self.now.act c.args.self.now.flow.now t in
    let from : c.value_at-begin.result ≡ (routine t c.args.r).first = c.value_at-begin.ensures ∙ first_at _ l.accepted _ l.measured.firsts _ c.requires in
    let many : c.value_at-end.result - c.value_at-begin.result ≡ (routine t c.args.r).count = omega (arith, from, c.value_at-end.ensures, end_at _ l.accepted _ l.measured.firsts _ c.requires) in
    c.unite_each.ensures own (λ s r low high h. search (rules, of_calls)) ∙ ap₂ (λ (a n : ℕ). union_from a n own) from many

pub unite_each-requires : goal.unite_each-requires
unite_each-requires c = λ s low high.
    let l = laid_for c.program.view_is c.program.invariant in
    omega (arith, c.value_at-end.ensures, end_there _ l.accepted _ l.measured.firsts _ c.requires, high)
