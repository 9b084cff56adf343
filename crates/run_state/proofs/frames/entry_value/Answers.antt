-- `run_state::frames::entry_value` meets its contract. Assumes nothing.
use mathlib.Core.Path.{◌≡◌, sym, ◌∙◌}
use native.Mathlib.Omega.{arith}
use Prim.Native.Nat.{◌+◌}
use Rattle.table.specs.Fields.{field}
use Rattle.run_state.specs.TableLaws.{argument_value, local_value, local_small}
use Rattle.run_state.proofs.frames.entry_value.Goals as goal

pub returns-else-field_in-eq0 : goal.returns-else-field_in-eq0
returns-else-field_in-eq0 c =
    let a = c.args in
    let there = c.requires.1 in
    let local : field a.numbers.now (1 + a.h) 3 ≡ 0 → ⊥ = λ e. c.if-field_in-eq0.false (c.field_in.ensures.is ∙ e) in (
      c.field_in-else-field_in-eq0.ensures.is ∙ local_value a.numbers.now a.values.now a.caller a.g a.h there local,
      omega (arith, c.field_in-else-field_in-eq0.ensures.is, local_small a.numbers.now a.values.now a.caller a.g a.h there c.requires.2 local),
    )

pub returns-then-field_in-eq0 : goal.returns-then-field_in-eq0
returns-then-field_in-eq0 c =
    let a = c.args in
    (argument_value a.numbers.now a.values.now a.caller a.g a.h c.requires.1 _ (sym c.field_in.ensures.is ∙ c.if-field_in-eq0.true) c.value_of.ensures.0, c.value_of.ensures.1)
