-- `fields::unsigned` meets its contract: each return is one case of `decimal_of`. Assumes nothing.
use Rattle.std.proofs.Common.{sym, ap, ◌∙◌, length, eqb-true}
use Rattle.std.proofs.lemmas.Bool.{eqb-false}
use Rattle.fields.specs.Field.{answer}
use Rattle.fields.specs.FieldLoops.{decimal_nil, decimal_lone, decimal_led, decimal_digits}
use Rattle.fields.proofs.unsigned.Goals as goal

pub returns-in_err-first : goal.returns-in_err-first
returns-in_err-first c = c.from_residual.ensures ∙ ap answer (sym (decimal_nil _ c.in_err-first.ensures.cases))

pub returns-then-is_empty : goal.returns-then-is_empty
returns-then-is_empty c =
    let none_behind = eqb-true (length c.in_ok-first.rest.now) 0 (sym c.if-is_empty.ensures) in
    rw c.in_ok-first.ensures.cases.0 (ap answer (sym (decimal_lone _ _ c.if-first-eq48.true none_behind)))

pub returns-then-first-eq48 : goal.returns-then-first-eq48
returns-then-first-eq48 c =
    let some_behind = eqb-false (length c.in_ok-first.rest.now) 0 (sym c.if-is_empty.ensures) in
    rw c.in_ok-first.ensures.cases.0 (ap answer (sym (decimal_led _ _ c.if-first-eq48.true some_behind)))

pub returns : goal.returns
returns c =
    let whole = c.in_ok-first.ensures.cases.0 in
    c.digits.ensures ∙ rw whole (ap answer (sym (decimal_digits _ _ c.if-first-eq48.false)))
