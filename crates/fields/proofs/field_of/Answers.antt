-- `fields::field_of` meets its contract: each return is one case of `field_of`. Assumes nothing.
use Rattle.std.proofs.Common.{arith, sym, ap, ◌∙◌, ◌<◌, to_z-of_z}
use Rattle.fields.specs.Field.{answer, negative, positive}
use Rattle.fields.specs.FieldLoops.{found_blank, found_minus, found_plus, decimal_rest, told_some, told_none, negative_zero, negative_some, word_plus, word_minus, minus_fits}
use Rattle.std.specs.Prelude.{Some}
use Rattle.fields.proofs.field_of.Goals as goal

pub returns-in_err-first : goal.returns-in_err-first
returns-in_err-first c =
    c.from_residual.ensures ∙ ap answer (sym (found_blank _ c.in_err-first.ensures c.requires))

-- behind a minus sign
pub returns-in_err-m : goal.returns-in_err-m
returns-in_err-m c =
    c.from_residual-in_err-m.ensures
    ∙ ap answer (sym (found_minus _ c.in_ok-first.ensures c.requires c.if-cs-first-eq45.true ∙ ap negative (told_none c.in_err-m.ensures)))

pub returns-then-m-eq0 : goal.returns-then-m-eq0
returns-then-m-eq0 c =
    ap answer (sym (found_minus _ c.in_ok-first.ensures c.requires c.if-cs-first-eq45.true ∙ ap negative (told_some c.in_ok-m.ensures) ∙ negative_zero _ c.if-m-eq0.true))

pub overflow_cast-result : goal.overflow_cast-result
overflow_cast-result c = record { sfits = omega (arith, decimal_rest _ _ c.requires (told_some c.in_ok-m.ensures)) }

pub overflow_sub-result : goal.overflow_sub-result
overflow_sub-result c = minus_fits _ (decimal_rest _ _ c.requires (told_some c.in_ok-m.ensures)) c.if-m-eq0.false

pub returns-then-cs-first-eq45 : goal.returns-then-cs-first-eq45
returns-then-cs-first-eq45 c =
    let small : c.in_ok-m.m < 1000000 = decimal_rest _ _ c.requires (told_some c.in_ok-m.ensures) in
    ap Some (to_z-of_z (minus_fits _ small c.if-m-eq0.false) ∙ word_minus _ small c.if-m-eq0.false)
    ∙ ap answer (sym (found_minus _ c.in_ok-first.ensures c.requires c.if-cs-first-eq45.true ∙ ap negative (told_some c.in_ok-m.ensures) ∙ negative_some _ c.if-m-eq0.false))

-- with no sign
pub returns-in_err-m-2 : goal.returns-in_err-m-2
returns-in_err-m-2 c =
    c.from_residual-in_err-m-2.ensures
    ∙ ap answer (sym (found_plus _ c.in_ok-first.ensures c.requires c.if-cs-first-eq45.false ∙ ap positive (told_none c.in_err-m-2.ensures)))

pub overflow_cast-result-2 : goal.overflow_cast-result-2
overflow_cast-result-2 c = record { sfits = omega (arith, decimal_rest _ _ c.requires (told_some c.in_ok-m-2.ensures)) }

pub returns : goal.returns
returns c =
    ap Some (word_plus _ (decimal_rest _ _ c.requires (told_some c.in_ok-m-2.ensures)))
    ∙ ap answer (sym (found_plus _ c.in_ok-first.ensures c.requires c.if-cs-first-eq45.false ∙ ap positive (told_some c.in_ok-m-2.ensures)))
