-- `fields::digits` meets its contract: the digits before the next one say m. Assumes nothing.
use Rattle.std.proofs.Common.{sym, ap, rules}
use Rattle.fields.specs.Field.{answer}
use Rattle.fields.specs.FieldLoops.{digits_next, digits_stop, digits_done, not_digit}
use Rattle.fields.proofs.digits.Goals as goal

pub returns-then-not-is_ascii_digit : goal.returns-then-not-is_ascii_digit
returns-then-not-is_ascii_digit c =
    ap answer (sym (digits_stop c.loop-c.invariant (search rules) (not_digit _ c.if-not-is_ascii_digit.ensures.cases)))

pub loop-c-preserved : goal.loop-c-preserved
loop-c-preserved c =
    let d = c.if-not-is_ascii_digit.ensures.cases in
    rw c.from.ensures (digits_next c.loop-c.invariant (search rules) d.0 d.1)

pub returns : goal.returns
returns c = ap answer (sym (digits_done c.loop-c.invariant (search rules)))
