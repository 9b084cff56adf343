-- `fields::read_field` meets its contract: the part that it reads is six characters long, or the text ends before. Assumes nothing.
use Rattle.std.proofs.Common.{ap, sym, ◌∙◌, arith, drop, length-take, length-drop}
use Rattle.fields.specs.Field.{answer}
use Rattle.fields.specs.FieldLoops.{field_short}
use Rattle.fields.proofs.read_field.Goals as goal

pub returns-in_err-last : goal.returns-in_err-last
returns-in_err-last c = c.from_residual.ensures ∙ ap answer (sym (field_short _ (λ e. omega (arith, e, c.in_err-last.ensures, length-take 6 (drop c.args.at c.args.text.now), length-drop c.args.at c.args.text.now))))

pub returns-then-last-at : goal.returns-then-last-at
returns-then-last-at c = ap answer (sym (field_short _ (λ e. omega (arith, e, c.in_ok-last.ensures, c.if-last-at.true, length-take 6 (drop c.args.at c.args.text.now), length-drop c.args.at c.args.text.now))))
