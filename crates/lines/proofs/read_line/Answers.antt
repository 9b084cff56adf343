-- `lines::read_line` meets its contract: the part that it reads has 49 bytes, or the text ends before. Assumes nothing.
use Rattle.std.proofs.Common.{◌+◌, ◌≤◌, ap, sym, ◌∙◌, arith, rules, w32, to_z-of_z, length, drop, length-take, length-drop}
use Rattle.fields.specs.Field.{field_of, answer}
use Rattle.lines.proofs.LineLoops.{told_some, told_none, reading_bad, line_next, line_end, line_field, line_last, line_no_feed, line_short}
use Rattle.lines.proofs.read_line.Goals as goal

pub returns-in_err-last : goal.returns-in_err-last
returns-in_err-last c = c.from_residual.ensures ∙ ap answer (sym (line_short _ (λ e. omega (arith, e, c.in_err-last.ensures, length-take 49 (drop c.args.at c.args.text.now), length-drop c.args.at c.args.text.now))))

pub returns-then-last-at : goal.returns-then-last-at
returns-then-last-at c = ap answer (sym (line_short _ (λ e. omega (arith, e, c.in_ok-last.ensures, c.if-last-at.true, length-take 49 (drop c.args.at c.args.text.now), length-drop c.args.at c.args.text.now))))

pub loop-j-preserved : goal.loop-j-preserved
loop-j-preserved c =
    rw (to_z-of_z {w = w32} {z = c.in_ok-z.z} (search rules))
    (line_next _ _ c.loop-j.invariant c.in_ok-z.z c.loop-j-test.true (told_some c.in_ok-z.ensures))

pub returns-in_err-z : goal.returns-in_err-z
returns-in_err-z c =
    let no_field = ap field_of (line_field c.args.text.now c.args.at c.loop-j.j c.loop-j-test.true) ∙ told_none (sym c.in_err-z.was ∙ c.field_in.ensures) in
    c.from_residual-in_err-z.ensures ∙ ap answer (sym (reading_bad c.loop-j.invariant c.loop-j-test.true no_field))

pub returns-then-text-at-ne10 : goal.returns-then-text-at-ne10
returns-then-text-at-ne10 c = ap answer (sym (line_no_feed _ (λ e. c.if-text-at-ne10.true (sym (line_last c.args.text.now c.args.at) ∙ e))))

pub returns : goal.returns
returns c =
    let inside : c.args.at + 49 ≤ length c.args.text.now = omega (arith, c.in_ok-last.ensures, c.if-last-at.false) in
    ap answer (sym (line_end _ _ inside c.if-text-at-ne10.false c.loop-j.invariant c.loop-j-test.false))
