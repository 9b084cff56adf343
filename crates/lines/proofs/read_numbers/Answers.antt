-- `lines::read_numbers` meets its contract: before line i every line is good and its numbers stand in their places. Assumes nothing.
use Rattle.std.proofs.Common.{◌≡◌, ℕ, ◌*◌, sym, ap, ◌∙◌, arith, rules, w32, to_z-of_z}
use Rattle.std.proofs.Math.Path.{refl}
use Rattle.fields.specs.Field.{field_of, answer}
use Rattle.lines.proofs.LineLoops.{told_some, told_none, page_start, page_next, page_stop, page_done, reading_bad, line_next, line_end, line_field, line_last, line_no_feed, next_inside}
use Rattle.lines.proofs.read_numbers.Goals as goal

pub lines-init : goal.lines-init
lines-init c = (page_start _ _ _ c.line_count-lines.ensures c.requires, refl)

pub loop-j-preserved : goal.loop-j-preserved
loop-j-preserved c =
    rw (to_z-of_z {w = w32} {z = c.in-Some.z} (search rules))
    (line_next _ _ c.loop-j.invariant.0 c.in-Some.z c.loop-j-test.true (told_some c.in-Some.ensures), c.loop-j.invariant.1)

pub lines-preserved : goal.lines-preserved
lines-preserved c =
    let p = c.lines.invariant.0 in
    let h = c.lines-test.true in
    (page_next p h (line_end _ _ (next_inside p h).0 c.if-text-at-ne10.false c.loop-j.invariant.0 c.loop-j-test.false) (omega arith), c.loop-j.invariant.1)

pub returns-after-lines : goal.returns-after-lines
returns-after-lines c =
    let all = page_done c.lines.invariant.0 c.lines-test.false in
    record { found = c.lines.invariant.1 ∙ ap answer (sym all.0); numbers = λ g. all.1 }

pub returns-in_default : goal.returns-in_default
returns-in_default c =
    let no_field = ap field_of (line_field c.args.text.now (49 * c.lines.i) c.loop-j.j c.loop-j-test.true) ∙ told_none (sym c.in_default.is ∙ c.field_in.ensures) in
    let bad = page_stop c.lines.invariant.0 c.lines-test.true (reading_bad c.loop-j.invariant.0 c.loop-j-test.true no_field) in
    record { found = ap answer (sym bad); numbers = λ none_bad. let z : ◌≡◌ {A = ℕ} 0 1 = cc in absurd (omega arith) }

pub returns-then-text-at-ne10 : goal.returns-then-text-at-ne10
returns-then-text-at-ne10 c =
    let no_feed = line_no_feed _ (λ e. c.if-text-at-ne10.true (sym (line_last c.args.text.now (49 * c.lines.i)) ∙ e)) in
    let bad = page_stop c.lines.invariant.0 c.lines-test.true no_feed in
    record { found = ap answer (sym bad); numbers = λ none_bad. let z : ◌≡◌ {A = ℕ} 0 1 = cc in absurd (omega arith) }
