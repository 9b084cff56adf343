-- `run_printer::Tail::put_number` meets its contract. Assumes nothing.
use Rattle.std.proofs.Common.{◌∙◌, ap, w32, to_z-of_z}
use Rattle.std.specs.Prelude.{[], ◌∷◌}
use Rattle.run_printer.specs.Words.{put, puts}
use Rattle.run_printer.proofs.WordsLaws.{word_plus, word_minus, puts_one, put_before}
use Rattle.run_printer.proofs.Tail.put_number.Goals as goal

pub returns-then-x-lt0 : goal.returns-then-x-lt0
returns-then-x-lt0 c =
    let word = to_z-of_z {w = w32} {z = c.args.x} c.ranges.x in
    let digits = c.put_digits.ensures in
    put_before (c.put_text.ensures.same ∙ digits.same) (c.put_text.ensures.is ∙ ap (puts (32 ∷ 45 ∷ [])) (rw (c.from.ensures, c.unsigned_abs.ensures.value, word) at digits.is) ∙ word_minus c.args.x _ (rw word at c.if-x-lt0.true))

pub returns-else-x-lt0 : goal.returns-else-x-lt0
returns-else-x-lt0 c =
    let word = to_z-of_z {w = w32} {z = c.args.x} c.ranges.x in
    let digits = c.put_digits.ensures in
    put_before (c.put_byte.ensures.same ∙ digits.same) (c.put_byte.ensures.is ∙ puts_one _ _ ∙ ap (put 32) (rw (c.from.ensures, c.unsigned_abs.ensures.value, word) at digits.is) ∙ word_plus c.args.x _ (rw word at c.if-x-lt0.false))
