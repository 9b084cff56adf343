-- `run_printer::Tail::put_cell` meets its contract. Assumes nothing.
use Rattle.std.proofs.Common.{◌∙◌, ap, w32, to_z-of_z}
use Rattle.std.specs.Prelude.{[], ◌∷◌}
use Rattle.fields.specs.Field.{decimal_text}
use Rattle.run_printer.specs.Words.{puts, word_text}
use Rattle.run_printer.proofs.WordsLaws.{cell_puts, puts_one, put_before}
use Rattle.run_printer.proofs.Tail.put_cell.Goals as goal

pub returns : goal.returns
returns c =
    let end = c.put_byte.ensures in
    let word = c.put_number.ensures in
    let digits = c.put_digits.ensures in
    let name = c.put_text.ensures in
    put_before (name.same ∙ digits.same ∙ word.same ∙ end.same)
    (name.is
    ∙ ap (puts (99 ∷ 101 ∷ 108 ∷ 108 ∷ 32 ∷ []))
    (digits.is ∙ ap (puts (decimal_text 20 c.args.cell))
    ((rw (to_z-of_z {w = w32} {z = c.args.value} c.ranges.value) at word.is) ∙ ap (puts (word_text c.args.value)) (end.is ∙ puts_one _ _)))
    ∙ cell_puts c.args.cell c.args.value _)
