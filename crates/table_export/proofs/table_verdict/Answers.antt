-- `table_export::table_verdict` meets its contract. Assumes nothing.
use mathlib.Core.Path.{sym, ap, ◌∙◌}
use Rattle.table.proofs.VerdictLaws.{reading_ok, reading_err}
use Rattle.table_export.specs.Packed.{packed_verdict}
use Rattle.table_export.proofs.table_verdict.Goals as goal

pub returns-in-Ok : goal.returns-in-Ok
returns-in-Ok c = ap packed_verdict (sym (reading_ok c.args.text.now _ (sym c.read.ensures ∙ c.in-Ok.is)))

pub returns-in-Err : goal.returns-in-Err
returns-in-Err c =
    rw (c.pack.ensures, c.number.ensures, c.line.ensures)
    (ap packed_verdict (sym (reading_err c.args.text.now c.in-Err.refusal (sym c.read.ensures ∙ c.in-Err.is))))
