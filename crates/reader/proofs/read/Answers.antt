-- `reader::read` meets its contract: the numbers of the text before zeros. Assumes nothing.
use mathlib.Core.Path.{ap, sym, ◌∙◌}
use mathlib.Core.List.{List}
use lib.IntN.{ℤ}
use Rattle.std.specs.Prelude.{Result, Ok}
use Rattle.std.proofs.lemmas.Result.{err_from_is_err_and}
use Rattle.table.specs.declared.Refusal.{Refusal}
use Rattle.lines.proofs.LineLoops.{page_padded}
use Rattle.table.proofs.VerdictLaws.{reading_refused, reading_accepted}
use Rattle.reader.proofs.read.Goals as goal

pub returns : goal.returns
returns c =
    ap {B = Result (List ℤ) Refusal} (λ (l : List ℤ). Ok l) (page_padded c.args.text.now _ _ c.line_count-count.ensures (c.read_into.ensures.numbers c.in_ok-read_into.was))
    ∙ reading_accepted c.args.text.now (sym c.read_into.ensures.verdict ∙ c.in_ok-read_into.was)

pub returns-in_err-read_into : goal.returns-in_err-read_into
returns-in_err-read_into c =
    let p = err_from_is_err_and c.from_residual.result c.from_residual.ensures.1 in
    rw (p.1, p.2) (reading_refused c.args.text.now _ (sym c.read_into.ensures.verdict ∙ c.in_err-read_into.was))
