-- `lines::read_page` meets its contract: the numbers of the text before zeros. Assumes nothing.
use Rattle.std.proofs.Common.{◌∙◌, sym, ap}
use Rattle.std.specs.Prelude.{Ok}
use Rattle.fields.specs.FieldLoops.{told_none}
use Rattle.lines.proofs.LineLoops.{page_padded}
use Rattle.lines.proofs.LineLaws.{page_good}
use Rattle.lines.proofs.read_page.Goals as goal

pub returns-in-None : goal.returns-in-None
returns-in-None c =
    let good = told_none c.in-None.ensures.found in
    ap Ok (page_padded c.args.text.now _ _ c.line_count-count.ensures (c.in-None.ensures.numbers good)) ∙ sym (page_good c.args.text.now good)
