-- `line_printer::all_in_range` meets its contract: `all` answers what the definition says. Assumes nothing.
use Rattle.std.proofs.Common.{◌∙◌, rules, tests}
use Rattle.std.proofs.lemmas.Iterator.{YieldsList-from_slice}
use Rattle.std.proofs.lemmas.Iterator.Search.{all_from_yields_List}
use Rattle.fields.specs.Field.{in_field}
use Rattle.line_printer.specs.PrintLoops.{all_are_in_field}
use Rattle.line_printer.proofs.all_in_range.Goals as goal

pub returns : goal.returns
returns c =
    all_from_yields_List in_field _ _ _ c.all.ensures.ran (YieldsList-from_slice c.args.numbers cc) (λ x b q k. search (rules, tests))
    ∙ all_are_in_field c.args.numbers
