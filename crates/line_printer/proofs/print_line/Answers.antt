-- `line_printer::print_line` meets its contract: each return is one case of the answer, and a whole line is the part put back.
-- Assumes nothing.
use native.Mathlib.Omega.{arith}
use borrow.Author.Rules.{rules}
use mathlib.Core.Path.{◌≡◌, sym, ◌∙◌}
use mathlib.Core.Bool.{true}
use Rattle.lines.specs.Line.{all_in_field}
use Rattle.line_printer.specs.PrintLoops.{printed_whole}
use Rattle.line_printer.proofs.print_line.Goals as goal

pub returns-clause-buffer : goal.returns-clause-buffer
returns-clause-buffer c =
    let good : all_in_field c.args.numbers ≡ true = sym c.all_in_range.ensures ∙ c.if-not-all_in_range.false in
    rw c.put_line.ensures (printed_whole c.args.out.now c.args.at c.args.numbers good (search rules) (omega arith)).1
