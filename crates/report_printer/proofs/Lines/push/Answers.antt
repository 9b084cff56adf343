-- `report_printer::Lines::push` meets its contract. Assumes nothing.
use Rattle.std.specs.Prelude.{◌+◌}
use Rattle.std.proofs.Common.{refl, arith, ap, ◌∙◌}
use Rattle.report_printer.specs.WriteLaws.{put_line}
use Rattle.report_printer.proofs.Lines.push.Goals as goal

pub returns : goal.returns
returns c =
    let put = put_line _ _ _ (omega arith) c.requires.0 c.requires.1 in
    record { same = refl; used_is = ap (◌+◌ _) put.0; bytes_are = c.print_line.ensures.buffer ∙ put.1 }
