-- `run_printer::each_argument` meets its contract: an error is that of a call. Assumes nothing.
use Rattle.std.specs.Prelude.{Err}
use Rattle.std.proofs.Common.{ap, sym, ◌∙◌}
use Rattle.std.proofs.lemmas.Result.{err_from_is_err_and}
use Rattle.std.proofs.lemmas.Fn.{says_at}
use Rattle.run_printer.proofs.each_argument.Goals as goal

pub returns-in_err-each : goal.returns-in_err-each
returns-in_err-each g c =
    let e = err_from_is_err_and c.from_residual.result c.from_residual.ensures.1 in
    rw e.1 (_, says_at g.F.Fn c.each.ensures (c.in_err-each.was ∙ ap Err (sym e.2)))
