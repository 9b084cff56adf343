-- `answer::print_answer` meets its contract. Assumes nothing.
use mathlib.Core.Path.{sym, ◌∙◌}
use Rattle.answer.specs.SaidLaws.{report_said, refusal_left}
use Rattle.answer.proofs.print_answer.Goals as goal

pub returns-in-Ok : goal.returns-in-Ok
returns-in-Ok c =
    let s = report_said c.args.text.now c.args.out.now _ c.report.ensures.buffer _ (sym c.in-Ok.is ∙ c.report.ensures.answer) in
    record { bytes = s.0; room = s.1.0; buffer = s.1.1 }

pub returns-in-Err : goal.returns-in-Err
returns-in-Err c =
    let p = c.print_refusal.ensures in
    let s =
    refusal_left c.args.text.now c.args.out.now _ c.report.ensures.buffer c.in-Err.refusal (sym c.in-Err.is ∙ c.report.ensures.answer) _ _
    (rw (c.number.ensures, c.line.ensures) at p.bytes) (rw (c.number.ensures, c.line.ensures) at p.buffer) in
    record { bytes = s.0; room = s.1.0; buffer = s.1.1 }
