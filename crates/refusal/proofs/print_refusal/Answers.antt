-- `refusal::print_refusal` meets its contract: a number that is no word is no field, else the printer answers. Assumes nothing.
use Rattle.std.proofs.Common.{◌∙◌, w32, to_z-of_z}
use Rattle.refusal.specs.Refusal.{refusal_line}
use Rattle.refusal.specs.RefusalLaws.{refusal_printed, refusal_whole, refusal_none, no_number, no_line, no_word, nothing_said}
use Rattle.refusal.proofs.print_refusal.Goals as goal

pub returns-in_default : goal.returns-in_default
returns-in_default c =
    let none = nothing_said _ c.args.out.now (no_number c.args.number c.args.line _ (no_word _ c.in_default.ensures)) in
    record { bytes = none.0; buffer = none.1 }

pub returns-in_default-try_from : goal.returns-in_default-try_from
returns-in_default-try_from c =
    let none = nothing_said _ c.args.out.now (no_line c.args.number c.args.line _ (no_word _ c.in_default-try_from.ensures)) in
    record { bytes = none.0; buffer = none.1 }

pub returns-in-Ok-print_line : goal.returns-in-Ok-print_line
unfolding refusal_line
returns-in-Ok-print_line c =
    let said = c.in-Ok-print_line.ensures in
    record {
      bytes = refusal_whole c.args.number c.args.line _ (rw (c.in-Ok.ensures.1, c.in-Ok-try_from.ensures.1, to_z-of_z {w = w32} c.in-Ok.ensures.0, to_z-of_z {w = w32} c.in-Ok-try_from.ensures.0) at said.answer);
      buffer = (rw (c.in-Ok.ensures.1, c.in-Ok-try_from.ensures.1, to_z-of_z {w = w32} c.in-Ok.ensures.0, to_z-of_z {w = w32} c.in-Ok-try_from.ensures.0) at said.buffer) ∙ refusal_printed c.args.number c.args.line _;
    }

pub returns-in-Err : goal.returns-in-Err
unfolding refusal_line
returns-in-Err c =
    let said = c.in-Err.ensures in
    record {
      bytes = refusal_none c.args.number c.args.line _ (rw (c.in-Ok.ensures.1, c.in-Ok-try_from.ensures.1, to_z-of_z {w = w32} c.in-Ok.ensures.0, to_z-of_z {w = w32} c.in-Ok-try_from.ensures.0) at said.answer);
      buffer = (rw (c.in-Ok.ensures.1, c.in-Ok-try_from.ensures.1, to_z-of_z {w = w32} c.in-Ok.ensures.0, to_z-of_z {w = w32} c.in-Ok-try_from.ensures.0) at said.buffer) ∙ refusal_printed c.args.number c.args.line _;
    }
