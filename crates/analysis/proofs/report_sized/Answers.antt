-- `analysis::report_sized` meets its contract. Assumes nothing.
use mathlib.Core.Path.{sym, ◌∙◌}
use Rattle.analysis.specs.ReportedLaws.{bad_length_answer, bad_length_written}
use Rattle.analysis.proofs.report_sized.Goals as goal

pub returns-then-not-has_length : goal.returns-then-not-has_length
returns-then-not-has_length c = let e = sym c.has_length.ensures ∙ c.if-not-has_length.true in
    record { answer = bad_length_answer c.args.text.now e _; buffer = bad_length_written c.args.text.now e _ }
