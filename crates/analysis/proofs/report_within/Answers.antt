-- `analysis::report_within` meets its contract. Assumes nothing.
use mathlib.Core.Path.{ap, ◌∙◌}
use Rattle.analysis.specs.Reported.{Answer}
use Rattle.analysis.specs.declared.Examined.{Examined}
use Rattle.analysis.specs.ReportedLaws.{read_accepted, read_long, accepted_answer, accepted_written, refused_answer, refused_written}
use Rattle.analysis.proofs.report_within.Goals as goal

pub examine_sized-printed-requires : goal.examine_sized-printed-requires
examine_sized-printed-requires c =
    let r = c.read_into in
    record { accepted = read_accepted c.args.text.now r.result r.new.numbers r.ensures.verdict r.ensures.numbers c.in-Ok.is; numbers_len = read_long c.args.text.now r.result r.new.numbers r.ensures.verdict r.ensures.numbers c.in-Ok.is }

pub returns-in-Ok : goal.returns-in-Ok
returns-in-Ok c =
    let r = c.read_into in
    let p = c.examine_sized-printed.ensures in
    record {
      answer =
          ap {B = Examined} (λ (a : Answer). record { answer = a; clean = c.examine_sized-printed.result.clean }) c.ok_or.ensures.value
          ∙ accepted_answer c.args.text.now r.result r.new.numbers r.ensures.verdict r.ensures.numbers c.in-Ok.is _ _ _ p.bytes p.clean;
      buffer = p.buffer ∙ accepted_written c.args.text.now r.result r.new.numbers r.ensures.verdict r.ensures.numbers c.in-Ok.is _;
    }

pub returns-in-Err : goal.returns-in-Err
returns-in-Err c =
    let r = c.read_into in
    record {
      answer = refused_answer c.args.text.now r.result r.new.numbers r.ensures.verdict r.ensures.numbers _ c.in-Err.is _;
      buffer = refused_written c.args.text.now r.result r.new.numbers r.ensures.verdict r.ensures.numbers _ c.in-Err.is _;
    }
