-- `analysis::report` meets its contract. Assumes nothing.
use mathlib.Core.Path.{ap}
use Rattle.analysis.specs.declared.Examined.{Examined}
use Rattle.analysis.specs.Reported.{Answer, examined_in}
use Rattle.analysis.proofs.report.Goals as goal

pub returns-clause-answer : goal.returns-clause-answer
unfolding examined_in
returns-clause-answer c = ap {B = Answer} (λ (e : Examined). e.answer) c.report_sized.ensures.answer
