-- `analysis::is_clean` meets its contract. Assumes nothing.
use mathlib.Core.Path.{ap}
use Rattle.analysis.specs.declared.Examined.{Examined}
use Rattle.analysis.specs.Reported.{examined_in}
use Rattle.analysis.proofs.is_clean.Goals as goal

pub returns : goal.returns
unfolding examined_in
returns c = ap (λ (e : Examined). e.clean) c.report_sized.ensures.answer
