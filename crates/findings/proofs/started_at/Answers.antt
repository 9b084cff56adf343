-- `findings::started_at` meets its contract. Assumes nothing.
use Rattle.std.proofs.Common.{refl, sym, ◌∙◌}
use Rattle.findings.specs.LineLaws.{seen, started_is}
use Rattle.findings.proofs.started_at.Goals as goal

pub returns-in-Some : goal.returns-in-Some
returns-in-Some c = c.one.ensures ∙ started_is _ _ (seen c.program.view_is _ c.line_of.ensures refl) (sym c.in-Some.is ∙ c.starts_at.ensures)

pub returns-in-None : goal.returns-in-None
returns-in-None c = started_is _ _ (seen c.program.view_is _ c.line_of.ensures refl) (sym c.in-None.is ∙ c.starts_at.ensures)
