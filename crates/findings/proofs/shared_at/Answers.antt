-- `findings::shared_at` meets its contract. Assumes nothing.
use Rattle.std.proofs.Common.{refl, sym, ◌∙◌}
use Rattle.findings.specs.LineLaws.{seen, start_shares, other_shares}
use Rattle.findings.proofs.shared_at.Goals as goal

pub returns-in-Some : goal.returns-in-Some
returns-in-Some c = let a = c.args in
    rw (c.clash.ensures, c.value_at-in-Some-3.ensures, c.value_at-in-Some-2.ensures, c.value_at-in-Some.ensures, c.value_at.ensures)
    (sym (start_shares _ _ (seen c.program.view_is _ c.line_of.ensures refl) a.reads.now a.writes.now a.later.now a.half _ (sym c.starts_at.ensures ∙ c.in-Some.is)))

pub returns-in-None : goal.returns-in-None
returns-in-None c = let a = c.args in
    sym (other_shares _ _ (seen c.program.view_is _ c.line_of.ensures refl) a.reads.now a.writes.now a.later.now a.half (sym c.starts_at.ensures ∙ c.in-None.is))
