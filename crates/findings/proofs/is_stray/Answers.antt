-- `findings::is_stray` meets its contract. Assumes nothing.
use Rattle.std.proofs.Common.{refl, sym, ◌∙◌}
use Rattle.findings.specs.LineLaws.{seen, give_strays, other_strays}
use Rattle.findings.proofs.is_stray.Goals as goal

pub returns-in-Some : goal.returns-in-Some
returns-in-Some c =
    rw (c.subset.ensures, c.is_single.ensures, c.value_at-locks.ensures)
    (sym (give_strays _ _ (seen {g = c.args.numbers.now} refl _ c.requires refl) c.args.flow.now c.args.held _ (sym c.gives_at.ensures ∙ c.in-Some.is)))

pub returns-in-None : goal.returns-in-None
returns-in-None c = sym (other_strays _ _ (seen {g = c.args.numbers.now} refl _ c.requires refl) c.args.flow.now c.args.held (sym c.gives_at.ensures ∙ c.in-None.is))
