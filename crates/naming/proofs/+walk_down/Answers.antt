-- `naming::walk_down` meets its contract: it is the walk, a call at a time. Assumes nothing.
use mathlib.Core.Path.{sym, ◌∙◌}
use native.Mathlib.Omega.{arith}
use Rattle.naming.specs.WalkLaws.{walk_spent, walk_nothing, walk_element}
use Rattle.naming.proofs.+walk_down.Goals as goal

pub returns-then-left-eq0 : goal.returns-then-left-eq0
returns-then-left-eq0 t c = walk_spent _ _ _ _ c.if-left-eq0.true

pub returns-in-None : goal.returns-in-None
returns-in-None t c = walk_nothing _ _ _ _ (sym c.lowest.ensures ∙ c.in-None.is)

pub returns-in-Some : goal.returns-in-Some
returns-in-Some t c =
    c.walk_down.ensures
    ∙ rw (c.difference-next.ensures, c.union.ensures, c.value_at.ensures, c.with_element-now_seen.ensures)
    (walk_element _ _ _ _ _ (omega arith) (sym c.lowest.ensures ∙ c.in-Some.is))
