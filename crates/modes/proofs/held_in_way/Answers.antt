-- `modes::held_in_way` meets its contract. Assumes nothing.
use Rattle.modes.specs.ModeLoops.{writes_at}
use Rattle.modes.proofs.held_in_way.Goals as goal

pub returns-in-Some : goal.returns-in-Some
returns-in-Some c = rw (← writes_at _ c.args.s c.requires c.writes_at.ensures, c.in-Some.is)

pub returns-in-None : goal.returns-in-None
returns-in-None c = rw (← writes_at _ c.args.s c.requires c.writes_at.ensures, c.in-None.is)
