-- `modes::takes_to_write_alone` meets its contract. Assumes nothing.
use Rattle.modes.specs.ModeLoops.{to_write_alone}
use Rattle.modes.proofs.takes_to_write_alone.Goals as goal

pub returns : goal.returns
returns c = to_write_alone _ c.args.s c.requires c.takes_to_read_at.ensures
