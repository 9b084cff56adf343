-- `lines::put_quick` meets its contract: three numbers and five zeros are all of the line, or nothing is put. Assumes nothing.
use Rattle.std.proofs.Common.{rules, w32, to_z-of_z}
use Rattle.lines.proofs.LineLoops.{reading_start, three_put}
use Rattle.lines.proofs.put_quick.Goals as goal

pub returns-in_default : goal.returns-in_default
returns-in_default c = reading_start _ _ c.requires.eight

pub returns : goal.returns
returns c =
    rw (three_put _ _ _ _ c.requires.eight _ (c.fill.ensures.after (search rules)), to_z-of_z {w = w32} {z = c.in-Some.x} (search rules), to_z-of_z {w = w32} {z = c.in-Some.y} (search rules), to_z-of_z {w = w32} {z = c.in-Some.z} (search rules))
    c.in-Some.ensures.reading
