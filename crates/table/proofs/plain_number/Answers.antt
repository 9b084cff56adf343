-- `table::plain_number` meets its contract: by the number's sign. Assumes nothing.
use lib.Dec.{lit<}
use Rattle.table.proofs.Signs.{negative, natural}
use Rattle.table.proofs.plain_number.Goals as goal

pub returns-then-x-lt0 : goal.returns-then-x-lt0
returns-then-x-lt0 c = record { is = negative c.args.x c.ranges.x c.if-x-lt0.true; small = lit< tt }

pub returns-else-x-lt0 : goal.returns-else-x-lt0
returns-else-x-lt0 c = let n = natural c.args.x c.ranges.x c.if-x-lt0.false in record { is = n.is; small = n.small }
