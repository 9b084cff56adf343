-- `line_printer::put_number` meets its contract: the digits behind place k are written, spaces stand before. Assumes nothing.
use Rattle.std.proofs.Common.{ap, nat_abs, w32, to_z-of_z}
use Rattle.line_printer.specs.PrintLoops.{abs_less, filling_next, room_minus, filled_field, filled_minus_field}
use Rattle.line_printer.proofs.put_number.Goals as goal

pub loop-m-preserved : goal.loop-m-preserved
loop-m-preserved c = filling_next c.loop-m.invariant c.loop-m-test.true

pub overflow_sub-field : goal.overflow_sub-field
overflow_sub-field c =
    let word = to_z-of_z {w = w32} {z = c.args.n} c.ranges.n in
    room_minus c.loop-m.invariant c.loop-m-test.false (rw word (abs_less c.args.n c.requires.0 (rw word at c.if-n-lt0.true)))

pub returns-then-n-lt0 : goal.returns-then-n-lt0
returns-then-n-lt0 c =
    let word = to_z-of_z {w = w32} {z = c.args.n} c.ranges.n in
    filled_minus_field c.loop-m.invariant c.loop-m-test.false c.args.n (ap nat_abs word) c.requires.0 (rw word at c.if-n-lt0.true)

pub returns-else-n-lt0 : goal.returns-else-n-lt0
returns-else-n-lt0 c =
    let word = to_z-of_z {w = w32} {z = c.args.n} c.ranges.n in
    filled_field c.loop-m.invariant c.loop-m-test.false c.args.n (ap nat_abs word) (rw word at c.if-n-lt0.false)
