-- `run_printer::Tail::put_cells` meets its contract. Assumes nothing.
use Rattle.std.proofs.Common.{rules, w32, to_z-of_z}
use Rattle.std.specs.Prelude.{pos, slice_index_or, ◌-◌}
use Rattle.run_printer.specs.Words.{cells_text}
use Rattle.run_printer.proofs.WordsLaws.{backing_start, backing_next, backing_done}
use Rattle.run_printer.proofs.Tail.put_cells.Goals as goal

pub loop-i-init : goal.loop-i-init
loop-i-init c = backing_start _ _ _

pub loop-i-preserved : goal.loop-i-preserved
loop-i-preserved c =
    backing_next _ _ _ (pos 0) c.loop-i.invariant c.loop-i-test.true
    (rw (to_z-of_z {w = w32} {z = slice_index_or c.args.cells.now (c.loop-i.i - 1) (pos 0)} (search rules)) at c.put_cell.ensures)

pub returns : goal.returns
unfolding cells_text
returns c = backing_done _ _ _ c.loop-i.invariant c.loop-i-test.false
