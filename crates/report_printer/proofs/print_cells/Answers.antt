-- `report_printer::print_cells` meets its contract. Assumes nothing.
use Rattle.std.specs.Prelude.{◌≡◌, map, pos, get_or}
use Rattle.std.proofs.Common.{refl, ◌∙◌}
use Rattle.report_printer.specs.Lines.{cell_numbers, cells_by}
use Rattle.report_printer.specs.WriteLaws.{writing_start, writing_eight, writing_room, writing_line, writing_done}
use Rattle.report_printer.proofs.print_cells.Goals as goal

pub loop-x-init : goal.loop-x-init
loop-x-init c = (writing_start _ _ _ _ c.requires, refl)

pub cell_line-requires : goal.cell_line-requires
unfolding cells_by
cell_line-requires c = rw (c.value_at.ensures, c.value_at-in-loop-x.ensures, c.value_at-in-loop-x-2.ensures) (writing_eight c.loop-x.invariant.0 c.loop-x-test.true _ refl)

pub push-requires : goal.push-requires
unfolding cells_by
push-requires c =
    let i = c.loop-x.invariant.0 in
    rw (c.cell_line.ensures, c.value_at.ensures, c.value_at-in-loop-x.ensures, c.value_at-in-loop-x-2.ensures)
    ((writing_eight i c.loop-x-test.true _ refl).range, writing_room i c.loop-x-test.true _ refl)

pub loop-x-preserved : goal.loop-x-preserved
unfolding cells_by
loop-x-preserved c =
    let p = c.push.ensures in
    let line : c.cell_line.result ≡ map pos (cell_numbers c.loop-x.x (get_or c.args.noted.now.reads c.loop-x.x 0) (get_or c.args.noted.now.writes c.loop-x.x 0) c.args.shared (get_or c.args.noted.now.common c.loop-x.x 0)) =
    rw (← c.value_at.ensures, ← c.value_at-in-loop-x.ensures, ← c.value_at-in-loop-x-2.ensures) c.cell_line.ensures in
    (writing_line c.loop-x.invariant.0 c.loop-x-test.true _ refl (rw line at p.used_is) (rw line at p.bytes_are), p.same ∙ c.loop-x.invariant.1)

pub returns : goal.returns
returns c = writing_done c.loop-x.invariant.0 c.loop-x-test.false c.loop-x.invariant.1
