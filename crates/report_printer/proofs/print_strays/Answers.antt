-- `report_printer::print_strays` meets its contract. Assumes nothing.
use Rattle.std.specs.Prelude.{◌≡◌, ◌<◌}
use mathlib.Core.List.{◌∷◌, []}
use Rattle.std.proofs.Common.{refl, arith, ◌∙◌}
use Rattle.table.specs.Header.{statements}
use Rattle.report.specs.Report.{stray_line}
use Rattle.findings.specs.Steps.{stray_in}
use Rattle.report_printer.specs.Lines.{strays_by}
use Rattle.report_printer.specs.WriteLaws.{writing_start, writing_eight, writing_room, writing_line, writing_none, writing_done, stray_line_lem, no_line}
use Rattle.report_printer.proofs.Numbers.{word, stray_small}
use Rattle.report_printer.proofs.print_strays.Goals as goal
use Rattle.report_printer.proofs.print_strays.Goals.{then-is_stray, else-is_stray}

pub loop-s-init : goal.loop-s-init
loop-s-init c = (writing_start _ _ _ _ c.requires, refl, c.statements-s-end.ensures.is)

pub push-requires : goal.push-requires
unfolding stray_in stray_line
push-requires c =
    let one_here : strays_by c.args.program.now c.args.flow.now c.args.held.now c.loop-s.s ≡ stray_line c.loop-s.s ∷ [] =
    stray_line_lem _ _ _ _ (rw (← c.value_at.ensures, ← rw c.program.view_is at c.is_stray.ensures) c.if-is_stray.true) in
    let eight = writing_eight c.loop-s.invariant.0 (omega (arith, c.loop-s.invariant.2)) _ one_here in
    rw (word c.loop-s.s (stray_small _ eight)) (eight.range, writing_room c.loop-s.invariant.0 (omega (arith, c.loop-s.invariant.2)) _ one_here)

pub loop-s-preserved : goal.loop-s-preserved
unfolding stray_in stray_line
loop-s-preserved c =
    let i = c.loop-s.invariant in
    let more : c.loop-s.s < statements c.args.program.now = omega (arith, i.2) in
    elim c.if-is_stray.branch [
      | then-is_stray w ↦
          let e : strays_by c.args.program.now c.args.flow.now c.args.held.now c.loop-s.s ≡ stray_line c.loop-s.s ∷ [] =
          stray_line_lem _ _ _ _ (rw (← c.value_at.ensures, ← rw c.program.view_is at c.is_stray.ensures) w.if-is_stray.true) in
          let small = stray_small _ (writing_eight i.0 more _ e) in
          let p = w.push.ensures in
          rw w.lines-is (writing_line i.0 more _ e (rw (word c.loop-s.s small) at p.used_is) (rw (word c.loop-s.s small) at p.bytes_are), p.same ∙ i.1, i.2)
      | else-is_stray w ↦
          let e : strays_by c.args.program.now c.args.flow.now c.args.held.now c.loop-s.s ≡ [] =
          no_line _ _ _ _ (rw (← c.value_at.ensures, ← rw c.program.view_is at c.is_stray.ensures) w.if-is_stray.false) in
          rw w.lines-is (writing_none i.0 more e, i.1, i.2)
    ]

pub returns : goal.returns
returns c = writing_done c.loop-s.invariant.0 (omega (arith, c.loop-s.invariant.2)) c.loop-s.invariant.1
