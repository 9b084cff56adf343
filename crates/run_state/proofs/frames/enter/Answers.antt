-- `run_state::frames::enter` meets its contract. Assumes nothing.
use mathlib.Core.Path.{ap, ◌∙◌}
use Prim.Native.Nat.{ℕ}
use native.Mathlib.Omega.{arith}
use Rattle.table.specs.Table.{table_of}
use Rattle.declarations.specs.Laid.{laid_for}
use Rattle.run_state.specs.Shown.{entry_value}
use Rattle.run_state.specs.TableLaws.{handles_there, bounds}
use Rattle.run_state.proofs.Filling.{setting_next, value_kept}
use Rattle.run_state.proofs.frames.enter.Goals as goal

pub entry_value-v-requires : goal.entry_value-v-requires
entry_value-v-requires c =
    let l = laid_for c.program.view_is c.program.invariant in
    let there = (bounds _ l.accepted c.args.routine).there in
    rw c.program.view_is (c.requires.2, omega (arith, rw l.measured.handles_first at c.loop-h-test.true, there), l.accepted, handles_there _ c.args.loaded.now.long)

pub loop-h-preserved : goal.loop-h-preserved
loop-h-preserved c =
    let l = laid_for c.program.view_is c.program.invariant in
    let s = c.loop-h.invariant in
    rw c.put_value.ensures
    (setting_next _ _ _ _ _ _ _ _ _ _ s (rw l.measured.handles_first (bounds _ l.accepted c.args.routine).few) c.requires.1 c.loop-h-test.true
    ((rw c.program.view_is at c.entry_value-v.ensures.0) ∙ value_kept _ _ _ _ _ _ _ _ _ _ s c.requires.3
    ∙ ap (λ (g : ℕ). entry_value (table_of c.args.loaded.now.program) c.args.values.now c.args.caller g c.loop-h.h) c.value_at-g.ensures))
