-- `run_state::frames::enter` meets its contract. Assumes nothing.
use Rattle.table.specs.Table.{table_of}
use Rattle.run_state.proofs.Filling.{Setting}
use Rattle.run_state.proofs.frames.enter.Given as goal

abbrev pub invariant-loop-h : goal.invariant-loop-h
invariant-loop-h l = Setting (table_of l.loaded.program) l.initial.values l.values l.slot l.caller l.from l.end l.h l.fn.arguments
