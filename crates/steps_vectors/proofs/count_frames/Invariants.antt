-- `steps_vectors::count_frames` meets its contract: each step keeps the run standing. Assumes nothing.
use Rattle.table.specs.Table.{table_of}
use Rattle.run_state.specs.Shown.{Standing}
use Rattle.steps_vectors.proofs.count_frames.Given as goal

abbrev pub invariant-loop-i : goal.invariant-loop-i
invariant-loop-i g l = Standing (table_of l.loaded.program) l.state
