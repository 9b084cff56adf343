-- `steps_vectors::take_turns` meets its contract: each step keeps both runs standing. Assumes nothing.
use Rattle.table.specs.Table.{table_of}
use Rattle.run_state.specs.Shown.{Standing}
use Rattle.steps_vectors.proofs.take_turns.Given as goal

abbrev pub invariant-loop-i : goal.invariant-loop-i
invariant-loop-i g l = Standing (table_of l.loaded_a.program) l.state_a × Standing (table_of l.loaded_b.program) l.state_b
