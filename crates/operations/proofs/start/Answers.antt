-- `operations::start` meets its contract. Assumes nothing.
use Rattle.std.proofs.Common.{arith}
use Rattle.run_state.specs.TableLaws.{first_small}
use Rattle.operations.proofs.start.Goals as goal

pub overflow_cast-state : goal.overflow_cast-state
overflow_cast-state c = record { fits = omega (arith, first_small c.program.invariant c.args.routine) }
