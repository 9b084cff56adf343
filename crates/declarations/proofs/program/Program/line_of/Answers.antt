-- `declarations::program::Program::line_of` meets its contract. Assumes nothing.
use Rattle.std.proofs.Common.{arith}
use Rattle.declarations.specs.Laid.{few_statements, line_small}
use Rattle.declarations.proofs.program.Program.line_of.Goals as goal

pub overflow_add-result : goal.overflow_add-result
overflow_add-result c = omega (arith, c.requires, few_statements c.self.view_is c.self.invariant, line_small c.self.view_is c.self.invariant)
