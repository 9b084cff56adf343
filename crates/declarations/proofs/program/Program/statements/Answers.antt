-- `declarations::program::Program::statements` meets its contract. Assumes nothing.
use Rattle.std.proofs.Common.{refl, arith}
use Rattle.declarations.specs.Laid.{some_statements, few_statements}
use Rattle.declarations.proofs.program.Program.statements.Goals as goal

pub returns-clause-few : goal.returns-clause-few
returns-clause-few c = omega (arith, c.field_of.ensures.is, few_statements refl c.self.invariant)

pub returns-clause-some : goal.returns-clause-some
returns-clause-some c = omega (arith, c.field_of.ensures.is, some_statements refl c.self.invariant)
