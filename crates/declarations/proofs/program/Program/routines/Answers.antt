-- `declarations::program::Program::routines` meets its contract. Assumes nothing.
use Rattle.std.proofs.Common.{refl, arith}
use Rattle.declarations.specs.Laid.{few_routines}
use Rattle.declarations.proofs.program.Program.routines.Goals as goal

pub returns-clause-few : goal.returns-clause-few
returns-clause-few c = omega (arith, c.field_of.ensures.is, few_routines refl c.self.invariant)
