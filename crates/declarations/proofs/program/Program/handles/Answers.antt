-- `declarations::program::Program::handles` meets its contract. Assumes nothing.
use Rattle.std.proofs.Common.{refl, arith}
use Rattle.declarations.specs.Laid.{few_handles}
use Rattle.declarations.proofs.program.Program.handles.Goals as goal

pub returns-clause-few : goal.returns-clause-few
returns-clause-few c = omega (arith, c.field_of.ensures.is, few_handles refl c.self.invariant)
