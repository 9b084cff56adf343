-- `findings::note_accesses` meets its contract. Assumes nothing.
use Rattle.std.specs.Prelude.{◌≤◌}
use Rattle.table.specs.Header.{statements}
use Rattle.findings.specs.NoteLaws.{Noting}
use Rattle.findings.proofs.note_accesses.Given as goal

abbrev pub invariant-loop-s : goal.invariant-loop-s
invariant-loop-s l = Noting l.program l.flow l.held l.noted l.s × (l.s ≤ statements l.program) × (statements l.program ≤ 512)
