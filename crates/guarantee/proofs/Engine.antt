-- Demand 3 for the engine: its runs are the machine's on the steps that meet no limit of the engine, so they are as safe. Assumes nothing.
use Rattle.std.specs.Prelude.{List, ℕ}
use Rattle.table.specs.Table.{Table}
use Rattle.table.specs.Accepted.{Accepted}
use Rattle.machine.specs.State.{start}
use Rattle.machine.specs.Words.{Safe}
use Rattle.machine.specs.Engine.{engine_run}
use Rattle.machine.proofs.EngineLaws.{unlimited, engine_runs_as_machine}
use Rattle.report.specs.Rules.{Copies, Families, Rules, Clean}
use Rattle.guarantee.proofs.Theorem.{clean_runs_safe}

-- a clean report means that (a) and (b) hold after every schedule of the engine
pub clean_engine_runs_safe : {t : Table} → Accepted t → (copies : Copies t) (f : Families) → Rules copies f → Clean copies f → (ns : List ℕ)
    → Safe t (engine_run t (start t) ns)
clean_engine_runs_safe {t} accepted copies f rules clean ns =
    rw (engine_runs_as_machine t (start t) ns) (clean_runs_safe accepted copies f rules clean (unlimited t (start t) ns))
