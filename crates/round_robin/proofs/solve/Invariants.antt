-- `round_robin::solve` meets its contract. While it goes on, what is left to do gives the whole. Assumes nothing.
use Rattle.std.specs.Prelude.{true, ◌-◌, ◌<◌}
use Rattle.round_robin.proofs.SolveLaws.{Made, left}
use Rattle.round_robin.proofs.solve.Given as goal

abbrev pub invariant-passes : goal.invariant-passes
invariant-passes l = (0 < l.made) × Made l.edges l.initial.sets l.sets (l.made - 1) true

abbrev pub decreases-passes : goal.decreases-passes
decreases-passes l = left l.sets true
