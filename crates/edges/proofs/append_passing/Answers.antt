-- `edges::append_passing` meets its contract. Assumes nothing.
use Rattle.std.specs.Prelude.{ℕ, ◌+◌, List, [], ◌∷◌}
use Rattle.std.proofs.Math.Path.{ap}
use Rattle.sets.specs.Least.{Edge}
use Rattle.edges.specs.Equations.{edge}
use Rattle.edges.specs.Grown.{growing_start, growing_next, growing_done, grown_same}
use Rattle.edges.specs.LineLaws.{passing_from}
use Rattle.edges.proofs.append_passing.Goals as goal

pub loop-j-init : goal.loop-j-init
loop-j-init c = growing_start _ _

pub loop-j-preserved : goal.loop-j-preserved
loop-j-preserved c = growing_next c.loop-j.invariant c.loop-j-test.true (grown_same (ap {B = List Edge} (λ (x : ℕ). edge x (c.args.begin + c.loop-j.j) ∷ []) c.at.ensures) c.push.ensures)

pub returns : goal.returns
unfolding passing_from
returns c = growing_done c.loop-j.invariant c.loop-j-test.false
