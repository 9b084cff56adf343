-- `operations::add` meets its contract. Assumes nothing.
use mir.Val.{SFits, to_z, of_z}
use mir.Syntax.{w32}
use mir.Facts.{to_z-of_z}
use mathlib.Core.Path.{◌≡◌}
use lib.IntN.{pos, ◌+ℤ◌}
use lib.ListN.{get_or}
use borrow.Author.Rules.{rules}
use Rattle.machine.specs.Step.{saturate}
use Rattle.operations.proofs.add.Goals as goal

pub returns : goal.returns
returns c =
    let old = get_or c.args.state.now.accumulators c.args.at.thread (pos 0) in
    let f : SFits w32 c.saturating_sum-sum.result = record { sfits = c.saturating_sum-sum.type_inv } in
    let e : to_z w32 (of_z w32 old) ≡ old = search rules in
    let sum : c.saturating_sum-sum.result ≡ saturate (old +ℤ c.args.number) = rw (← e, ← to_z-of_z c.ranges.number) c.saturating_sum-sum.ensures in
    (c.going_on.ensures, rw (to_z-of_z f, sum))
