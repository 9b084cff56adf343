-- `declarations::fill_parameter_counts` meets its contract. Assumes nothing.
use native.Mathlib.Omega.{arith}
use mathlib.Core.Path.{subst⁻¹, ◌∙◌}
use Prim.Native.Nat.{ℕ, ◌+◌, ◌≤◌, ◌<◌, zero-le}
use Rattle.table.specs.Header.{routines}
use Rattle.table.specs.Handles.{handles_from}
use Rattle.declarations.specs.ListLaws.{parameters_is}
use Rattle.table.proofs.UntilLaws.{until_range}
use Rattle.table.proofs.TabulateLaws.{begun_none, begun_next, begun_below, entry_below}
use Rattle.declarations.proofs.fill_parameter_counts.Goals as goal

pub loop-r-init : goal.loop-r-init
loop-r-init c = (zero-le, begun_none _ 32)

pub overflow_sub-counts : goal.overflow_sub-counts
overflow_sub-counts c = subst⁻¹ (λ (n : ℕ). c.value_at-from.result ≤ n) c.skip-end.ensures (until_range _ _ _).0

pub loop-r-preserved : goal.loop-r-preserved
loop-r-preserved c =
    let f = c.args.numbers.now in
    let r = c.loop-r.r in
    let few : r < 32 = omega (arith, c.routine_count-count.ensures, c.loop-r-test.true) in
    let inside : r < routines f = omega (arith, c.routine_count-count.ensures, c.loop-r-test.true) in
    let from = c.value_at-from.ensures ∙ entry_below 33 (routines f + 1) (handles_from f) _ r c.requires (omega arith) (omega arith) in
    let end = c.value_at.ensures ∙ entry_below 33 (routines f + 1) (handles_from f) _ (r + 1) c.requires (omega arith) (omega arith) in
    (omega arith, begun_next _ _ _ _ _ c.loop-r.invariant.1 few (parameters_is f r _ _ _ from end c.skip-end.ensures))

pub returns : goal.returns
returns c = begun_below _ _ _ _ _ c.loop-r.invariant.1 (omega (arith, c.routine_count-count.ensures))
