-- `round_robin::solve` meets its contract. While it goes on, what is left to do gives the whole. Assumes nothing.
use mathlib.Core.Path.{◌≡◌, ◌∙◌, subst}
use mathlib.Core.Bool.{Bool, true}
use mathlib.Core.List.{List}
use Prim.Native.Nat.{ℕ, ◌+◌, ◌-◌, ◌<◌}
use native.Mathlib.Omega.{arith}
use Rattle.round_robin.proofs.SolveLaws.{Made, made_start, made_below, made_next, made_less, left}
use borrow.Author.Rules.{rules}
use Rattle.round_robin.proofs.solve.Goals as goal

made_as : {edges s₀ s : List ℕ} {k j : ℕ} {b d : Bool} → k ≡ j → b ≡ d → Made edges s₀ s k b → Made edges s₀ s j d
made_as {edges} {s₀} {s} {k} {j} {b} {d} e q h = rw (e, q) at h

pub passes-init : goal.passes-init
passes-init c = (omega arith, made_start _ _ (λ i. search rules))

pub overflow_add-made : goal.overflow_add-made
overflow_add-made c =
    let e : c.passes.made - 1 + 1 ≡ c.passes.made = omega arith in
    let b = made_below _ _ (made_as e c.passes-test.true (made_next _ _ c.passes.invariant.1 c.pass.ensures.sets c.pass.ensures.changed)) in
    search rules

pub passes-preserved : goal.passes-preserved
passes-preserved c =
    (omega arith, made_as (omega arith) c.passes-test.true (made_next _ _ c.passes.invariant.1 c.pass.ensures.sets c.pass.ensures.changed))

pub passes-smaller : goal.passes-smaller
passes-smaller c =
    subst (λ (b : Bool). left c.pass.new.sets b < left c.passes.sets true) c.passes-test.true
    (made_less _ _ c.passes.invariant.1 c.pass.ensures.sets c.pass.ensures.changed)

pub returns-clause-sets : goal.returns-clause-sets
returns-clause-sets c = ((made_next _ _ c.passes.invariant.1 c.pass.ensures.sets c.pass.ensures.changed).done c.passes-test.false).0

pub returns-clause-made : goal.returns-clause-made
returns-clause-made c =
    let e : c.passes.made ≡ c.passes.made - 1 + 1 = omega arith in
    e ∙ ((made_next _ _ c.passes.invariant.1 c.pass.ensures.sets c.pass.ensures.changed).done c.passes-test.false).1
