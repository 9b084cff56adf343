-- `sets::firsts` meets its contract. Assumes nothing.
use Prim.Native.Nat.{ℕ, ◌-◌, ◌^◌, min}
use Rattle.sets.proofs.Shift.{shifted}
use Rattle.sets.specs.Set.{firsts}
use mathlib.Core.Path.{◌≡◌, ap, ◌∙◌}
use native.Mathlib.Omega.{arith}
use Rattle.sets.proofs.firsts.Goals as goal

pub returns-then-n-lt64 : goal.returns-then-n-lt64
unfolding firsts
returns-then-n-lt64 c =
    let m : c.args.n ≡ min c.args.n 64 = omega arith in
    ap (λ (x : ℕ). x - 1) (shifted c.args.n (omega arith) ∙ ap (λ (x : ℕ). 2 ^ x) m)

pub returns-else-n-lt64 : goal.returns-else-n-lt64
unfolding firsts
returns-else-n-lt64 c = let m : 64 ≡ min c.args.n 64 = omega arith in ap (λ (x : ℕ). 2 ^ x - 1) m
