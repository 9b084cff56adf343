-- What a test of a number's sign says of the number as the rules compare it. Assumes nothing.
use mathlib.Core.Path.{◌≡◌, refl}
use mathlib.Core.Bool.{true, false}
use Prim.Native.Nat.{ℕ, ◌<◌, ◌^◌}
use native.Mathlib.Omega.{arith}
use borrow.Author.Tests.{ltb-true}
use lib.Dec.{T}
use lib.IntN.{ℤ, pos, negsuc, nat_abs}
use lib.Signed.{lt_z, non_neg}
use mir.Syntax.{w32}
use mir.Val.{SFits, to_z, of_z}
use mir.Facts.{to_z-of_z}
use Rattle.table.specs.Fields.{plain}

-- a number below 0 and one that is not
natural_not : (n : ℕ) → lt_z (pos n) (pos 0) ≡ true → ⊥
natural_not n e = omega (arith, ltb-true n 0 e)

pub negative : (x : ℤ) → SFits w32 x → lt_z (to_z w32 (of_z w32 x)) (pos 0) ≡ true → 1000000 ≡ plain x
unfolding plain
negative x f e = go x (rw (to_z-of_z f) at e)
  where
    go : (x : ℤ) → lt_z x (pos 0) ≡ true → 1000000 ≡ plain x
    go (pos n) e = absurd (natural_not n e)
    go (negsuc n) e = refl

pub record Natural (x : ℤ) (y : ℤ) : Type 0 where
  pub sign : T (non_neg x)
  pub is : nat_abs x ≡ plain y
  pub small : nat_abs x < 2 ^ 31

pub natural : (x : ℤ) → SFits w32 x → lt_z (to_z w32 (of_z w32 x)) (pos 0) ≡ false → Natural (to_z w32 (of_z w32 x)) x
unfolding plain
natural x f e = rw (to_z-of_z f) (go x f (rw (to_z-of_z f) at e))
  where
    go : (x : ℤ) → SFits w32 x → lt_z x (pos 0) ≡ false → Natural x x
    go (pos n) f e = record { sign = tt; is = refl; small = f.sfits }
    go (negsuc n) f e = let q : ◌≡◌ {A = ℕ} 0 1 = cc in absurd (omega arith)
