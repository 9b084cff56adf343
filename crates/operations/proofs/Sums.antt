-- Sums of two 32-bit numbers, as the code computes them. Assumes nothing.
use mathlib.Core.Path.{◌≡◌}
use mathlib.Core.Bool.{Bool, true, false, cond}
use Prim.Native.Nat.{ℕ, suc, ◌+◌, ◌-◌, ◌<◌, ◌≤◌}
use native.Mathlib.Omega.{arith}
use borrow.Author.Tests.{ltb-false}
use lib.Dec.{ltb}
use lib.IntN.{ℤ, pos, negsuc, sub_ℕ, ◌+ℤ◌}
use lib.Signed.{lt_z, mag}
use mir.Syntax.{w32, w64}
use mir.Val.{SFits, to_z, of_z}
use mir.Facts.{to_z-of_z}

mag_sub : (a b : ℕ) → mag (sub_ℕ a b) ≤ a + b
mag_sub a b = go (ltb a b)
  where
    go : (t : Bool) → mag (cond t (negsuc (b - suc a)) (pos (a - b))) ≤ a + b
    go true = omega arith
    go false = omega arith

mag_sum : (a b : ℤ) → mag (a +ℤ b) ≤ mag a + mag b + 1
mag_sum (pos a) (pos b) = omega arith
mag_sum (pos a) (negsuc b) = omega (arith, mag_sub a (suc b))
mag_sum (negsuc a) (pos b) = omega (arith, mag_sub b (suc a))
mag_sum (negsuc a) (negsuc b) = omega arith

pub sum_small : (a b : ℤ) → SFits w32 a → SFits w32 b → mag (a +ℤ b) < 4294967296
sum_small a b f g = omega (arith, mag_sum a b, f.sfits, g.sfits)

pub wide : (z : ℤ) → mag z < 4294967296 → SFits w64 z
wide z h = record { sfits = omega arith }

-- a 32-bit number as the code widens it
pub widened : (a : ℤ) → SFits w32 a → to_z w64 (of_z w64 (to_z w32 (of_z w32 a))) ≡ a
widened a f = rw (to_z-of_z f) (to_z-of_z (wide a (omega (arith, f.sfits))))

-- the sum as the code computes it
pub summed : (a b : ℤ) → SFits w32 a → SFits w32 b
    → to_z w64 (of_z w64 (to_z w64 (of_z w64 (to_z w32 (of_z w32 a))) +ℤ to_z w64 (of_z w64 (to_z w32 (of_z w32 b))))) ≡ a +ℤ b
summed a b f g = rw (widened a f, widened b g) (to_z-of_z (wide (a +ℤ b) (sum_small a b f g)))

pub between : (z : ℤ) → lt_z (pos 2147483647) z ≡ false → lt_z z (negsuc 2147483647) ≡ false → SFits w32 z
between (pos n) e q = record { sfits = omega (arith, ltb-false 2147483647 n e) }
between (negsuc n) e q = record { sfits = omega (arith, ltb-false 2147483647 n q) }
