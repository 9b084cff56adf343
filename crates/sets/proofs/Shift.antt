-- `1 << i` of 64 bits is the power of two. Assumes nothing.
use mathlib.Core.Path.{◌≡◌, ◌∙◌}
use Prim.Native.Nat.{ℕ, ◌*◌, ◌%◌, ◌^◌, ◌<◌}
use native.Mathlib.Nat.{mod-eq_of_lt, one-mul}
use native.Mathlib.Omega.{arith}
use lib.Pow.{pow-lt}

pub shifted : (i : ℕ) → i < 64 → 1 * 2 ^ i % 2 ^ 64 ≡ 2 ^ i
shifted i h = let p : 2 ^ i < 2 ^ 64 = pow-lt h in let q : 1 * 2 ^ i < 2 ^ 64 = omega arith in mod-eq_of_lt q ∙ one-mul (2 ^ i)
