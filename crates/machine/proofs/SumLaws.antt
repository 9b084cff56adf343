-- C-17, for all numbers: a sum lies in the range, is the mathematical one wherever that does, and never jumps. Assumes nothing.
use Rattle.std.specs.Prelude.{ℕ, suc, ◌+◌, ◌-◌, ◌≡◌, refl, Bool, true, false, cond, not, T, ltb, ℤ, pos, negsuc, ◌+ℤ◌, ◌≤ℤ◌, ◌<ℤ◌}
use Rattle.std.proofs.Common.{sym, subst, arith, le→leb}
use Rattle.std.specs.Int.Signed.{lt_z, le_z_yes, lt_z_yes, lt_z_no, <ℤ-≤ℤ_trans, clash_ℤ}
use Rattle.machine.specs.Step.{saturate}

-- a number of 32 bits
pub record InRange (z : ℤ) : Type 0 where
  pub low : negsuc 2147483647 ≤ℤ z
  pub high : z ≤ℤ pos 2147483647

-- what holds of both ends where a sum is past them, and of the sum where it is not, holds of the stopped sum
by_ends {ℓ} : (P : ℤ → Type ℓ) (z : ℤ) → (pos 2147483647 <ℤ z → P (pos 2147483647)) → (z <ℤ negsuc 2147483647 → P (negsuc 2147483647))
    → (InRange z → P z) → P (saturate z)
unfolding saturate
by_ends P z top bottom within = go (lt_z (pos 2147483647) z) refl (lt_z z (negsuc 2147483647)) refl
  where
    go : (b : Bool) → lt_z (pos 2147483647) z ≡ b → (c : Bool) → lt_z z (negsuc 2147483647) ≡ c
        → P (cond b (pos 2147483647) (cond c (negsuc 2147483647) z))
    go true e c q = top (lt_z_yes (subst T (sym e) tt))
    go false e true q = bottom (lt_z_yes (subst T (sym q) tt))
    go false e false q =
        within (record { low = lt_z_no (subst (λ (x : Bool). T (not x)) (sym q) tt); high = lt_z_no (subst (λ (x : Bool). T (not x)) (sym e) tt) })

-- every sum is a number of 32 bits
pub sum_in_range : (z : ℤ) → InRange (saturate z)
sum_in_range z =
    by_ends InRange z
    (λ h. record { low = le_z_yes tt; high = le_z_yes tt })
    (λ h. record { low = le_z_yes tt; high = le_z_yes tt })
    (λ r. r)

-- and where the mathematical one is, it is that
pub sum_exact : (z : ℤ) → InRange z → saturate z ≡ z
sum_exact z r = by_ends (λ (y : ℤ). y ≡ z) z (λ h. clash_ℤ h r.high) (λ h. clash_ℤ h r.low) (λ s. refl)

-- the mathematical sum with a number from 0 up, and with one below 0
up : (a : ℤ) (n : ℕ) → a ≤ℤ (a +ℤ pos n)
up (pos m) n = le_z_yes (le→leb m (m + n) (omega arith))
up (negsuc m) n = go (ltb n (suc m))
  where
    go : (b : Bool) → negsuc m ≤ℤ cond b (negsuc (suc m - suc n)) (pos (n - suc m))
    go true = le_z_yes (le→leb (suc m - suc n) m (omega arith))
    go false = le_z_yes tt

down : (a : ℤ) (n : ℕ) → (a +ℤ negsuc n) ≤ℤ a
down (pos m) n = go (ltb m (suc n))
  where
    go : (b : Bool) → cond b (negsuc (suc n - suc m)) (pos (m - suc n)) ≤ℤ pos m
    go true = le_z_yes tt
    go false = le_z_yes (le→leb (m - suc n) m (omega arith))
down (negsuc m) n = le_z_yes (le→leb m (suc (m + n)) (omega arith))

-- "A level that jumps from highest to lowest frightens a flood desk": ADD of a number from 0 up never lowers the accumulator
pub sum_rises : (a : ℤ) (n : ℕ) → InRange a → a ≤ℤ saturate (a +ℤ pos n)
sum_rises a n r = by_ends (λ (y : ℤ). a ≤ℤ y) (a +ℤ pos n) (λ h. r.high) (λ h. clash_ℤ (<ℤ-≤ℤ_trans h r.low) (up a n)) (λ s. up a n)

-- and ADD of one below 0 never raises it
pub sum_falls : (a : ℤ) (n : ℕ) → InRange a → saturate (a +ℤ negsuc n) ≤ℤ a
sum_falls a n r = by_ends (λ (y : ℤ). y ≤ℤ a) (a +ℤ negsuc n) (λ h. clash_ℤ (<ℤ-≤ℤ_trans h (down a n)) r.high) (λ h. r.low) (λ s. down a n)
