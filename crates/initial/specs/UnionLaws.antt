-- A union that a loop makes from its last set down. Assumes nothing.
use Rattle.std.specs.Prelude.{ℕ, zero, suc, ◌+◌, ◌-◌, ◌≤◌, ◌<◌, ◌≡◌, refl, min}
use Rattle.std.proofs.Common.{ap₂, ◌∙◌, arith}
use Rattle.sets.specs.Set.{union}
use Rattle.report.specs.Over.{union_from}

pub record Uniting (f : ℕ → ℕ) (begin end s all : ℕ) : Type 0 where
  pub is : all ≡ union_from s (end - s) f
  pub low : min begin end ≤ s
  pub high : s ≤ end

pub uniting_start : (f : ℕ → ℕ) (begin end : ℕ) → Uniting f begin end end 0
unfolding union_from
uniting_start f begin end = let z : end - end ≡ 0 = omega arith in record { is = rw z; low = omega arith; high = omega arith }

pub uniting_next : {f : ℕ → ℕ} {begin end s all x y : ℕ} → Uniting f begin end s all → begin < s → x ≡ f (s - 1) → y ≡ union x all
    → Uniting f begin end (s - 1) y
unfolding union_from
uniting_next {f} {begin} {end} {s} {all} {x} {y} u b ex ey =
    let more : end - (s - 1) ≡ suc (end - s) = omega (arith, u.low, u.high) in
    let next : s - 1 + 1 ≡ s = omega arith in
    record {
      is = rw (more, next) (ey ∙ ap₂ (λ (a c : ℕ). union a c) ex u.is);
      low = omega (arith, u.high);
      high = omega (arith, u.high);
    }

pub uniting_done : {f : ℕ → ℕ} {begin end s all : ℕ} → Uniting f begin end s all → s ≤ begin → all ≡ union_from begin (end - begin) f
unfolding union_from
uniting_done {f} {begin} {end} {s} {all} u h = go (end - s) refl
  where
    go : (n : ℕ) → end - s ≡ n → all ≡ union_from begin (end - begin) f
    go zero e = let none : end - begin ≡ 0 = omega arith in rw none (rw e at u.is)
    go (suc n) e = let same : s ≡ begin = omega (arith, u.low) in rw same at u.is
