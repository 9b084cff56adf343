-- Laws of `lowest`: what a loop that looks for the first failing number needs, and what its answer says. Assumes nothing.
use Rattle.std.specs.Prelude.{◌≡◌, refl, ℕ, zero, suc, ◌+◌, ◌-◌, ◌≤◌, ◌<◌, Bool, true, false, ltb}
use Rattle.std.proofs.Common.{sym, ◌∙◌, subst, arith, add-one, le_antisymm, ltb-true, ltb-false}
use Rattle.std.proofs.Math.Nat.{sub-zero}
use Rattle.std.proofs.Math.Option.{none, some}
use Rattle.lines.specs.Lowest.{lowest}

-- one step of the search

pub lowest_empty : (good : ℕ → Bool) (from : ℕ) → lowest good from 0 ≡ none
unfolding lowest
lowest_empty good from = refl

pub lowest_good : (good : ℕ → Bool) (from count : ℕ) → good from ≡ true → lowest good from (suc count) ≡ lowest good (suc from) count
unfolding lowest
lowest_good good from count e = rw (e, lowest)

pub lowest_bad : (good : ℕ → Bool) (from count : ℕ) → good from ≡ false → lowest good from (suc count) ≡ some from
unfolding lowest
lowest_bad good from count e = rw (e, lowest)

-- the search from 0 over n numbers, with those below i passed: i ≤ n, and what is left gives the whole
pub record Passed (good : ℕ → Bool) (n i : ℕ) : Type 0 where
  pub within : i ≤ n
  pub left : lowest good 0 n ≡ lowest good i (n - i)

pub passed_start : (good : ℕ → Bool) (n : ℕ) → Passed good n 0
passed_start good n = record { within = omega arith; left = rw sub-zero }

pub passed_next : {good : ℕ → Bool} {n i : ℕ} → Passed good n i → i < n → good i ≡ true → Passed good n (i + 1)
passed_next {good} {n} {i} p h e =
    let k : n - i ≡ suc (n - suc i) = omega arith in
    record { within = omega arith; left = p.left ∙ rw (add-one, k) (lowest_good good i (n - suc i) e) }

pub passed_stop : {good : ℕ → Bool} {n i : ℕ} → Passed good n i → i < n → good i ≡ false → lowest good 0 n ≡ some i
passed_stop {good} {n} {i} p h e =
    let k : n - i ≡ suc (n - suc i) = omega arith in
    p.left ∙ rw k (lowest_bad good i (n - suc i) e)

pub passed_done : {good : ℕ → Bool} {n i : ℕ} → Passed good n i → n ≤ i → lowest good 0 n ≡ none
passed_done {good} {n} {i} p h =
    let k : n - i ≡ 0 = omega arith in
    p.left ∙ rw k (lowest_empty good i)

-- what the answer says

pub record Lowest (good : ℕ → Bool) (from count k : ℕ) : Type 0 where
  pub above : from ≤ k
  pub below : k < from + count
  pub bad : good k ≡ false
  pub others : (i : ℕ) → from ≤ i → i < k → good i ≡ true

at_or_above : (P : ℕ → Type 0) (from i : ℕ) → from ≤ i → P from → (suc from ≤ i → P i) → P i
at_or_above P from i h p q = go (ltb from i) refl
  where
    go : (b : Bool) → ltb from i ≡ b → P i
    go true e = q (ltb-true from i e)
    go false e = subst P (le_antisymm h (ltb-false from i e)) p

pub none_all_good : (good : ℕ → Bool) (from count : ℕ) → lowest good from count ≡ none → (i : ℕ) → from ≤ i → i < from + count → good i ≡ true
none_all_good good from zero h i a b = absurd (omega arith)
none_all_good good from (suc count) h i a b = go (good from) refl (none_all_good good (suc from) count)
  where
    go : (b : Bool) → good from ≡ b → (lowest good (suc from) count ≡ none → (i : ℕ) → suc from ≤ i → i < suc from + count → good i ≡ true) → good i ≡ true
    go true e ih = at_or_above (λ j. good j ≡ true) from i a e (λ k. ih (sym (lowest_good good from count e) ∙ h) i k (omega arith))
    go false e ih = let z : ◌≡◌ {A = ℕ} 0 1 = cc (lowest_bad good from count e) in absurd (omega arith)

pub all_good_none : (good : ℕ → Bool) (from count : ℕ) → ((i : ℕ) → from ≤ i → i < from + count → good i ≡ true) → lowest good from count ≡ none
all_good_none good from zero g = lowest_empty good from
all_good_none good from (suc count) g =
    lowest_good good from count (g from (omega arith) (omega arith))
    ∙ all_good_none good (suc from) count (λ i a b. g i (omega arith) (omega arith))

pub some_lowest : (good : ℕ → Bool) (from count k : ℕ) → lowest good from count ≡ some k → Lowest good from count k
some_lowest good from zero k h = let z : ◌≡◌ {A = ℕ} 0 1 = cc (lowest_empty good from) in absurd (omega arith)
some_lowest good from (suc count) k h = go (good from) refl (some_lowest good (suc from) count k)
  where
    go : (b : Bool) → good from ≡ b → (lowest good (suc from) count ≡ some k → Lowest good (suc from) count k) → Lowest good from (suc count) k
    go true e ih =
        let l : Lowest good (suc from) count k = ih (sym (lowest_good good from count e) ∙ h) in
        record {
          above = omega (arith, l.above);
          below = omega (arith, l.below);
          bad = l.bad;
          others = λ i a b. at_or_above (λ j. good j ≡ true) from i a e (λ m. l.others i m b);
        }
    go false e ih =
        let k' : from ≡ k = cc (lowest_bad good from count e) in
        record {
          above = omega arith;
          below = omega arith;
          bad = rw (← k') e;
          others = λ i a b. absurd (omega arith);
        }

-- two tests that agree over the range find the same
pub lowest_same : (good other : ℕ → Bool) (from count : ℕ) → ((i : ℕ) → from ≤ i → i < from + count → good i ≡ other i) → lowest good from count ≡ lowest other from count
lowest_same good other from zero g = lowest_empty good from ∙ sym (lowest_empty other from)
lowest_same good other from (suc count) g = go (good from) refl (lowest_same good other (suc from) count (λ i a b. g i (omega arith) (omega arith)))
  where
    same : good from ≡ other from
    same = g from (omega arith) (omega arith)

    go : (b : Bool) → good from ≡ b → lowest good (suc from) count ≡ lowest other (suc from) count → lowest good from (suc count) ≡ lowest other from (suc count)
    go true e ih = lowest_good good from count e ∙ ih ∙ sym (lowest_good other from count (sym same ∙ e))
    go false e ih = lowest_bad good from count e ∙ sym (lowest_bad other from count (sym same ∙ e))
