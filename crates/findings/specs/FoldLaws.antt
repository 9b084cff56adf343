-- Loops that go from the last number to the first, and the report's unions, intersections, counts and walk as such. Assumes nothing.
use Rattle.std.specs.Prelude.{◌≡◌, Bool, true, false}
use mir.Val.{bool_byte}
use Rattle.std.proofs.Math.Path.{refl, sym, ap, ap₂}
use Rattle.std.proofs.Common.{◌∙◌}
use Prim.Native.Nat.{ℕ, zero, suc, ◌+◌, ◌-◌, ◌≤◌, ◌<◌}
use native.Mathlib.Omega.{arith}
use Rattle.sets.specs.Set.{union, inter}
use Rattle.report.specs.Over.{union_from, inter_from, count_from}
use Rattle.report.specs.Counts.{no_counts, add_access, walk_from}
use Rattle.report.specs.Report.{bit}
use Rattle.findings.specs.Steps.{fold_from}

-- ---- the loop

none_left : (n : ℕ) → n - n ≡ 0
none_left n = omega arith

one_more : (count s : ℕ) → 0 < s → s ≤ count → count - (s - 1) ≡ suc (count - s)
one_more count s p h = omega arith

back : (s : ℕ) → 0 < s → s - 1 + 1 ≡ s
back s h = omega arith

module _ {A : Type 0} where
  -- the loop's invariant: the steps from s on are made
  pub record Folding (step : ℕ → A → A) (last : A) (count : ℕ) (acc : A) (s : ℕ) : Type 0 where
    pub joined : acc ≡ fold_from step last s (count - s)
    pub few : s ≤ count

  pub folding_start : (step : ℕ → A → A) (last : A) (count : ℕ) → Folding step last count last count
  unfolding fold_from
  folding_start step last count = record { joined = sym (ap (λ (n : ℕ). fold_from step last count n) (none_left count)); few = omega arith }

  pub folding_next : (step : ℕ → A → A) (last : A) (count : ℕ) (acc : A) (s : ℕ) → Folding step last count acc s → 0 < s
      → Folding step last count (step (s - 1) acc) (s - 1)
  unfolding fold_from
  folding_next step last count acc s h p =
      let few : s ≤ count = h.few in
      record {
        joined =
            ap (step (s - 1)) (h.joined ∙ ap (λ (i : ℕ). fold_from step last i (count - s)) (sym (back s p)))
            ∙ sym (ap (λ (n : ℕ). fold_from step last (s - 1) n) (one_more count s p few));
        few = omega arith;
      }

  pub folding_done : (step : ℕ → A → A) (last : A) (count : ℕ) (acc : A) (s : ℕ) → Folding step last count acc s → s ≤ 0
      → acc ≡ fold_from step last 0 count
  folding_done step last count acc s h z =
      let e : s ≡ 0 = omega arith in
      let n : count - s ≡ count = omega arith in
      h.joined ∙ ap₂ (λ (i m : ℕ). fold_from step last i m) e n

  -- steps that are the same
  pub fold_same : (g h : ℕ → A → A) (last : A) (from n : ℕ) → ((i : ℕ) → i < from + n → g i ≡ h i) → fold_from g last from n ≡ fold_from h last from n
  unfolding fold_from
  fold_same g h last from zero e = refl
  fold_same g h last from (suc n) e =
      ap₂ (λ (f : A → A) (r : A). f r) (e from (omega arith)) (fold_same g h last (from + 1) n (λ i b. e i (omega arith)))

-- ---- the report's joins

pub fold_union : (from n : ℕ) (f : ℕ → ℕ) → fold_from (λ i. union (f i)) 0 from n ≡ union_from from n f
unfolding fold_from union_from
fold_union from zero f = refl
fold_union from (suc n) f = ap (union (f from)) (fold_union (from + 1) n f)

pub fold_inter : (all from n : ℕ) (f : ℕ → ℕ) → fold_from (λ i. inter (f i)) all from n ≡ inter_from all from n f
unfolding fold_from inter_from
fold_inter all from zero f = refl
fold_inter all from (suc n) f = ap (inter (f from)) (fold_inter all (from + 1) n f)

pub fold_count : (from n : ℕ) (test : ℕ → Bool) → fold_from (λ i. ◌+◌ (bit (test i))) 0 from n ≡ count_from from n test
unfolding fold_from count_from
fold_count from zero test = refl
fold_count from (suc n) test = ap (λ (r : ℕ). bit (test from) + r) (fold_count (from + 1) n test)

pub fold_walk : (own : Bool → ℕ → ℕ) (cells from n : ℕ) → fold_from (λ s. add_access (λ w. own w s)) (no_counts cells) from n ≡ walk_from own cells from n
unfolding fold_from walk_from
fold_walk own cells from zero = refl
fold_walk own cells from (suc n) = ap (add_access (λ w. own w from)) (fold_walk own cells (from + 1) n)

-- ---- a test as a number

pub bit_is : (b : Bool) → bool_byte b ≡ bit b
bit_is true = refl
bit_is false = refl

pub bit_most : (n : ℕ) (b : Bool) → n ≡ bool_byte b → n ≤ 1
bit_most n true e = omega arith
bit_most n false e = omega arith
