-- What lists, sets and counts over a range of numbers have in them. Assumes nothing.
use Prim.Native.Nat.{ℕ, zero, suc, ◌+◌, ◌^◌, ◌≤◌, ◌<◌}
use Rattle.std.specs.Prelude.{◌≡◌, refl, Bool, true, false, ◌⊎◌, eqb, ltb, length, get_or}
use Rattle.std.proofs.Math.Path.{sym, ap, ap₂}
use Rattle.std.proofs.Common.{◌∙◌, subst, inl, inr, add-zero, zero-add, suc-add, le_refl, add-one, eqb-true, ltb-true, ltb-false}
use mathlib.Core.List.{List, [], ◌∷◌, ◌++◌, Memᴰ, append-nil, append_assoc}
use native.Mathlib.Omega.{arith}
use Rattle.std.proofs.Math.ListN.{get_or-eq_default}
use Rattle.std.proofs.lemmas.Bool.{eqb-false, and_parts, and_from}
use Rattle.sets.specs.Set.{has}
use Rattle.sets.proofs.SetLaws.{has_union_left, has_union_right, union_cases, union_below, has_inter, has_empty}
use Rattle.sets.specs.Least.{SetList}
use Rattle.table.specs.Tabulate.{tabulate}
use Rattle.table.proofs.TabulateLaws.{length_tabulate, get_d_tabulate}
use Rattle.report.specs.Over.{joined_from, union_from, inter_from, union_at}

-- ---- tests

pub never {ℓ} : {C : Type ℓ} → true ≡ false → C
never e = let z : ◌≡◌ {A = ℕ} 0 1 = cc in absurd (omega arith)

pub not_has : (s x : ℕ) → (has s x ≡ true → ⊥) → has s x ≡ false
not_has s x d = go (has s x) refl
  where
    go : (b : Bool) → has s x ≡ b → has s x ≡ false
    go true e = absurd (d e)
    go false e = e

pub none_in {ℓ} : {C : Type ℓ} (x : ℕ) → has 0 x ≡ true → C
none_in x h = never (sym h ∙ has_empty x)

-- ---- a range of numbers

-- i is one of n numbers, `from` the first
pub record Within (from n i : ℕ) : Type 0 where
  pub low : from ≤ i
  pub high : i < from + n

nothing_within {ℓ} : {C : Type ℓ} {from i : ℕ} → Within from 0 i → C
nothing_within w = absurd (omega arith)

later : {from n i : ℕ} → Within (from + 1) n i → Within from (suc n) i
later w = record { low = omega arith; high = omega arith }

here : {from n : ℕ} → Within from (suc n) from
here = record { low = le_refl _; high = omega arith }

-- the first of the range, or one behind it
pub first_or {ℓ} : {C : Type ℓ} {from n i : ℕ} → Within from (suc n) i → (i ≡ from → C) → (Within (from + 1) n i → C) → C
first_or {C = C} {from} {n} {i} w f g = go (eqb i from) refl
  where
    go : (b : Bool) → eqb i from ≡ b → C
    go true e = f (eqb-true i from e)
    go false e = let d : i ≡ from → ⊥ = eqb-false i from e in g (record { low = omega arith; high = omega arith })

pub below_within : {n i : ℕ} → i < n → Within 0 n i
below_within h = record { low = omega arith; high = omega arith }

pub within_below : {n i : ℕ} → Within 0 n i → i < n
within_below w = omega arith

-- ---- lists

module _ {A : Type 0} where
  pub joined_has : (from n : ℕ) (f : ℕ → List A) (i : ℕ) (x : A) → Within from n i → Memᴰ x (f i) → Memᴰ x (joined_from from n f)
  unfolding joined_from
  joined_has from zero f i x w m = nothing_within w
  joined_has from (suc n) f i x w m =
      let ih : Within (from + 1) n i → Memᴰ x (joined_from (from + 1) n f) = λ v. joined_has (from + 1) n f i x v m in
      first_or w (λ e. mathlib.Core.List.Memᴰ.append_left _ (subst (λ (j : ℕ). Memᴰ x (f j)) e m)) (λ v. mathlib.Core.List.Memᴰ.append_right (f from) (ih v))

  -- the last list of a range
  pub joined_last : (from n : ℕ) (f : ℕ → List A) → joined_from from (suc n) f ≡ joined_from from n f ++ f (from + n)
  unfolding joined_from
  joined_last from zero f = append-nil (f from) ∙ ap f (sym (add-zero from))
  joined_last from (suc n) f =
      ap {B = List A} (λ r. f from ++ r) (joined_last (from + 1) n f ∙ ap {B = List A} (λ (j : ℕ). joined_from (from + 1) n f ++ f j) (next from n))
      ∙ sym (append_assoc (f from) (joined_from (from + 1) n f) (f (from + suc n)))
    where
      next : (a b : ℕ) → a + 1 + b ≡ a + suc b
      next a b = omega arith

  -- a range in two parts
  pub joined_split : (from n m : ℕ) (f : ℕ → List A) → joined_from from (n + m) f ≡ joined_from from n f ++ joined_from (from + n) m f
  unfolding joined_from
  joined_split from zero m f = ap₂ {C = List A} (λ (i j : ℕ). joined_from i j f) (sym (add-zero from)) (zero-add m)
  joined_split from (suc n) m f =
      ap {B = List A} (λ (j : ℕ). joined_from from j f) (suc-add n m)
      ∙ ap {B = List A} (λ r. f from ++ r) (joined_split (from + 1) n m f ∙ ap {B = List A} (λ (j : ℕ). joined_from (from + 1) n f ++ joined_from j m f) (next from n))
      ∙ sym (append_assoc (f from) (joined_from (from + 1) n f) (joined_from (from + suc n) m f))
    where
      next : (a b : ℕ) → a + 1 + b ≡ a + suc b
      next a b = omega arith

  pub joined_next : (n : ℕ) (f : ℕ → List A) → joined_from 0 n f ++ f n ≡ joined_from 0 (n + 1) f
  joined_next n f = rw (add-one n) (ap {B = List A} (λ (j : ℕ). joined_from 0 n f ++ f j) (sym (zero-add n)) ∙ sym (joined_last 0 n f))

  pub joined_from_lem : (from n : ℕ) (f : ℕ → List A) (x : A) → Memᴰ x (joined_from from n f) → (i : ℕ) × Within from n i × Memᴰ x (f i)
  unfolding joined_from
  joined_from_lem from zero f x m = elim m [ ]
  joined_from_lem from (suc n) f x m =
      let ih : Memᴰ x (joined_from (from + 1) n f) → (i : ℕ) × Within (from + 1) n i × Memᴰ x (f i) = joined_from_lem (from + 1) n f x in
      go ih (mathlib.Core.List.Memᴰ.append_cases (f from) m)
    where
      go : (Memᴰ x (joined_from (from + 1) n f) → (i : ℕ) × Within (from + 1) n i × Memᴰ x (f i))
          → Memᴰ x (f from) ⊎ Memᴰ x (joined_from (from + 1) n f) → (i : ℕ) × Within from (suc n) i × Memᴰ x (f i)
      go ih (inl a) = (from, here, a)
      go ih (inr b) = let r : (i : ℕ) × Within (from + 1) n i × Memᴰ x (f i) = ih b in (r.0, later r.1, r.2)

-- below the length, or past it, where a set is empty
pub by_length {ℓ} : {C : Type ℓ} (i : ℕ) (s : List ℕ) → (i < length s → C) → (get_or s i 0 ≡ 0 → C) → C
by_length {C = C} i s f g = go (ltb i (length s)) refl
  where
    go : (b : Bool) → ltb i (length s) ≡ b → C
    go true e = f (ltb-true i (length s) e)
    go false e = g (get_or-eq_default s 0 (ltb-false i (length s) e))

-- an element is of a place that is there
pub has_place : (i x : ℕ) (s : List ℕ) → has (get_or s i 0) x ≡ true → i < length s
has_place i x s h = by_length i s (λ l. l) (λ e. none_in x (ap (λ (y : ℕ). has y x) (sym e) ∙ h))

-- a list of n sets, if each is of at most 64 elements
pub tabulate_sets : (n : ℕ) (g : ℕ → ℕ) → ((i : ℕ) → g i < 2 ^ 64) → SetList n (tabulate n g)
tabulate_sets n g b = record {
  places = length_tabulate n g;
  below = λ i.
      by_length i (tabulate n g)
      (λ l. subst (λ (y : ℕ). y < 2 ^ 64) (sym (get_d_tabulate n g i 0 (subst (λ (m : ℕ). i < m) (length_tabulate n g) l))) (b i))
      (λ e. subst (λ (y : ℕ). y < 2 ^ 64) (sym e) (omega arith));
}

pub tabulate_has : (n : ℕ) (g : ℕ → ℕ) (i x : ℕ) → i < n → has (g i) x ≡ true → has (get_or (tabulate n g) i 0) x ≡ true
tabulate_has n g i x l h = ap (λ (y : ℕ). has y x) (get_d_tabulate n g i 0 l) ∙ h

pub tabulate_from_lem : (n : ℕ) (g : ℕ → ℕ) (i x : ℕ) → has (get_or (tabulate n g) i 0) x ≡ true → (i < n) × (has (g i) x ≡ true)
tabulate_from_lem n g i x h =
    let l : i < n = subst (λ (m : ℕ). i < m) (length_tabulate n g) (has_place i x (tabulate n g) h) in
    (l, ap (λ (y : ℕ). has y x) (sym (get_d_tabulate n g i 0 l)) ∙ h)

-- ---- unions and intersections

pub union_has : (from n : ℕ) (f : ℕ → ℕ) (i x : ℕ) → Within from n i → has (f i) x ≡ true → has (union_from from n f) x ≡ true
unfolding union_from
union_has from zero f i x w h = nothing_within w
union_has from (suc n) f i x w h =
    let ih : Within (from + 1) n i → has (union_from (from + 1) n f) x ≡ true = λ v. union_has (from + 1) n f i x v h in
    first_or w (λ e. has_union_left (f from) _ x (subst (λ (j : ℕ). has (f j) x ≡ true) e h)) (λ v. has_union_right (f from) _ x (ih v))

pub union_from_lem : (from n : ℕ) (f : ℕ → ℕ) (x : ℕ) → has (union_from from n f) x ≡ true → (i : ℕ) × Within from n i × (has (f i) x ≡ true)
unfolding union_from
union_from_lem from zero f x h = none_in x h
union_from_lem from (suc n) f x h =
    let ih : has (union_from (from + 1) n f) x ≡ true → (i : ℕ) × Within (from + 1) n i × (has (f i) x ≡ true) = union_from_lem (from + 1) n f x in
    union_cases (f from) (union_from (from + 1) n f) x (λ a. (from, here, a)) (λ b. let r : (i : ℕ) × Within (from + 1) n i × (has (f i) x ≡ true) = ih b in (r.0, later r.1, r.2)) h

pub union_from_below : (from n : ℕ) (f : ℕ → ℕ) → ((i : ℕ) → f i < 2 ^ 64) → union_from from n f < 2 ^ 64
unfolding union_from
union_from_below from zero f b = omega arith
union_from_below from (suc n) f b = union_below 64 (b from) (union_from_below (from + 1) n f b)

pub inter_at : (all from n : ℕ) (f : ℕ → ℕ) (i x : ℕ) → Within from n i → has (inter_from all from n f) x ≡ true → has (f i) x ≡ true
unfolding inter_from
inter_at all from zero f i x w h = nothing_within w
inter_at all from (suc n) f i x w h =
    let b : (has (f from) x ≡ true) × (has (inter_from all (from + 1) n f) x ≡ true) =
    and_parts (has (f from) x) (has (inter_from all (from + 1) n f) x) (sym (has_inter (f from) (inter_from all (from + 1) n f) x) ∙ h) in
    let ih : Within (from + 1) n i → has (f i) x ≡ true = λ v. inter_at all (from + 1) n f i x v b.1 in
    first_or w (λ e. subst (λ (j : ℕ). has (f j) x ≡ true) (sym e) b.0) ih

pub inter_inside : (all from n : ℕ) (f : ℕ → ℕ) (x : ℕ) → has (inter_from all from n f) x ≡ true → has all x ≡ true
unfolding inter_from
inter_inside all from zero f x h = h
inter_inside all from (suc n) f x h =
    inter_inside all (from + 1) n f x
    (and_parts (has (f from) x) (has (inter_from all (from + 1) n f) x) (sym (has_inter (f from) (inter_from all (from + 1) n f) x) ∙ h)).1

pub inter_has : (all from n : ℕ) (f : ℕ → ℕ) (x : ℕ) → has all x ≡ true → ((i : ℕ) → Within from n i → has (f i) x ≡ true)
    → has (inter_from all from n f) x ≡ true
unfolding inter_from
inter_has all from zero f x a h = a
inter_has all from (suc n) f x a h =
    has_inter (f from) (inter_from all (from + 1) n f) x ∙ and_from _ _ (h from here) (inter_has all (from + 1) n f x a (λ i w. h i (later w)))

pub union_at_has : (ps : List ℕ) (f : ℕ → ℕ) (p x : ℕ) → Memᴰ p ps → has (f p) x ≡ true → has (union_at ps f) x ≡ true
unfolding union_at
union_at_has [] f p x m h = elim m [ ]
union_at_has (q ∷ ps) f p x (mathlib.Core.List.Memᴰ.head e) h = has_union_left (f q) _ x (subst (λ (j : ℕ). has (f j) x ≡ true) e h)
union_at_has (q ∷ ps) f p x (mathlib.Core.List.Memᴰ.tail m) h = has_union_right (f q) _ x (union_at_has ps f p x m h)

pub union_at_from : (ps : List ℕ) (f : ℕ → ℕ) (x : ℕ) → has (union_at ps f) x ≡ true → (p : ℕ) × Memᴰ p ps × (has (f p) x ≡ true)
unfolding union_at
union_at_from [] f x h = none_in x h
union_at_from (q ∷ ps) f x h =
    let ih : has (union_at ps f) x ≡ true → (p : ℕ) × Memᴰ p ps × (has (f p) x ≡ true) = union_at_from ps f x in
    union_cases (f q) (union_at ps f) x (λ a. (q, mathlib.Core.List.Memᴰ.head refl, a))
    (λ b. let r : (p : ℕ) × Memᴰ p ps × (has (f p) x ≡ true) = ih b in (r.0, mathlib.Core.List.Memᴰ.tail r.1, r.2)) h

pub union_at_below : (ps : List ℕ) (f : ℕ → ℕ) → ((i : ℕ) → f i < 2 ^ 64) → union_at ps f < 2 ^ 64
unfolding union_at
union_at_below [] f b = omega arith
union_at_below (p ∷ ps) f b = union_below 64 (b p) (union_at_below ps f b)
