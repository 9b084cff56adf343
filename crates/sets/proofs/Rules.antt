-- How steady passes are put together: what puts a set into one place, and one pass after another. Assumes nothing.
use Rattle.std.specs.Prelude.{◌≡◌, refl, Bool, true, false, List, ℕ, ◌^◌, ◌≤◌, ◌<◌, eqb, ltb, length, get_or}
use Rattle.std.proofs.Common.{sym, ap, ◌∙◌, subst, eqb-true, ltb-true, ltb-false}
use Rattle.std.proofs.Math.ListN.{length-set}
use Rattle.std.proofs.Math.Seq.{get_or-set_same, get_or-set_other, set_out}
use Rattle.std.proofs.lemmas.Bool.{eqb-false}
use Rattle.sets.specs.Set.{has, union}
use Rattle.sets.proofs.SetLaws.{has_union_left, has_union_right, union_cases, union_below}
use Rattle.sets.specs.Least.{SetList, Inside, Steady, put_into}
use Rattle.sets.proofs.InsideLaws.{inside_refl, inside_trans, inside_equal}

-- ---- a set is put into one place

module _ (t x : ℕ) (s : List ℕ) where
  pub put_length : length (put_into t x s) ≡ length s
  unfolding put_into
  put_length = length-set s t _

  -- past the end nothing is written
  put_out : length s ≤ t → put_into t x s ≡ s
  unfolding put_into
  put_out h = set_out s t _ h

  put_here : t < length s → get_or (put_into t x s) t 0 ≡ union (get_or s t 0) x
  unfolding put_into
  put_here h = get_or-set_same s t _ 0 h

  -- every other place is kept
  pub put_elsewhere : (i : ℕ) → (i ≡ t → ⊥) → get_or (put_into t x s) i 0 ≡ get_or s i 0
  unfolding put_into
  put_elsewhere i d = get_or-set_other s t i _ 0 d

  -- a place is another one, or past the end, or t
  put_places {ℓ} : {C : Type ℓ} (i : ℕ) → (get_or (put_into t x s) i 0 ≡ get_or s i 0 → C)
      → (i ≡ t → t < length s → get_or (put_into t x s) i 0 ≡ union (get_or s t 0) x → C) → C
  put_places {C = C} i a b = go (eqb i t) refl (ltb t (length s)) refl
    where
      go : (x : Bool) → eqb i t ≡ x → (y : Bool) → ltb t (length s) ≡ y → C
      go false d y l = a (put_elsewhere i (eqb-false i t d))
      go true d false l = a (ap (λ (r : List ℕ). get_or r i 0) (put_out (ltb-false t (length s) l)))
      go true d true l =
          let e : i ≡ t = eqb-true i t d in
          b e (ltb-true t (length s) l) (ap (λ (j : ℕ). get_or (put_into t x s) j 0) e ∙ put_here (ltb-true t (length s) l))

  pub put_grows : Inside s (put_into t x s)
  put_grows = record {
    at = λ i e h.
        put_places i (λ q. ap (λ (y : ℕ). has y e) q ∙ h)
        (λ p l q. ap (λ (y : ℕ). has y e) q ∙ has_union_left (get_or s t 0) x e (ap (λ (j : ℕ). has (get_or s j 0) e) (sym p) ∙ h));
  }

  -- an element that is there afterwards was there, or was put
  pub put_cases {ℓ} : {C : Type ℓ} (i e : ℕ) → (has (get_or s i 0) e ≡ true → C) → (i ≡ t → t < length s → has x e ≡ true → C)
      → has (get_or (put_into t x s) i 0) e ≡ true → C
  put_cases i e a b h =
      put_places i (λ q. a (ap (λ (y : ℕ). has y e) (sym q) ∙ h))
      (λ p l q.
      union_cases (get_or s t 0) x e (λ g. a (ap (λ (j : ℕ). has (get_or s j 0) e) p ∙ g)) (b p l)
      (ap (λ (y : ℕ). has y e) (sym q) ∙ h))

  pub put_puts : t < length s → (e : ℕ) → has x e ≡ true → has (get_or (put_into t x s) t 0) e ≡ true
  put_puts l e h = ap (λ (y : ℕ). has y e) (put_here l) ∙ has_union_right (get_or s t 0) x e h

  pub put_sets : (n : ℕ) → x < 2 ^ 64 → SetList n s → SetList n (put_into t x s)
  put_sets n hx h = record {
    places = put_length ∙ h.places;
    below = λ i.
        put_places i (λ q. subst (λ (y : ℕ). y < 2 ^ 64) (sym q) (h.below i))
        (λ p l q. subst (λ (y : ℕ). y < 2 ^ 64) (sym q) (union_below 64 (h.below t) hx));
  }

  -- nothing changes just where the set was there
  pub put_still : (t < length s → (e : ℕ) → has x e ≡ true → has (get_or s t 0) e ≡ true) → put_into t x s ≡ s
  put_still h =
      inside_equal put_length
      (record { at = λ i e g. put_cases i e (λ a. a) (λ p l b. ap (λ (j : ℕ). has (get_or s j 0) e) p ∙ h l e b) g })
      put_grows

  pub still_put : put_into t x s ≡ s → t < length s → (e : ℕ) → has x e ≡ true → has (get_or s t 0) e ≡ true
  still_put q l e h = ap (λ (r : List ℕ). has (get_or r t 0) e) (sym q) ∙ put_puts l e h

  -- what is inside a list that has the set at t stays inside it
  pub put_inside : (r : List ℕ) → length s ≡ length r → (t < length r → (e : ℕ) → has x e ≡ true → has (get_or r t 0) e ≡ true) → Inside s r → Inside (put_into t x s) r
  put_inside r l h a = record {
    at = λ i e. put_cases i e (a.at i e) (λ p m b. ap (λ (j : ℕ). has (get_or r j 0) e) p ∙ h (subst (λ (y : ℕ). t < y) l m) e b);
  }

pub put_monotone : (t x y : ℕ) (s r : List ℕ) → length s ≡ length r → ((e : ℕ) → has x e ≡ true → has y e ≡ true) → Inside s r
    → Inside (put_into t x s) (put_into t y r)
put_monotone t x y s r l f a = record {
  at = λ i e. put_cases t x s i e (λ h. (put_grows t y r).at i e (a.at i e h))
      (λ p m b. ap (λ (j : ℕ). has (get_or (put_into t y r) j 0) e) p ∙ put_puts t y r (subst (λ (z : ℕ). t < z) l m) e (f e b));
}

-- ---- steady passes

-- what puts into one place a set that grows with the list
pub put_steady : (n t : ℕ) (g : List ℕ → ℕ) → ((s : List ℕ) → SetList n s → g s < 2 ^ 64)
    → ((s r : List ℕ) → SetList n s → SetList n r → Inside s r → (e : ℕ) → has (g s) e ≡ true → has (g r) e ≡ true)
    → Steady n (λ (s : List ℕ). put_into t (g s) s)
put_steady n t g b m = record {
  keeps = λ s h. put_sets t (g s) s n (b s h) h;
  grows = λ s h. put_grows t (g s) s;
  monotone = λ s r h k a. put_monotone t (g s) (g r) s r (h.places ∙ sym k.places) (m s r h k a) a;
}

-- no change at all
pub same_steady : (n : ℕ) → Steady n (λ (s : List ℕ). s)
same_steady n = record { keeps = λ s h. h; grows = λ s h. inside_refl s; monotone = λ s r h k a. a }

module _ (n : ℕ) (p q : List ℕ → List ℕ) (hp : Steady n p) (hq : Steady n q) where
  -- one pass after another
  pub then_steady : Steady n (λ (s : List ℕ). q (p s))
  then_steady = record {
    keeps = λ s h. hq.keeps (p s) (hp.keeps s h);
    grows = λ s h. inside_trans (hp.grows s h) (hq.grows (p s) (hp.keeps s h));
    monotone = λ s r h k a. hq.monotone (p s) (p r) (hp.keeps s h) (hp.keeps r k) (hp.monotone s r h k a);
  }

  -- what both together leave as it is, each leaves
  pub then_still : (s : List ℕ) → SetList n s → q (p s) ≡ s → (p s ≡ s) × (q s ≡ s)
  then_still s h e =
      let a : p s ≡ s =
      inside_equal ((hp.keeps s h).places ∙ sym h.places) (subst (Inside (p s)) e (hq.grows (p s) (hp.keeps s h))) (hp.grows s h) in
      (a, ap q (sym a) ∙ e)
