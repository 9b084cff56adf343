-- How many passes are made: no more than it takes until the list stays, and never more than there are places. Assumes nothing.
use Rattle.std.specs.Prelude.{◌≡◌, Bool, cond, ◌⊎◌, ltb, length, get_or}
use Rattle.std.proofs.Math.Path.{refl, subst}
use Rattle.std.proofs.Common.{sym, ap, ◌∙◌, le_refl, ltb-true, ltb-false}
use Rattle.std.proofs.Math.Bool.{true, false}
use Rattle.std.proofs.Math.Logic.{inl, inr, ⊎_elim}
use mathlib.Core.List.{List, [], ◌∷◌}
use Prim.Native.Nat.{ℕ, zero, suc, ◌+◌, ◌-◌, ◌≤◌, ◌<◌, max}
use Rattle.std.proofs.Math.Nat.{suc_inj}
use native.Mathlib.Omega.{arith}
use Rattle.sets.specs.Set.{has}
use Rattle.sets.proofs.SetLaws.{has_empty}
use Rattle.sets.specs.Least.{Inside, same, Edge, along}
use Rattle.sets.proofs.InsideLaws.{inside_equal, same_refl}
use Rattle.sets.proofs.LeastLaws.{along_length, along_grows, along_cases}
use Rattle.round_robin.specs.RoundRobin.{pass_down, after, counted, passes_made}
use Rattle.round_robin.proofs.PassLaws.{along_puts, down_length, down_grows}

-- ---- passes until nothing changes

module _ (pass : List ℕ → List ℕ) where
  -- one more pass, by the test
  pub counted_stops : (n : ℕ) (s : List ℕ) → same (pass s) s ≡ true → counted pass (suc n) s ≡ 1
  unfolding counted
  counted_stops n s e = rw (counted, e)

  pub counted_goes : (n : ℕ) (s : List ℕ) → same (pass s) s ≡ false → counted pass (suc n) s ≡ suc (counted pass n (pass s))
  unfolding counted
  counted_goes n s e = rw (counted, e)

  -- where m passes leave what another one leaves as it is, no more than one more is made
  counted_most : (n m : ℕ) (s : List ℕ) → pass (after pass m s) ≡ after pass m s → counted pass n s ≤ m + 1
  unfolding counted after
  counted_most zero m s h = omega arith
  counted_most (suc n) zero s h =
      subst (λ (x : ℕ). x ≤ 0 + 1) (sym (counted_stops n s (ap (λ (r : List ℕ). same r s) h ∙ same_refl s))) (omega arith)
  counted_most (suc n) (suc m) s h = go (counted_most n m (pass s) h) (same (pass s) s) refl
    where
      go : counted pass n (pass s) ≤ m + 1 → (b : Bool) → same (pass s) s ≡ b → counted pass (suc n) s ≤ suc m + 1
      go ih true e = subst (λ (x : ℕ). x ≤ suc m + 1) (sym (counted_stops n s e)) (omega arith)
      go ih false e = subst (λ (x : ℕ). x ≤ suc m + 1) (sym (counted_goes n s e)) (omega arith)

  pub made_most : (m : ℕ) (s : List ℕ) → pass (after pass m s) ≡ after pass m s → passes_made pass s ≤ m + 1
  unfolding passes_made
  made_most m s h = counted_most _ m s h

  -- one pass more, at the end
  pub after_last : (k : ℕ) (s : List ℕ) → after pass (suc k) s ≡ pass (after pass k s)
  unfolding after
  after_last zero s = refl
  after_last (suc k) s = after_last k (pass s)

-- ---- an element goes to one place more in each pass, or to none any more

-- how many places have element x
abbrev spread : ℕ → List ℕ → ℕ
spread x [] = 0
spread x (y ∷ s) = cond (has y x) 1 0 + spread x s

-- the same places have x
record Like (x : ℕ) (s r : List ℕ) : Type 0 where
  places : length s ≡ length r
  to : (i : ℕ) → has (get_or s i 0) x ≡ true → has (get_or r i 0) x ≡ true
  back : (i : ℕ) → has (get_or r i 0) x ≡ true → has (get_or s i 0) x ≡ true

nowhere {ℓ} : {C : Type ℓ} (x : ℕ) → has 0 x ≡ true → C
nowhere x h = let e : true ≡ false = sym h ∙ has_empty x in let z : ◌≡◌ {A = ℕ} 0 1 = cc in absurd (omega arith)

module _ (x : ℕ) where
  spread_most : (s : List ℕ) → spread x s ≤ length s
  spread_most [] = le_refl 0
  spread_most (y ∷ s) = go (spread_most s) (has y x)
    where
      go : spread x s ≤ length s → (b : Bool) → cond b 1 0 + spread x s ≤ suc (length s)
      go ih true = omega arith
      go ih false = omega arith

  -- a place that has it counts
  spread_some : (s : List ℕ) (i : ℕ) → has (get_or s i 0) x ≡ true → 1 ≤ spread x s
  spread_some [] i h = nowhere x h
  spread_some (y ∷ s) zero h = rw h (omega arith)
  spread_some (y ∷ s) (suc i) h = go (spread_some s i h) (has y x)
    where
      go : 1 ≤ spread x s → (b : Bool) → 1 ≤ cond b 1 0 + spread x s
      go ih true = omega arith
      go ih false = omega arith

  spread_at : (s : List ℕ) → 1 ≤ spread x s → (i : ℕ) × (has (get_or s i 0) x ≡ true)
  spread_at [] h = absurd (omega arith)
  spread_at (y ∷ s) h = go (spread_at s) (has y x) refl
    where
      go : (1 ≤ spread x s → (i : ℕ) × (has (get_or s i 0) x ≡ true)) → (b : Bool) → has y x ≡ b → (i : ℕ) × (has (get_or (y ∷ s) i 0) x ≡ true)
      go ih true q = (0, q)
      go ih false q = let k : 1 ≤ 0 + spread x s = rw q at h in let r = ih (omega arith) in (suc r.0, r.1)

  -- a list that grows has it at no fewer places, and at more unless they are the same
  spread_less : (s r : List ℕ) → length s ≡ length r → ((i : ℕ) → has (get_or s i 0) x ≡ true → has (get_or r i 0) x ≡ true)
      → (spread x s ≤ spread x r) × (spread x r ≤ spread x s → (i : ℕ) → has (get_or r i 0) x ≡ true → has (get_or s i 0) x ≡ true)
  spread_less [] [] l f = (le_refl 0, λ q i h. h)
  spread_less [] (z ∷ r) l f = absurd (omega arith)
  spread_less (y ∷ s) [] l f = absurd (omega arith)
  spread_less (y ∷ s) (z ∷ r) l f = go (spread_less s r (suc_inj l) (λ i. f (suc i))) (has y x) refl (has z x) refl
    where
      first : has y x ≡ true → ((i : ℕ) → has (get_or r i 0) x ≡ true → has (get_or s i 0) x ≡ true)
          → (i : ℕ) → has (get_or (z ∷ r) i 0) x ≡ true → has (get_or (y ∷ s) i 0) x ≡ true
      first p rest zero h = p
      first p rest (suc j) h = rest j h

      later : has z x ≡ false → ((i : ℕ) → has (get_or r i 0) x ≡ true → has (get_or s i 0) x ≡ true)
          → (i : ℕ) → has (get_or (z ∷ r) i 0) x ≡ true → has (get_or (y ∷ s) i 0) x ≡ true
      later q rest zero h = let t : true ≡ false = sym h ∙ q in let w : ◌≡◌ {A = ℕ} 0 1 = cc in absurd (omega arith)
      later q rest (suc j) h = rest j h

      go : (spread x s ≤ spread x r) × (spread x r ≤ spread x s → (i : ℕ) → has (get_or r i 0) x ≡ true → has (get_or s i 0) x ≡ true)
          → (a : Bool) → has y x ≡ a → (b : Bool) → has z x ≡ b
          → (spread x (y ∷ s) ≤ spread x (z ∷ r)) × (spread x (z ∷ r) ≤ spread x (y ∷ s) → (i : ℕ) → has (get_or (z ∷ r) i 0) x ≡ true → has (get_or (y ∷ s) i 0) x ≡ true)
      go ih true p true q = rw (p, q) (omega (arith, ih.0), λ g. first p (ih.1 (omega arith)))
      go ih true p false q = let t : true ≡ false = sym (f 0 p) ∙ q in let w : ◌≡◌ {A = ℕ} 0 1 = cc in absurd (omega arith)
      go ih false p true q = rw (p, q) (omega (arith, ih.0), λ g i. absurd (omega (arith, ih.0)))
      go ih false p false q = rw (p, q) (omega (arith, ih.0), λ g. later q (ih.1 (omega arith)))

  -- an edge does the same with x where the same places have it
  along_to : (e : Edge) (s r : List ℕ) → length s ≡ length r → ((i : ℕ) → has (get_or s i 0) x ≡ true → has (get_or r i 0) x ≡ true)
      → (i : ℕ) → has (get_or (along e s) i 0) x ≡ true → has (get_or (along e r) i 0) x ≡ true
  along_to e s r l f i =
      along_cases e s i x (λ h. (along_grows e r).at i x (f i h))
      (λ p m g h. subst (λ (j : ℕ). has (get_or (along e r) j 0) x ≡ true) (sym p) (along_puts e r (subst (λ (y : ℕ). e.to < y) l m) x (f e.from g) (f e.also h)))

  along_like : (e : Edge) {s r : List ℕ} → Like x s r → Like x (along e s) (along e r)
  along_like e {s} {r} h = record {
    places = along_length e s ∙ h.places ∙ sym (along_length e r);
    to = along_to e s r h.places h.to;
    back = along_to e r s (sym h.places) h.back;
  }

  down_like : (es : List Edge) {s r : List ℕ} → Like x s r → Like x (pass_down es s) (pass_down es r)
  unfolding pass_down
  down_like [] h = h
  down_like (e ∷ es) h = along_like e (down_like es h)

  -- what has x after a pass has it from somewhere
  down_came : (es : List Edge) (s : List ℕ) (i : ℕ) → has (get_or (pass_down es s) i 0) x ≡ true → 1 ≤ spread x s
  unfolding pass_down
  down_came [] s i h = spread_some s i h
  down_came (e ∷ es) s i h = along_cases e (pass_down es s) i x (down_came es s i) (λ p l a b. down_came es s e.from a) h

module _ (es : List Edge) where
  abbrev pass : List ℕ → List ℕ
  pass = pass_down es

  after_length : (k : ℕ) (s : List ℕ) → length (after pass k s) ≡ length s
  unfolding after
  after_length zero s = refl
  after_length (suc k) s = after_length k (pass s) ∙ down_length es s

  after_like : (k x : ℕ) {s r : List ℕ} → Like x s r → Like x (after pass k s) (after pass k r)
  unfolding after
  after_like zero x h = h
  after_like (suc k) x h = after_like k x (down_like x es h)

  -- a pass leaves x where it is, or puts it into one place more
  one_more : (x : ℕ) (s : List ℕ) → Like x s (pass s) ⊎ ((1 ≤ spread x s) × (spread x s < spread x (pass s)))
  one_more x s = go (ltb (spread x s) (spread x (pass s))) refl
    where
      l : length s ≡ length (pass s)
      l = sym (down_length es s)

      go : (b : Bool) → ltb (spread x s) (spread x (pass s)) ≡ b → Like x s (pass s) ⊎ ((1 ≤ spread x s) × (spread x s < spread x (pass s)))
      go true e =
          let h : spread x s < spread x (pass s) = ltb-true _ _ e in
          let i = spread_at x (pass s) (omega arith) in
          inr (down_came x es s i.0 i.1, h)
      go false e = inl (record { places = l; to = λ i. (down_grows es s).at i x; back = (spread_less x s (pass s) l (λ i. (down_grows es s).at i x)).1 (ltb-false _ _ e) })

  -- so after k passes one more leaves it, or it is at more than k + 1 places
  quiet : (k x : ℕ) (s : List ℕ) → Like x (after pass k s) (after pass k (pass s)) ⊎ ((1 ≤ spread x s) × (k + spread x s < spread x (after pass k (pass s))))
  unfolding after
  quiet zero x s = ⊎_elim (λ h. inl h) (λ h. inr (h.0, omega (arith, h.1))) (one_more x s)
  quiet (suc k) x s = ⊎_elim (λ h. inl h) (λ h. ⊎_elim (λ g. inl (after_like (suc k) x g)) (λ g. inr (g.0, omega (arith, g.1, h.1))) (one_more x s)) (quiet k x (pass s))

  after_grows : (k : ℕ) (s : List ℕ) → Inside (after pass k s) (after pass k (pass s))
  unfolding after
  after_grows zero s = down_grows es s
  after_grows (suc k) s = after_grows k (pass s)

  -- as many passes as places, less one, leave what another one leaves as it is
  all_quiet : (k : ℕ) (s : List ℕ) → length s ≤ suc k → after pass k (pass s) ≡ after pass k s
  all_quiet k s h =
      sym (inside_equal (after_length k s ∙ sym (after_length k (pass s) ∙ down_length es s)) (after_grows k s)
      (record { at = λ i x. ⊎_elim (λ g. g.back i) (λ g. absurd (omega (arith, g.0, g.1, spread_most x (after pass k (pass s)), after_length k (pass s), down_length es s))) (quiet k x s) }))

  -- no more passes are made than there are places, or one
  pub made_few : (s : List ℕ) → passes_made pass s ≤ max 1 (length s)
  unfolding after
  made_few s =
      let h = made_most pass (length s - 1) s (sym (after_last pass (length s - 1) s) ∙ all_quiet (length s - 1) s (omega arith)) in
      omega arith
