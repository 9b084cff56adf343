-- What passes until nothing changes come to, for any steady pass: the least list that holds the start and that the pass leaves as it is.
-- The greatest lists are the complements of these. Assumes nothing.
use Rattle.std.specs.Prelude.{◌≡◌, Bool, get_or}
use Rattle.std.proofs.Math.Path.{refl, sym, ap}
use Rattle.std.proofs.Common.{◌∙◌, subst, le_refl, arith}
use Rattle.std.proofs.Math.Bool.{true, false}
use mathlib.Core.List.{List}
use Prim.Native.Nat.{ℕ, zero, suc, ◌≤◌, ◌<◌}
use Rattle.sets.specs.Set.{has}
use Rattle.sets.specs.Least.{SetList, Inside, Steady, same, room, settle, settled}
use Rattle.sets.proofs.InsideLaws.{inside_refl, inside_trans, inside_equal, same_true, same_refl, room_less}

-- ---- one step, by the test

pub stops : (pass : List ℕ → List ℕ) (n : ℕ) (s : List ℕ) → same (pass s) s ≡ true → settle pass (suc n) s ≡ s
unfolding settle
stops pass n s e = rw (settle, e)

pub goes : (pass : List ℕ → List ℕ) (n : ℕ) (s : List ℕ) → same (pass s) s ≡ false → settle pass (suc n) s ≡ settle pass n (pass s)
unfolding settle
goes pass n s e = rw (settle, e)

-- ---- what a pass keeps, settling keeps

settle_keeps : (pass : List ℕ → List ℕ) (P : List ℕ → Type 0) → ((r : List ℕ) → P r → P (pass r)) → (n : ℕ) (s : List ℕ) → P s → P (settle pass n s)
unfolding settle
settle_keeps pass P f zero s h = h
settle_keeps pass P f (suc n) s h =
    let ih : P (settle pass n (pass s)) = settle_keeps pass P f n (pass s) (f s h) in
    go ih (same (pass s) s) refl
  where
    go : P (settle pass n (pass s)) → (b : Bool) → same (pass s) s ≡ b → P (settle pass (suc n) s)
    go ih true e = subst P (sym (stops pass n s e)) h
    go ih false e = subst P (sym (goes pass n s e)) ih

pub settled_keeps : (pass : List ℕ → List ℕ) (P : List ℕ → Type 0) → ((r : List ℕ) → P r → P (pass r)) → (s : List ℕ) → P s → P (settled pass s)
unfolding settled
settled_keeps pass P f s h = settle_keeps pass P f (room s) s h

-- ---- the theorem

module _ (n : ℕ) (pass : List ℕ → List ℕ) (steady : Steady n pass) where
  -- a pass that changes something leaves less room
  changed_less : (s : List ℕ) → SetList n s → same (pass s) s ≡ false → room (pass s) < room s
  changed_less s h e =
      room_less h (steady.keeps s h) (steady.grows s h)
      (λ q. let t : true ≡ false = sym (same_refl s) ∙ ap (λ (r : List ℕ). same r s) q ∙ e in let z : ◌≡◌ {A = ℕ} 0 1 = cc in omega arith)

  settle_closed : (m : ℕ) (s : List ℕ) → SetList n s → room s ≤ m → pass (settle pass m s) ≡ settle pass m s
  unfolding settle
  settle_closed zero s h l = go (same (pass s) s) refl
    where
      go : (b : Bool) → same (pass s) s ≡ b → pass s ≡ s
      go true e = same_true (pass s) s e
      go false e = let k : room (pass s) < room s = changed_less s h e in absurd (omega arith)
  settle_closed (suc m) s h l =
      let ih : room (pass s) ≤ m → pass (settle pass m (pass s)) ≡ settle pass m (pass s) = settle_closed m (pass s) (steady.keeps s h) in
      go ih (same (pass s) s) refl
    where
      go : (room (pass s) ≤ m → pass (settle pass m (pass s)) ≡ settle pass m (pass s)) → (b : Bool) → same (pass s) s ≡ b
          → pass (settle pass (suc m) s) ≡ settle pass (suc m) s
      go ih true e = ap pass (stops pass m s e) ∙ same_true (pass s) s e ∙ sym (stops pass m s e)
      go ih false e =
          let k : room (pass s) < room s = changed_less s h e in
          ap pass (goes pass m s e) ∙ ih (omega arith) ∙ sym (goes pass m s e)

  pub settled_sets : (s : List ℕ) → SetList n s → SetList n (settled pass s)
  settled_sets s h = settled_keeps pass (SetList n) steady.keeps s h

  pub settled_closed : (s : List ℕ) → SetList n s → pass (settled pass s) ≡ settled pass s
  unfolding settled
  settled_closed s h = settle_closed (room s) s h (le_refl (room s))

  -- lists of n sets with a property that a pass keeps
  kept_with : (P : List ℕ → Type 0) → ((r : List ℕ) → SetList n r → P r → P (pass r)) → (m : ℕ) (s : List ℕ) → SetList n s → P s
      → SetList n (settle pass m s) × P (settle pass m s)
  kept_with P f m s h p = settle_keeps pass (λ (r : List ℕ). SetList n r × P r) (λ r q. (steady.keeps r q.0, f r q.0 q.1)) m s (h, p)

  pub settled_holds_start : (s : List ℕ) → SetList n s → Inside s (settled pass s)
  unfolding settled
  settled_holds_start s h = (kept_with (Inside s) (λ r q a. inside_trans a (steady.grows r q)) (room s) s h (inside_refl s)).1

  settle_inside : (m : ℕ) (s t : List ℕ) → SetList n s → SetList n t → Inside s t → Inside (pass t) t → Inside (settle pass m s) t
  settle_inside m s t h k a c = (kept_with (λ (r : List ℕ). Inside r t) (λ r q b. inside_trans (steady.monotone r t q k b) c) m s h a).1

  -- inside every list that holds the start and that a pass leaves
  pub settled_inside : (s t : List ℕ) → SetList n s → SetList n t → Inside s t → Inside (pass t) t → Inside (settled pass s) t
  unfolding settled
  settled_inside s t h k a c = settle_inside (room s) s t h k a c

  -- so there is one such list: what is between the start and the settled list, and closed, is the settled list
  pub settled_is : (s r : List ℕ) → SetList n s → SetList n r → Inside s r → Inside r (settled pass s) → Inside (pass r) r → r ≡ settled pass s
  settled_is s r h k a b c = inside_equal (k.places ∙ sym (settled_sets s h).places) b (settled_inside s r h k a c)

  -- what holds of every element at the start, and of what a pass puts if it holds of all there is, holds of every element at the end
  pub settled_induction : (P : ℕ → ℕ → Type 0)
      → ((r : List ℕ) → SetList n r → ((i e : ℕ) → has (get_or r i 0) e ≡ true → P i e) → (i e : ℕ) → has (get_or (pass r) i 0) e ≡ true → P i e)
      → (s : List ℕ) → SetList n s → ((i e : ℕ) → has (get_or s i 0) e ≡ true → P i e)
      → (i e : ℕ) → has (get_or (settled pass s) i 0) e ≡ true → P i e
  unfolding settled
  settled_induction P f s h p = (kept_with (λ (r : List ℕ). (i e : ℕ) → has (get_or r i 0) e ≡ true → P i e) f (room s) s h p).1
