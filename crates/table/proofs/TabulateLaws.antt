-- What stands where in a list by the numbers of its places. Assumes nothing.
use Rattle.std.specs.Prelude.{◌≡◌, List, ◌++◌, Bool, true, false, ltb, length, get_or, set, replicate}
use Rattle.std.proofs.Math.Path.{refl, ap}
use Rattle.std.proofs.Common.{sym, ◌∙◌, add-zero, zero-add, le_of_suc-le-suc, not-suc-le-zero, length-set, ltb-true, ltb-false, lt-ltb, le-ltb, ext_get_or, get_or-append-add, get_or-set_same, get_or-set_other}
use Prim.Native.Nat.{ℕ, zero, suc, ◌+◌, ◌≤◌, ◌<◌, min}
use native.Mathlib.Omega.{arith}
use Rattle.std.proofs.lemmas.List.{length-replicate}
use Rattle.std.proofs.Math.ListN.{get_or-eq_default, get_or-append}
use Rattle.std.proofs.Math.Decide.{ℕ_discrete}
use Rattle.table.specs.Tabulate.{tabulate_from, tabulate, below}
use Rattle.table.specs.TabulateLaws.{Begun, Filled}

module _ {A : Type 0} where
  length_from : (from n : ℕ) (g : ℕ → A) → length (tabulate_from from n g) ≡ n
  unfolding tabulate_from
  length_from from zero g = refl
  length_from from (suc n) g = ap suc (length_from (from + 1) n g)

  get_d_from : (from n : ℕ) (g : ℕ → A) (k : ℕ) (d : A) → k < n → get_or (tabulate_from from n g) k d ≡ g (from + k)
  unfolding tabulate_from
  get_d_from from zero g k d h = absurd (not-suc-le-zero h)
  get_d_from from (suc n) g zero d h = ap g (sym (add-zero from))
  get_d_from from (suc n) g (suc k) d h =
      let e : from + 1 + k ≡ from + suc k = omega arith in get_d_from (from + 1) n g k d (le_of_suc-le-suc h) ∙ ap g e

  pub length_tabulate : (n : ℕ) (g : ℕ → A) → length (tabulate n g) ≡ n
  unfolding tabulate
  length_tabulate n g = length_from 0 n g

  pub get_d_tabulate : (n : ℕ) (g : ℕ → A) (k : ℕ) (d : A) → k < n → get_or (tabulate n g) k d ≡ g k
  unfolding tabulate
  get_d_tabulate n g k d h = get_d_from 0 n g k d h ∙ ap g (zero-add k)

  -- a list that has at each place what g says is the tabulated one
  pub is_tabulate : (n : ℕ) (g : ℕ → A) (l : List A) (d : A) → length l ≡ n → ((k : ℕ) → k < n → get_or l k d ≡ g k) → l ≡ tabulate n g
  is_tabulate n g l d e h =
      ext_get_or d l (tabulate n g) (e ∙ sym (length_tabulate n g))
      (λ i b. let b' : i < n = omega (arith, e) in h i b' ∙ sym (get_d_tabulate n g i d b'))

  -- two functions that say the same below n
  pub tabulate_same : (n : ℕ) (g h : ℕ → A) → ((k : ℕ) → k < n → g k ≡ h k) → tabulate n g ≡ tabulate n h
  tabulate_same n g h e = is_tabulate n h (tabulate n g) (g 0) (length_tabulate n g) (λ k b. get_d_tabulate n g k (g 0) b ∙ e k b)

  -- a place of the first of two lists, and of the second
  pub get_d_front : (n : ℕ) (g : ℕ → A) (r : List A) (k : ℕ) (d : A) → k < n → get_or (tabulate n g ++ r) k d ≡ g k
  get_d_front n g r k d h = get_or-append (tabulate n g) r d k (omega (arith, length_tabulate n g)) ∙ get_d_tabulate n g k d h

  pub get_d_behind : (n : ℕ) (g : ℕ → A) (r : List A) (k : ℕ) (d : A) → get_or (tabulate n g ++ r) (n + k) d ≡ get_or r k d
  get_d_behind n g r k d = ap (λ (m : ℕ). get_or (tabulate n g ++ r) (m + k) d) (sym (length_tabulate n g)) ∙ get_or-append-add (tabulate n g) r k d

-- ---- a list that a loop fills from its front

pub filled_none : (g : ℕ → ℕ) (a : List ℕ) (n : ℕ) → length a ≡ n → Filled g a n 0
filled_none g a n e = record { long = e; holds = λ k h. absurd (not-suc-le-zero h) }

pub filled_next : (g : ℕ → ℕ) (a : List ℕ) (n r v : ℕ) → Filled g a n r → r < n → v ≡ g r → Filled g (set a r v) n (r + 1)
filled_next g a n r v f h e = record { long = length-set a r v ∙ f.long; holds = λ k b. at k b (ℕ_discrete k r) }
  where
    at : (k : ℕ) → k < r + 1 → Dec (k ≡ r) → get_or (set a r v) k 0 ≡ g k
    at k b (yes p) =
        let inside : r < length a = omega (arith, f.long) in
        ap (λ (i : ℕ). get_or (set a r v) i 0) p ∙ get_or-set_same a r v 0 inside ∙ e ∙ ap g (sym p)
    at k b (no q) = let below : k < r = omega (arith, q) in get_or-set_other a r k v 0 q ∙ f.holds k below

pub filled_all : (g : ℕ → ℕ) (a : List ℕ) (n r : ℕ) → Filled g a n r → n ≤ r → a ≡ tabulate n g
filled_all g a n r f h = is_tabulate n g a 0 f.long (λ k b. f.holds k (omega arith))

-- an entry of a tabulated list of numbers
pub entry_tabulate : (n : ℕ) (g : ℕ → ℕ) (l : List ℕ) (k : ℕ) → l ≡ tabulate n g → k < n → get_or l k 0 ≡ g k
entry_tabulate n g l k e h = ap (λ (a : List ℕ). get_or a k 0) e ∙ get_d_tabulate n g k 0 h

-- ---- a list that has zeros behind

pub below_in : (m : ℕ) (g : ℕ → ℕ) (k : ℕ) → k < m → below m g k ≡ g k
unfolding below
below_in m g k h = rw (lt-ltb k m h)

below_out : (m : ℕ) (g : ℕ → ℕ) (k : ℕ) → m ≤ k → below m g k ≡ 0
unfolding below
below_out m g k h = rw (le-ltb k m h)

-- a list of one thing has it at every place, past the end too
pub replicate_at : {A : Type 0} (n k : ℕ) (a : A) → get_or (replicate n a) k a ≡ a
replicate_at zero k a = refl
replicate_at (suc n) zero a = refl
replicate_at (suc n) (suc k) a = replicate_at n k a

pub zeros_at : (n k : ℕ) → ◌≡◌ {A = ℕ} (get_or (replicate n 0) k 0) 0
zeros_at n k = replicate_at n k 0

pub begun_none : (g : ℕ → ℕ) (n : ℕ) → Begun g (replicate n 0) n 0
begun_none g n = record { filled = filled_none g (replicate n 0) n (length-replicate n 0); behind = λ k h. zeros_at n k }

pub begun_next : (g : ℕ → ℕ) (a : List ℕ) (n r v : ℕ) → Begun g a n r → r < n → v ≡ g r → Begun g (set a r v) n (r + 1)
begun_next g a n r v b h e = record {
  filled = filled_next g a n r v b.filled h e;
  behind = λ k l. get_or-set_other a r k v 0 (λ q. omega (arith, q)) ∙ b.behind k (omega arith);
}

-- filled as far as m goes, within the n places
pub begun_below : (g : ℕ → ℕ) (a : List ℕ) (n r m : ℕ) → Begun g a n r → min n m ≡ min n r → a ≡ tabulate n (below m g)
begun_below g a n r m b e = is_tabulate n (below m g) a 0 b.filled.long (λ k h. at k h (ltb k m) refl)
  where
    at : (k : ℕ) → k < n → (t : Bool) → ltb k m ≡ t → get_or a k 0 ≡ below m g k
    at k h true t = let l : k < m = ltb-true k m t in b.filled.holds k (omega arith) ∙ sym (below_in m g k l)
    at k h false t = let l : m ≤ k = ltb-false k m t in b.behind k (omega arith) ∙ sym (below_out m g k l)

-- filled as far as g is not 0
pub begun_rest : (g : ℕ → ℕ) (a : List ℕ) (n r : ℕ) → Begun g a n r → ((k : ℕ) → r ≤ k → g k ≡ 0) → a ≡ tabulate n g
begun_rest g a n r b z = is_tabulate n g a 0 b.filled.long (λ k h. at k (ltb k r) refl)
  where
    at : (k : ℕ) (t : Bool) → ltb k r ≡ t → get_or a k 0 ≡ g k
    at k true t = b.filled.holds k (ltb-true k r t)
    at k false t = let l : r ≤ k = ltb-false k r t in b.behind k l ∙ sym (z k l)

-- an entry of such a list
pub entry_below : (n m : ℕ) (g : ℕ → ℕ) (l : List ℕ) (k : ℕ) → l ≡ tabulate n (below m g) → k < n → k < m → get_or l k 0 ≡ g k
entry_below n m g l k e h b = entry_tabulate n (below m g) l k e h ∙ below_in m g k b

pub entry_behind : (n m : ℕ) (g : ℕ → ℕ) (l : List ℕ) (k : ℕ) → l ≡ tabulate n (below m g) → m ≤ k → get_or l k 0 ≡ 0
entry_behind n m g l k e b = at (ltb k n) refl
  where
    at : (t : Bool) → ltb k n ≡ t → get_or l k 0 ≡ 0
    at true t = entry_tabulate n (below m g) l k e (ltb-true k n t) ∙ below_out m g k b
    at false t =
        let long : length l ≡ n = ap length e ∙ length_tabulate n (below m g) in
        get_or-eq_default l 0 {n = k} (omega (arith, ltb-false k n t))

-- ---- a list that a loop rewrites from its front

-- the first p places hold what g says, those behind what they held before
pub record Rewritten (g : ℕ → ℕ) (s₀ s : List ℕ) (p : ℕ) : Type 0 where
  pub filled : Filled g s (length s₀) p
  pub rest : (k : ℕ) → p ≤ k → get_or s k 0 ≡ get_or s₀ k 0

pub rewritten_none : (g : ℕ → ℕ) (s : List ℕ) → Rewritten g s s 0
rewritten_none g s = record { filled = filled_none g s (length s) refl; rest = λ k h. refl }

pub rewritten_next : {g : ℕ → ℕ} {s₀ s : List ℕ} {p v : ℕ} → Rewritten g s₀ s p → p < length s → v ≡ g p → Rewritten g s₀ (set s p v) (p + 1)
rewritten_next {g} {s₀} {s} {p} {v} r l e = record {
  filled = filled_next g s (length s₀) p v r.filled (omega (arith, r.filled.long)) e;
  rest = λ k h. get_or-set_other s p k v 0 (λ q. omega (arith, q)) ∙ r.rest k (omega arith);
}

-- all of it, where g keeps what is behind
pub rewritten_all : {g : ℕ → ℕ} {s₀ s : List ℕ} {p : ℕ} → Rewritten g s₀ s p → ((k : ℕ) → p ≤ k → k < length s₀ → g k ≡ get_or s₀ k 0) → s ≡ tabulate (length s₀) g
rewritten_all {g} {s₀} {s} {p} r keeps = is_tabulate (length s₀) g s 0 r.filled.long (λ k h. at k h (ltb k p) refl)
  where
    at : (k : ℕ) → k < length s₀ → (t : Bool) → ltb k p ≡ t → get_or s k 0 ≡ g k
    at k h true t = r.filled.holds k (ltb-true k p t)
    at k h false t = let l : p ≤ k = ltb-false k p t in r.rest k l ∙ sym (keeps k l h)
