-- What a lock's word says of who holds it. Assumes nothing.
use Rattle.std.specs.Prelude.{ℕ, zero, suc, ◌^◌, ◌<◌, ◌≡◌, refl, Bool, true, false, cond, not, ◌||◌, ◌&&◌, List, [], ◌∷◌, map, eqb, ltb, length, get_or, set, replicate}
use Rattle.std.proofs.Common.{sym, ap, ◌∙◌, subst, arith, eqb-true, eq-eqb, ne_eqb, ltb-true, ltb-false, get_or-set_same, get_or-set_other}
use Rattle.std.proofs.Math.Decide.{ℕ_discrete}
use Rattle.std.proofs.lemmas.Bool.{eqb-false}
use Rattle.std.proofs.Math.ListN.{get_or-map}
use Rattle.std.proofs.Math.Pow.{pow-lt}
use Rattle.std.proofs.Math.Seq.{set_out}
use Rattle.sets.specs.Set.{has, one, with, minus}
use Rattle.sets.proofs.SetLaws.{has_empty, has_one, has_with, has_minus, same_elements, union_below, one_is}
use Rattle.table.proofs.TabulateLaws.{replicate_at}
use Rattle.machine.specs.State.{Holder, free, among, without}
use Rattle.run_state.specs.Shown.{readers_word, word_of, AllLow, Low, ShowsLocks}

-- ---- the locks' words

map_set : {A B : Type 0} (f : A → B) (l : List A) (i : ℕ) (y : A) → map f (set l i y) ≡ set (map f l) i (f y)
map_set f [] i y = refl
map_set f (x ∷ xs) zero y = refl
map_set {B = B} f (x ∷ xs) (suc i) y = ap (λ (zs : List B). f x ∷ zs) (map_set f xs i y)

module _ (words : List ℕ) (locks : List Holder) (s : ShowsLocks words locks) where
  pub word_at : (k : ℕ) → get_or words k 0 ≡ word_of (get_or locks k free)
  word_at k = ap (λ (l : List ℕ). get_or l k 0) s.words_are ∙ get_or-map word_of locks k free

  -- one lock changes hands
  pub locks_set : (k : ℕ) (new : Holder) → Low new → ShowsLocks (set words k (word_of new)) (set locks k new)
  locks_set k new l =
      record { words_are = rw s.words_are (sym (map_set word_of locks k new)); low = λ i. at i (ltb k (length locks)) refl (ℕ_discrete i k) }
    where
      at : (i : ℕ) (b : Bool) → ltb k (length locks) ≡ b → Dec (i ≡ k) → Low (get_or (set locks k new) i free)
      at i false e d = rw (set_out locks k new (ltb-false k (length locks) e)) (s.low i)
      at i true e (yes p) = rw (p, get_or-set_same locks k new free (ltb-true k (length locks) e)) l
      at i true e (no q) = rw (get_or-set_other locks k i new free q) (s.low i)

-- "locks free"
pub all_free : (n : ℕ) → ShowsLocks (replicate n 0) (replicate n free)
all_free n = record { words_are = zeros n; low = λ k. subst Low (sym (replicate_at n k free)) tt }
  where
    zeros : (n : ℕ) → replicate n 0 ≡ map word_of (replicate n free)
    zeros zero = refl
    zeros (suc n) = ap (λ (l : List ℕ). 0 ∷ l) (zeros n)

-- ---- readers

pub readers_has : (ms : List ℕ) → AllLow ms → (i : ℕ) → has (readers_word ms) i ≡ among i ms
readers_has [] l i = has_empty i
readers_has (m ∷ ms) l i = has_with (readers_word ms) m i (omega (arith, l.0)) ∙ rw (readers_has ms l.1 i) (turned (among i ms) (ℕ_discrete m i))
  where
    turned : (b : Bool) → Dec (m ≡ i) → (b || eqb i m) ≡ (eqb m i || b)
    turned true (yes e) = rw (eq-eqb m i e)
    turned false (yes e) = rw (eq-eqb m i e, eq-eqb i m (sym e))
    turned true (no q) = rw (ne_eqb m i q)
    turned false (no q) = rw (ne_eqb m i q, ne_eqb i m (λ e. q (sym e)))

-- no element of a writer's
pub readers_below : (ms : List ℕ) → AllLow ms → readers_word ms < 2 ^ 16
unfolding with
readers_below [] l = omega arith
readers_below (m ∷ ms) l = union_below 16 (readers_below ms l.1) (rw (one_is m (omega (arith, l.0))) (pow-lt l.0))

pub without_low : (n : ℕ) (ms : List ℕ) → AllLow ms → AllLow (without n ms)
without_low n [] l = tt
without_low n (m ∷ ms) l = go (eqb m n) (without_low n ms l.1)
  where
    go : (b : Bool) → AllLow (without n ms) → AllLow (cond b (without n ms) (m ∷ without n ms))
    go true later = later
    go false later = (l.0, later)

and_false : (b : Bool) → (b && false) ≡ false
and_false true = refl
and_false false = refl

among_without : (n i : ℕ) (ms : List ℕ) → (among i ms && not (eqb i n)) ≡ among i (without n ms)
among_without n i [] = refl
among_without n i (m ∷ ms) = go (among_without n i ms) (eqb m n) refl (ℕ_discrete m i)
  where
    go : (among i ms && not (eqb i n)) ≡ among i (without n ms) → (b : Bool) → eqb m n ≡ b → Dec (m ≡ i)
        → ((eqb m i || among i ms) && not (eqb i n)) ≡ among i (cond b (without n ms) (m ∷ without n ms))
    go later true e (yes p) = rw (eq-eqb m i p, eq-eqb i n (sym p ∙ eqb-true m n e)) (sym (and_false (among i ms)) ∙ (rw (eq-eqb i n (sym p ∙ eqb-true m n e)) at later))
    go later true e (no q) = rw (ne_eqb m i q) later
    go later false e (yes p) = rw (eq-eqb m i p, ne_eqb i n (λ q. eqb-false m n e (p ∙ q)))
    go later false e (no q) = rw (ne_eqb m i q) later

-- a reader less
pub without_word : (n : ℕ) (ms : List ℕ) → n < 16 → AllLow ms → minus (readers_word ms) (one n) ≡ readers_word (without n ms)
without_word n ms low l =
    same_elements (minus (readers_word ms) (one n)) (readers_word (without n ms))
    (λ i. has_minus (readers_word ms) (one n) i
    ∙ rw (has_one n i (omega (arith, low)), readers_has ms l i, readers_has (without n ms) (without_low n ms l) i) (among_without n i ms))
