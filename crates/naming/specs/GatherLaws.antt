-- A loop that gathers sets, a set at a time. Assumes nothing.
use Rattle.std.specs.Prelude.{◌≡◌, refl, ℕ, zero, suc, ◌+◌, ◌-◌, ◌≤◌, ◌<◌, Bool, true, false, List, ltb, ℤ, get_or, length}
use Rattle.std.proofs.Common.{sym, ap, ◌∙◌, arith, le_refl, ltb-true, ltb-false, le-ltb}
use Rattle.std.specs.Int.Bits.{bit_or, or_zero_r}
use Rattle.std.proofs.Math.ListN.{get_or-eq_default}
use Rattle.sets.specs.Set.{union}
use Rattle.table.specs.Header.{routines}
use Rattle.table.specs.Naming.{gather, names_of, names_in}
use Rattle.table.proofs.TabulateLaws.{entry_tabulate, length_tabulate}

-- the loop's invariant: what is gathered and what is left give the whole
pub record Gathering (g : ℕ → ℕ) (end from acc i : ℕ) : Type 0 where
  pub whole : gather g acc i (end - i) ≡ gather g 0 from (end - from)

pub gathering_start : (g : ℕ → ℕ) (end from : ℕ) → Gathering g end from 0 from
gathering_start g end from = record { whole = refl }

left : (end i : ℕ) → i < end → end - i ≡ suc (end - (i + 1))
left end i h = omega arith

pub gathering_next : (g : ℕ → ℕ) (end from acc i : ℕ) → Gathering g end from acc i → i < end → Gathering g end from (union acc (g i)) (i + 1)
unfolding gather
gathering_next g end from acc i s h = record { whole = sym (ap (gather g acc i) (left end i h)) ∙ s.whole }

none_left : (end i : ℕ) → end ≤ i → end - i ≡ 0
none_left end i h = omega arith

pub gathering_done : (g : ℕ → ℕ) (end from acc i : ℕ) → Gathering g end from acc i → end ≤ i → acc ≡ gather g 0 from (end - from)
unfolding gather
gathering_done g end from acc i s h = sym (ap (gather g acc i) (none_left end i h)) ∙ s.whole

-- ---- the sets of names end with the routines

rest_empty : (g : ℕ → ℕ) (acc i n : ℕ) → ((k : ℕ) → i ≤ k → g k ≡ 0) → gather g acc i n ≡ acc
unfolding gather union
rest_empty g acc i zero z = refl
rest_empty g acc i (suc n) z =
    ap (λ (x : ℕ). gather g x (i + 1) n) (ap (bit_or acc) (z i (le_refl i)) ∙ or_zero_r acc) ∙ rest_empty g acc (i + 1) n (λ k h. z k (omega arith))

pub gathering_rest : (g : ℕ → ℕ) (end from acc i : ℕ) → Gathering g end from acc i → ((k : ℕ) → i ≤ k → g k ≡ 0) → acc ≡ gather g 0 from (end - from)
gathering_rest g end from acc i s z = sym (rest_empty g acc i (end - i) z) ∙ s.whole

-- the sets of `count` routines, 32 at most; behind them nothing is named
pub record Ended (names : List ℕ) (count : ℕ) : Type 0 where
  pub few : count ≤ 32
  pub behind : (k : ℕ) → count ≤ k → get_or names k 0 ≡ 0

pub none_named : (f : List ℤ) (k : ℕ) → routines f ≤ k → names_of f k ≡ 0
unfolding names_of
none_named f k h = rw (le-ltb k (routines f) h)

pub names_ended : (f : List ℤ) (names : List ℕ) → routines f ≤ 32 → names ≡ names_in f → Ended names (routines f)
unfolding names_in
names_ended f names l e = record { few = l; behind = λ k h. at k h (ltb k 32) refl }
  where
    at : (k : ℕ) → routines f ≤ k → (t : Bool) → ltb k 32 ≡ t → get_or names k 0 ≡ 0
    at k h true t = entry_tabulate 32 (names_of f) names k e (ltb-true k 32 t) ∙ none_named f k h
    at k h false t =
        let long : length names ≡ 32 = ap length e ∙ length_tabulate 32 (names_of f) in
        get_or-eq_default names 0 {n = k} (omega (arith, ltb-false k 32 t))
