-- What a loop that looks for the lowest failing place needs of `until`, and what `until` says of the places it passes. Assumes nothing.
use Rattle.std.specs.Prelude.{◌≡◌, refl, Bool, true, false, cond, ℕ, zero, suc, ◌+◌, ◌-◌, ◌≤◌, ◌<◌}
use Rattle.std.proofs.Common.{sym, ap, ◌∙◌, arith, le_refl, add-zero, add-one}
use Rattle.std.proofs.Math.Nat.{sub-zero}
use Rattle.lines.specs.Lowest.{lowest}
use Rattle.lines.proofs.LowestLaws.{lowest_empty, lowest_good, lowest_bad}
use Rattle.table.specs.Until.{until, or_else}

-- one step: the test at `from` decides
pub until_step : (good : ℕ → Bool) (from n : ℕ) → until good from (suc n) ≡ cond (good from) (until good (from + 1) n) from
unfolding until
until_step good from n = go (good from) refl
  where
    past : from + suc n ≡ from + 1 + n
    past = omega arith

    go : (b : Bool) → good from ≡ b → or_else (lowest good from (suc n)) (from + suc n) ≡ cond (good from) (or_else (lowest good (from + 1) n) (from + 1 + n)) from
    go true e = rw (e, lowest_good good from n e, ← add-one from, past)
    go false e = rw (e, lowest_bad good from n e)

pub until_none : (good : ℕ → Bool) (from : ℕ) → until good from 0 ≡ from
unfolding until
until_none good from = rw (lowest_empty good from, add-zero)

-- of the places below `end`, what is left from i on
abbrev pub rest : (ℕ → Bool) → ℕ → ℕ → ℕ
rest good end i = until good i (end - i)

left : (end i : ℕ) → i < end → end - i ≡ suc (end - (i + 1))
left end i h = omega arith

pub until_next : (good : ℕ → Bool) (end i : ℕ) → i < end → good i ≡ true → rest good end i ≡ rest good end (i + 1)
until_next good end i h e = rw (left end i h, until_step, e)

pub until_stop : (good : ℕ → Bool) (end i : ℕ) → i < end → good i ≡ false → rest good end i ≡ i
until_stop good end i h e = rw (left end i h, until_step, e)

none_left : (end i : ℕ) → end ≤ i → end - i ≡ 0
none_left end i h = omega arith

pub until_done : (good : ℕ → Bool) (end i : ℕ) → end ≤ i → rest good end i ≡ i
until_done good end i h = rw (none_left end i h) (until_none good i)

-- a loop's invariant: the place is not past the end, and what is left gives the whole
pub record Looking (good : ℕ → Bool) (end from i : ℕ) : Type 0 where
  pub passed : from ≤ i
  pub whole : rest good end i ≡ rest good end from

pub looking_start : (good : ℕ → Bool) (end from : ℕ) → Looking good end from from
looking_start good end from = record { passed = le_refl from; whole = refl }

pub looking_next : (good : ℕ → Bool) (end from i : ℕ) → Looking good end from i → i < end → good i ≡ true → Looking good end from (i + 1)
looking_next good end from i l h e =
    record { passed = omega (arith, l.passed); whole = sym (until_next good end i h e) ∙ l.whole }

pub looking_stop : (good : ℕ → Bool) (end from i : ℕ) → Looking good end from i → i < end → good i ≡ false → i ≡ rest good end from
looking_stop good end from i l h e = sym (until_stop good end i h e) ∙ l.whole

pub looking_done : (good : ℕ → Bool) (end from i : ℕ) → Looking good end from i → end ≤ i → i ≡ rest good end from
looking_done good end from i l h = sym (until_done good end i h) ∙ l.whole

-- the place found: at or behind the first, at most one behind the last
pub until_range : (good : ℕ → Bool) (from n : ℕ) → (from ≤ until good from n) × (until good from n ≤ from + n)
until_range good from zero = rw until_none (le_refl from, omega arith)
until_range good from (suc n) = rw until_step (go (good from) (until_range good (from + 1) n))
  where
    go : (b : Bool) → (from + 1 ≤ until good (from + 1) n) × (until good (from + 1) n ≤ from + 1 + n)
        → (from ≤ cond b (until good (from + 1) n) from) × (cond b (until good (from + 1) n) from ≤ from + suc n)
    go true (a, b) = (omega arith, omega arith)
    go false (a, b) = (le_refl from, omega arith)

-- the same for a loop that begins at 0
pub stop_from_zero : (good : ℕ → Bool) (end i : ℕ) → Looking good end 0 i → i < end → good i ≡ false → i ≡ until good 0 end
stop_from_zero good end i l h e = looking_stop good end 0 i l h e ∙ ap (until good 0) (sub-zero end)

pub done_from_zero : (good : ℕ → Bool) (end i : ℕ) → Looking good end 0 i → end ≤ i → i ≡ until good 0 end
done_from_zero good end i l h = looking_done good end 0 i l h ∙ ap (until good 0) (sub-zero end)
