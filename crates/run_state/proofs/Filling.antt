-- The loop that sets a new frame's values. Assumes nothing.
use mathlib.Core.Path.{◌≡◌, refl, sym, ap, ◌∙◌}
use mathlib.Core.List.{List}
use Prim.Native.Nat.{ℕ, ◌+◌, ◌<◌, ◌≤◌}
use native.Mathlib.Omega.{arith}
use native.Mathlib.Decide.{ℕ_discrete}
use mathlib.Core.Bool.{Bool, true, false}
use borrow.Author.Tests.{ltb-true, ltb-false}
use lib.Dec.{ltb}
use lib.ListN.{length, get_or, set, length-set}
use lib.Seq.{get_or-set_same, get_or-set_other}
use Rattle.table.specs.Table.{Table}
use Rattle.table.specs.declared.Arguments.{Arguments}
use Rattle.run_state.specs.Shown.{value_place, entry_value, start_value, Entered}

-- ---- the handles from `from` to h are set

pub record Setting (t : Table) (values new : List ℕ) (slot caller from end h : ℕ) (arguments : Arguments) : Type 0 where
  pub low : from ≤ h
  pub size : length values ≡ 4096
  pub entered : Entered t values new slot caller from h arguments

-- the caller's values are not those that are set
pub caller_kept : (t : Table) (values new : List ℕ) (slot caller from end h : ℕ) (arguments : Arguments) (g : ℕ)
    → Setting t values new slot caller from end h arguments → (caller ≡ slot → ⊥) → get_or new (value_place caller g) 0 ≡ get_or values (value_place caller g) 0
caller_kept t values new slot caller from end h arguments g s apart = go (ltb caller slot) refl
  where
    go : (b : Bool) → ltb caller slot ≡ b → get_or new (value_place caller g) 0 ≡ get_or values (value_place caller g) 0
    go true e = s.entered.kept_below (value_place caller g) (omega (arith, ltb-true caller slot e))
    go false e = s.entered.kept_above (value_place caller g) (omega (arith, ltb-false caller slot e, apart))

pub setting_next : (t : Table) (values new : List ℕ) (slot caller from end h v : ℕ) (arguments : Arguments) → Setting t values new slot caller from end h arguments
    → end ≤ from + 8 → slot < 512 → h < end → v ≡ start_value t values caller from arguments h
    → Setting t values (set new (value_place slot h) v) slot caller from end (h + 1) arguments
setting_next t values new slot caller from end h v arguments s few low l e =
    record {
      low = omega (arith, s.low);
      size = s.size;
      entered =
          record {
            long = length-set new (value_place slot h) v ∙ s.entered.long;
            set_here = λ k a b. at k a b (ℕ_discrete k h);
            kept_below = λ i b. get_or-set_other new (value_place slot h) i v 0 (λ q. omega arith) ∙ s.entered.kept_below i b;
            kept_above = λ i b. get_or-set_other new (value_place slot h) i v 0 (λ q. omega arith) ∙ s.entered.kept_above i b;
          };
    }
  where
    at : (k : ℕ) → from ≤ k → k < h + 1 → Dec (k ≡ h) → get_or (set new (value_place slot h) v) (value_place slot k) 0 ≡ start_value t values caller from arguments k
    at k a b (yes p) =
        let inside : value_place slot h < length new = omega (arith, s.entered.long, s.size) in
        ap (λ (i : ℕ). get_or (set new (value_place slot h) v) (value_place slot i) 0) p ∙ get_or-set_same new (value_place slot h) v 0 inside ∙ e
        ∙ ap (λ (i : ℕ). start_value t values caller from arguments i) (sym p)
    at k a b (no q) =
        get_or-set_other new (value_place slot h) (value_place slot k) v 0 (λ same. omega (arith, q, same)) ∙ s.entered.set_here k a (omega (arith, q))

-- what `entry_value` gives in a turn is what the values at entry give
pub value_kept : (t : Table) (values new : List ℕ) (slot caller from end h : ℕ) (arguments : Arguments) (g : ℕ) → Setting t values new slot caller from end h arguments
    → (caller ≡ slot → ⊥) → entry_value t new caller g h ≡ entry_value t values caller g h
unfolding entry_value
value_kept t values new slot caller from end h arguments g s apart = rw (caller_kept t values new slot caller from end h arguments g s apart)
