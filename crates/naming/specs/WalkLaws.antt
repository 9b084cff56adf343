-- One call of the walk down the named routines. Assumes nothing.
use Rattle.std.specs.Prelude.{Some, None, ◌≡◌, refl, List, ℕ, zero, suc, ◌-◌, ◌≤◌, get_or}
use Rattle.std.proofs.Common.{not-suc-le-zero, arith}
use Rattle.sets.specs.Set.{union, minus, with, lowest}
use Rattle.table.specs.Naming.{walk}

-- with no routine left the walk ends
pub walk_spent : (names : List ℕ) (worklist seen left : ℕ) → left ≡ 0 → seen ≡ walk names worklist seen left
unfolding walk
walk_spent names worklist seen left e = rw e

-- with nothing to do the walk ends
pub walk_nothing : (names : List ℕ) (worklist seen left : ℕ) → lowest worklist ≡ None → seen ≡ walk names worklist seen left
unfolding walk
walk_nothing names worklist seen zero e = refl
walk_nothing names worklist seen (suc left) e = rw e

-- else it goes on with what the lowest names
pub walk_element : (names : List ℕ) (worklist seen left i : ℕ) → 1 ≤ left → lowest worklist ≡ Some i
    → walk names (minus (union worklist (get_or names i 0)) (with seen i)) (with seen i) (left - 1) ≡ walk names worklist seen left
unfolding walk
walk_element names worklist seen zero i h e = absurd (not-suc-le-zero h)
walk_element names worklist seen (suc left) i h e =
    let one_less : suc left - 1 ≡ left = omega arith in rw (one_less, e)
