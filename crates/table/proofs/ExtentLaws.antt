-- Where the routines' statements and handles stand, a routine further on; and the entries of the lists that note it down. Assumes nothing.
use Rattle.std.specs.Prelude.{◌≡◌, List, ℕ, zero, suc, ◌+◌, ◌-◌, ◌≤◌, ◌<◌, get_or, eqb, ℤ}
use Rattle.std.proofs.Common.{zero-le, arith, add-one}
use Rattle.table.specs.Until.{until}
use Rattle.table.specs.Header.{handles, routines}
use Rattle.table.specs.Handles.{routine_of, handles_from, parameters}
use Rattle.table.specs.Routines.{count_of, first_statement}
use Rattle.table.specs.Extents.{first_statements, first_handles, parameter_counts}
use Rattle.table.proofs.UntilLaws.{until_range}
use Rattle.table.proofs.TabulateLaws.{entry_below}

pub first_next : (f : List ℤ) (r : ℕ) → first_statement f (r + 1) ≡ first_statement f r + count_of f r
unfolding first_statement
first_next f r = rw (add-one r)

pub handles_next : (f : List ℤ) (r : ℕ) → handles_from f (r + 1) ≡ until (λ h. eqb (routine_of f h) r) (handles_from f r) (handles f - handles_from f r)
unfolding handles_from
handles_next f r = rw add-one

-- no routine's handles begin behind the last handle
pub handles_from_most : (f : List ℤ) (r : ℕ) → handles_from f r ≤ handles f
unfolding handles_from
handles_from_most f zero = zero-le
handles_from_most f (suc r) =
    let below = handles_from_most f r in
    let range = (until_range (λ h. eqb (routine_of f h) r) (handles_from f r) (handles f - handles_from f r)).1 in
    omega arith

-- ---- the entries of the lists, at routines

module _ (f : List ℤ) (few : routines f ≤ 32) (l : List ℕ) (r : ℕ) where
  pub first_at : l ≡ first_statements f → r ≤ routines f → get_or l r 0 ≡ first_statement f r
  first_at e h = entry_below 33 (routines f + 1) (first_statement f) l r e (omega arith) (omega arith)

  pub handle_at_lem : l ≡ first_handles f → r ≤ routines f → get_or l r 0 ≡ handles_from f r
  handle_at_lem e h = entry_below 33 (routines f + 1) (handles_from f) l r e (omega arith) (omega arith)

  pub count_at : l ≡ parameter_counts f → r < routines f → get_or l r 0 ≡ parameters f r
  count_at e h = entry_below 32 (routines f) (parameters f) l r e (omega arith) h
