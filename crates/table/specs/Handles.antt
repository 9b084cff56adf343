-- "Handle lines: 2, routine, kind (1 cell, 2 lock), origin (0 parameter, 1 local), the cell or lock a local starts at (0 for a parameter), 0, 0, 0." Assumes nothing.
use Rattle.std.specs.Prelude.{ℕ, zero, suc, ◌+◌, ◌-◌, List, Bool, cond, not, ◌&&◌, ◌||◌, eqb, leb, ltb, ℤ}
use Rattle.table.specs.Fields.{field, unused}
use Rattle.table.specs.Header.{cells, locks, handles, routines, handle_line, within}
use Rattle.table.specs.Until.{until}

abbrev pub routine_of : List ℤ → ℕ → ℕ
routine_of f h = field f (handle_line h) 1

abbrev pub kind_of : List ℤ → ℕ → ℕ
kind_of f h = field f (handle_line h) 2

abbrev pub origin_of : List ℤ → ℕ → ℕ
origin_of f h = field f (handle_line h) 3

abbrev pub start_of : List ℤ → ℕ → ℕ
start_of f h = field f (handle_line h) 4

-- how many things there are of a kind: cells for 1, locks for 2
unfoldable pub things : List ℤ → ℕ → ℕ
things f kind = cond (eqb kind 1) (cells f) (locks f)

-- the fields of one handle line: a routine, a kind, an origin, a start that the origin and the kind allow, and zeros
unfoldable pub handle_fields_ok : List ℤ → ℕ → Bool
handle_fields_ok f h =
    ltb (routine_of f h) (routines f) && within 1 2 (kind_of f h)
    && (eqb (origin_of f h) 0 && eqb (start_of f h) 0 || eqb (origin_of f h) 1 && ltb (start_of f h) (things f (kind_of f h)))
    && unused f (handle_line h) 5

-- the handle k lines above is there and of the same routine
unfoldable pub same_above : List ℤ → ℕ → ℕ → Bool
same_above f h k = leb k h && eqb (routine_of f (h - k)) (routine_of f h)

-- "Routine numbers never fall." So a routine's handles stand together, and its ninth is the one with the same routine eight lines above.
-- "At most eight handles a routine."
unfoldable pub handle_order_ok : List ℤ → ℕ → Bool
handle_order_ok f h = leb (routine_of f (h - 1)) (routine_of f h) && not (same_above f h 8)

-- "Within a routine parameters come first. At most four parameters a routine. Routine 0 has no parameter": a local, or a parameter
-- that is not of routine 0, not behind a local of its routine, and not its routine's fifth handle
unfoldable pub parameter_ok : List ℤ → ℕ → Bool
parameter_ok f h =
    eqb (origin_of f h) 1
    || not (eqb (routine_of f h) 0) && not (same_above f h 1 && eqb (origin_of f (h - 1)) 1) && not (same_above f h 4)

-- refusal 6: a handle line's rule
unfoldable pub handle_ok : List ℤ → ℕ → Bool
handle_ok f h = handle_fields_ok f h && handle_order_ok f h && parameter_ok f h

-- the handles of routine r stand from here on: behind those of the routines below it
unfoldable pub handles_from : List ℤ → ℕ → ℕ
handles_from f zero = 0
handles_from f (suc r) = until (λ h. eqb (routine_of f h) r) (handles_from f r) (handles f - handles_from f r)

-- how many parameters routine r has: its first handles, as far as they are parameters
unfoldable pub parameters : List ℤ → ℕ → ℕ
parameters f r =
    until (λ h. eqb (origin_of f h) 0) (handles_from f r) (handles_from f (r + 1) - handles_from f r) - handles_from f r
