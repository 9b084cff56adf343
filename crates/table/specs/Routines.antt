-- "Routine lines: 3, statement count (at least 1), six zeros. Statements are dealt out to the routines in order." Assumes nothing.
use Rattle.std.specs.Prelude.{ℕ, zero, suc, ◌+◌, List, Bool, ◌&&◌, eqb, ℤ}
use Rattle.table.specs.Fields.{field, unused}
use Rattle.table.specs.Header.{routines, statements, routine_line, within}

-- how many statements routine r has
abbrev pub count_of : List ℤ → ℕ → ℕ
count_of f r = field f (routine_line f r) 1

-- refusal 7: a routine line's rule, and its count is not above the header's statements
unfoldable pub routine_ok : List ℤ → ℕ → Bool
routine_ok f r = within 1 (statements f) (count_of f r) && unused f (routine_line f r) 2

-- the first statement of routine r: behind those of the routines below it
unfoldable pub first_statement : List ℤ → ℕ → ℕ
first_statement f zero = 0
first_statement f (suc r) = first_statement f r + count_of f r

-- refusal 8: the routines' counts add up to the statements
unfoldable pub sum_ok : List ℤ → Bool
sum_ok f = eqb (first_statement f (routines f)) (statements f)
