-- The numbers of a text's lines, eight a line, in one list, and the numbers that a rule compares with limits. Assumes nothing.
use Rattle.std.specs.Prelude.{ℕ, ◌+◌, ◌-◌, ◌*◌, List, Bool, get_or, eqb, leb, ℤ, pos, negsuc}
use Rattle.table.specs.Until.{until}

-- the number in field j of a line, both counted from 0
abbrev pub number : List ℤ → ℕ → ℕ → ℤ
number f line j = get_or f (line * 8 + j) (pos 0)

-- a number as the rules compare it: itself, or for a negative one 1,000,000, which no field holds and no rule admits
unfoldable pub plain : ℤ → ℕ
plain (pos n) = n
plain (negsuc n) = 1000000

-- field j of a line as the rules compare it
abbrev pub field : List ℤ → ℕ → ℕ → ℕ
field f line j = plain (number f line j)

-- field j of a line is 0
abbrev pub is_zero : List ℤ → ℕ → ℕ → Bool
is_zero f line j = eqb (field f line j) 0

-- "Unused fields hold 0": from field j on, none of the eight is other than 0
unfoldable pub unused : List ℤ → ℕ → ℕ → Bool
unused f line j = leb 8 (until (is_zero f line) j (8 - j))
