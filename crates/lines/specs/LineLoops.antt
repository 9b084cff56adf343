-- What the loops over fields and lines need of the definitions: pieces one after the other, and what is left to read.
-- Assumes nothing.
use Rattle.std.specs.Prelude.{◌≡◌, ℕ, ◌+◌, ◌*◌, ◌-◌, ◌≤◌, List, [], ◌∷◌, ◌++◌, ℤ, pos, length, take, drop, replicate}
use Rattle.std.proofs.Math.Option.{Option, none, some}
use Rattle.fields.specs.Field.{field_of}
use Rattle.fields.specs.QuickFields.{ZeroField}
use Rattle.lines.specs.Line.{fields_of, line_of, pieces}

-- 0 where there is no field
abbrev pub or_zero : Option ℤ → ℤ
or_zero none = pos 0
or_zero (some z) = z

-- the number of a field, 0 where it is none
abbrev pub field_number : List ℕ → List ℤ
field_number cs = or_zero (field_of cs) ∷ []

-- numbers in front of those that were read
abbrev pub prefixed : List ℤ → Option (List ℤ) → Option (List ℤ)
prefixed zs none = none
prefixed zs (some ws) = some (zs ++ ws)

-- the first j numbers of a line
abbrev pub first_fields : ℕ → List ℕ → List ℤ
first_fields j b = pieces field_number 6 j b

-- of eight numbers the first j are those of the line b, and what is left of b gives the whole
pub record Reading (b : List ℕ) (j : ℕ) (numbers : List ℤ) : Type 0 where
  pub few : j ≤ 8
  pub sized : length numbers ≡ 8
  pub kept : take j numbers ≡ first_fields j b
  pub left : line_of b ≡ prefixed (first_fields j b) (fields_of (8 - j) (drop (6 * j) b))

-- the numbers of a line, but for its last byte, are x, y, z and zeros
pub record Three (b : List ℕ) (x y z : ℤ) : Type 0 where
  pub reading : Reading b 8 (x ∷ y ∷ z ∷ replicate 5 (pos 0))

-- the last five fields of the line at a place say 0
pub record ZeroTail (t : List ℕ) (at : ℕ) : Type 0 where
  pub fourth : ZeroField t (at + 18)
  pub fifth : ZeroField t (at + 24)
  pub sixth : ZeroField t (at + 30)
  pub seventh : ZeroField t (at + 36)
  pub eighth : ZeroField t (at + 42)
