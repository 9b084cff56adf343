-- The number that six characters say, and the six characters of a number: a field of a line, both directions.
-- Assumes nothing.
use Rattle.std.specs.Prelude.{ℕ, zero, suc, ◌+◌, ◌*◌, ◌-◌, ◌/◌, ◌%◌, Bool, true, false, List, [], ◌∷◌, ◌++◌, ltb, leb, eqb, ℤ, pos, negsuc, length, take, drop, replicate}
use Rattle.std.specs.Prelude as R
use Rattle.std.proofs.Math.Option.{Option, none, some}

-- the digits 0 to 9 are the characters 48 to 57
abbrev pub is_digit : ℕ → Bool
is_digit c = elim (leb 48 c) [ true ↦ leb c 57 | false ↦ false ]

-- a decimal number: the digits cs that follow those that say m; none where a character is no digit
unfoldable pub digits_from : ℕ → List ℕ → Option ℕ
digits_from m [] = some m
digits_from m (c ∷ cs) = elim (is_digit c) [ true ↦ digits_from (10 * m + (c - 48)) cs | false ↦ none ]

-- nothing stands behind a leading 0
abbrev zero_alone : List ℕ → Option ℕ
zero_alone [] = some 0
zero_alone (c ∷ cs) = none

-- no plus sign, no leading zero: `0` alone, or digits the first of which is not 0
unfoldable pub decimal_of : List ℕ → Option ℕ
decimal_of [] = none
decimal_of (c ∷ cs) = elim (eqb c 48) [ true ↦ zero_alone cs | false ↦ digits_from 0 (c ∷ cs) ]

-- a number with no sign
abbrev pub positive : Option ℕ → Option ℤ
positive none = none
positive (some n) = some (pos n)

-- a number behind a minus sign: no -0 (`negsuc n` is -(n + 1))
abbrev pub negative : Option ℕ → Option ℤ
negative none = none
negative (some zero) = none
negative (some (suc n)) = some (negsuc n)

-- a negative number has its minus sign (character 45) straight before the first digit
unfoldable pub signed_of : List ℕ → Option ℤ
signed_of [] = none
signed_of (c ∷ cs) = elim (eqb c 45) [ true ↦ negative (decimal_of cs) | false ↦ positive (decimal_of (c ∷ cs)) ]

-- spaces (character 32) before it
unfoldable pub spaced_of : List ℕ → Option ℤ
spaced_of [] = none
spaced_of (c ∷ cs) = elim (eqb c 32) [ true ↦ spaced_of cs | false ↦ signed_of (c ∷ cs) ]

-- a field is a decimal number of six characters, right-justified: the number that it says, none where it is no field
unfoldable pub field_of : List ℕ → Option ℤ
field_of cs = elim (eqb (length cs) 6) [ true ↦ spaced_of cs | false ↦ none ]

-- the range of a field: -99,999 to 999,999. Six characters say no other number (`read_field_prints_back`)
abbrev pub in_field : ℤ → Bool
in_field (pos n) = ltb n 1000000
in_field (negsuc n) = ltb n 99999

-- the digits of n, the last `most` of them where n has more
unfoldable pub decimal_text : ℕ → ℕ → List ℕ
decimal_text zero n = []
decimal_text (suc most) n =
    elim (ltb n 10) [ true ↦ (48 + n) ∷ [] | false ↦ decimal_text most (n / 10) ++ (48 + n % 10) ∷ [] ]

-- the digits, and a minus sign straight before the first where the number is negative
unfoldable pub signed_text : ℤ → List ℕ
signed_text (pos n) = decimal_text 6 n
signed_text (negsuc n) = 45 ∷ decimal_text 6 (suc n)

-- right-justified, spaces before it: `width` characters that end in t
abbrev pub justified : ℕ → List ℕ → List ℕ
justified width t = replicate (width - length t) 32 ++ t

-- the six characters of a number in the range
unfoldable pub field_text : ℤ → List ℕ
field_text z = justified 6 (signed_text z)

-- what the definitions find, as the code answers it
module _ {A : Type 0} where
  abbrev pub answer : Option A → R.Option A
  answer none = R.None
  answer (some x) = R.Some x

-- what `read_field` finds at a place: the six characters there, fewer past the end
abbrev pub field_at : List ℕ → ℕ → R.Option ℤ
field_at text at = answer (field_of (take 6 (drop at text)))
