-- A line, 49 bytes that are eight fields and a line feed, and a page, the lines of a text: both directions.
-- Assumes nothing.
use Rattle.std.specs.Prelude.{ℕ, zero, suc, ◌*◌, ◌-◌, ◌/◌, min, Bool, true, false, List, [], ◌∷◌, ◌++◌, eqb, ℤ, pos, length, take, drop, replicate}
use Rattle.std.specs.Prelude as R
use Rattle.std.proofs.Math.Option.{Option, none, some}
use Rattle.fields.specs.Field.{field_of, field_text, in_field}
use Rattle.lines.specs.Lowest.{lowest}

-- a line feed (character 10) and nothing after it
abbrev pub end_of : List ℕ → Option (List ℤ)
end_of [] = none
end_of (c ∷ []) = elim (eqb c 10) [ true ↦ some [] | false ↦ none ]
end_of (c ∷ d ∷ cs) = none

-- a first number and the others, where both are there
abbrev pub joined : Option ℤ → Option (List ℤ) → Option (List ℤ)
joined none zs = none
joined (some z) none = none
joined (some z) (some zs) = some (z ∷ zs)

-- that many fields of six characters and a line feed: the numbers that they say, none where they do not have that form
unfoldable pub fields_of : ℕ → List ℕ → Option (List ℤ)
fields_of zero bs = end_of bs
fields_of (suc k) bs = joined (field_of (take 6 bs)) (fields_of k (drop 6 bs))

-- a line is eight fields of six characters and a line feed
abbrev pub line_of : List ℕ → Option (List ℤ)
line_of bs = fields_of 8 bs

-- every number is in the range of a field
unfoldable pub all_in_field : List ℤ → Bool
all_in_field [] = true
all_in_field (z ∷ zs) = elim (in_field z) [ true ↦ all_in_field zs | false ↦ false ]

-- the numbers as they are printed, and a line feed
unfoldable pub line_text : List ℤ → List ℕ
line_text [] = 10 ∷ []
line_text (z ∷ zs) = field_text z ++ line_text zs

-- a line is 49 bytes: line i of a text, counted from 0, whatever line feeds stand inside
abbrev pub line_at : List ℕ → ℕ → List ℕ
line_at text i = take 49 (drop (49 * i) text)

-- whether bytes are a line, by what was read of them
abbrev pub is_some : Option (List ℤ) → Bool
is_some none = false
is_some (some zs) = true

-- eight zeros where there is no line
abbrev pub or_zeros : Option (List ℤ) → List ℤ
or_zeros none = replicate 8 (pos 0)
or_zeros (some zs) = zs

-- line i is eight good fields and a line feed
abbrev pub good_line : List ℕ → ℕ → Bool
good_line text i = is_some (line_of (line_at text i))

-- the lines of a text: whole ones, 673 at most
abbrev pub line_count : List ℕ → ℕ
line_count text = min 673 (length text / 49)

-- the lowest line that is not eight good fields and a line feed, if there is one
abbrev pub first_bad : List ℕ → Option ℕ
first_bad text = lowest (good_line text) 0 (line_count text)

-- the eight numbers of a line, zeros where it is none
abbrev pub line_numbers : List ℕ → List ℤ
line_numbers bs = or_zeros (line_of bs)

-- what f gives of each of n pieces of w bytes, one after the other
unfoldable pub pieces : (List ℕ → List ℤ) → ℕ → ℕ → List ℕ → List ℤ
pieces f w zero text = []
pieces f w (suc n) text = f (take w text) ++ pieces f w n (drop w text)

-- the numbers of a text: those of its lines, eight a line
abbrev pub numbers_of : List ℕ → List ℤ
numbers_of text = pieces line_numbers 49 (line_count text) text

-- the numbers of a page: 673 lines, the most that a text has, zeros behind those that it has
abbrev pub padded : List ℤ → List ℤ
padded zs = zs ++ replicate (5384 - length zs) (pos 0)

-- the answer of `read_page`: the first bad line, or the numbers
abbrev pub page_answer : Option ℕ → List ℤ → R.Result (List ℤ) ℕ
page_answer none zs = R.Ok (padded zs)
page_answer (some i) zs = R.Err i

-- what `read_page` finds in a text
abbrev pub page_of : List ℕ → R.Result (List ℤ) ℕ
page_of text = page_answer (first_bad text) (numbers_of text)
