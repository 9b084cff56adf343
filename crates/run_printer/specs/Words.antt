-- Numbers, answers and cells as words, and how a text is put at the end of a lent buffer: from its last byte to its first. Assumes nothing.
use Rattle.std.specs.Prelude.{ℕ, zero, suc, ◌+◌, List, [], ◌∷◌, ◌++◌, ℤ, pos, negsuc, set}
use Rattle.fields.specs.Field.{decimal_text}

-- a buffer, and the place at which the text in it begins
pub record Ending : Type 0 where
  pub bytes : List ℕ
  pub start : ℕ

abbrev pub ending : List ℕ → ℕ → Ending
ending bytes start = record { bytes = bytes; start = start }

-- one byte more, straight before the text; it is lost where the text begins at the buffer's first place, or past its end
unfoldable pub put_at : ℕ → List ℕ → ℕ → Ending
put_at b bytes zero = ending bytes 0
put_at b bytes (suc s) = ending (set bytes s b) s

unfoldable pub put : ℕ → Ending → Ending
put b e = put_at b e.bytes e.start

-- all bytes of a text, the last one first
unfoldable pub puts : List ℕ → Ending → Ending
puts [] e = e
puts (b ∷ bs) e = put b (puts bs e)

-- the texts of the elements of a list, behind each other; `i` is the number of the first
module _ {A : Type 0} where
  unfoldable pub texts_from : (ℕ → A → List ℕ) → ℕ → List A → List ℕ
  texts_from f i [] = []
  texts_from f i (x ∷ xs) = f i x ++ texts_from f (i + 1) xs

-- a space, a minus sign (character 45) if the number is below 0, and the digits
unfoldable pub word_text : ℤ → List ℕ
word_text (pos n) = 32 ∷ decimal_text 20 n
word_text (negsuc n) = 32 ∷ 45 ∷ decimal_text 20 (suc n)

-- the answers to steps, and the values of cells, as words
unfoldable pub answers_text : List ℕ → List ℕ
answers_text answers = texts_from (λ i a. word_text (pos a)) 0 answers

unfoldable pub values_text : List ℤ → List ℕ
values_text cells = texts_from (λ i v. word_text v) 0 cells

-- `cell K V` and a line feed
unfoldable pub cell_text : ℕ → ℤ → List ℕ
cell_text k v = 99 ∷ 101 ∷ 108 ∷ 108 ∷ 32 ∷ (decimal_text 20 k ++ (word_text v ++ 10 ∷ []))

-- a line for each cell, from cell 0 on
unfoldable pub cells_text : List ℤ → List ℕ
cells_text cells = texts_from cell_text 0 cells
