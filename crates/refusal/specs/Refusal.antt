-- "On refusal it prints one line: 50, number, line, five zeros": its bytes, and what printing it leaves in a lent buffer. Assumes nothing.
use Rattle.std.specs.Prelude.{ℕ, cond, ◌&&◌, List, [], ◌∷◌, ◌++◌, map, leb, ltb, pos, length, drop}
use Rattle.lines.specs.Line.{line_text}

-- "50, number, line, five zeros"
unfoldable pub refusal_line : ℕ → ℕ → List ℕ
refusal_line number line = 50 ∷ number ∷ line ∷ 0 ∷ 0 ∷ 0 ∷ 0 ∷ 0 ∷ []

-- its bytes
unfoldable pub refusal_text : ℕ → ℕ → List ℕ
refusal_text number line = line_text (map pos (refusal_line number line))

-- the bytes that are written into a buffer of so many: line 50, or nothing if the number or the line is no field, or there is no room for a line
unfoldable pub refusal_in : ℕ → ℕ → ℕ → List ℕ
refusal_in number line room = cond (ltb number 1000000 && ltb line 1000000 && leb 49 room) (refusal_text number line) []

-- bytes from the first place on, the places behind them as they were
abbrev pub over : List ℕ → List ℕ → List ℕ
over bytes out = bytes ++ drop (length bytes) out
