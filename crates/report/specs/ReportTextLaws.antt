-- The lines of the report have a table line's form: eight numbers each, all in the range of a field; so many bytes. Assumes nothing.
use Rattle.std.specs.Prelude.{ℕ, ◌≡◌, true, pos}
use mathlib.Core.List.{List, map}
use Rattle.std.proofs.Math.ListN.{length}
use Rattle.lines.specs.Line.{all_in_field}

-- a line of eight numbers below 1,000,000
pub record Line8 (l : List ℕ) : Type 0 where
  pub long : length l ≡ 8
  pub range : all_in_field (map pos l) ≡ true
