-- The lowest place at which a test fails, as a place in every case: what every check of a text looks for. Assumes nothing.
use Rattle.std.specs.Prelude.{ℕ, ◌+◌, Bool}
use Rattle.std.proofs.Math.Option.{Option, none, some}
use Rattle.lines.specs.Lowest.{lowest}

abbrev pub or_else : Option ℕ → ℕ → ℕ
or_else none d = d
or_else (some k) d = k

-- the first place from `from` on, of `n` places, at which the test fails; the place behind the last where it fails nowhere
unfoldable pub until : (ℕ → Bool) → ℕ → ℕ → ℕ
until good from n = or_else (lowest good from n) (from + n)
