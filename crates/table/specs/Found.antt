-- What a search for the lowest place at which a test fails finds. Assumes nothing.
use Rattle.std.specs.Prelude.{ℕ, ◌≤◌, ◌<◌, Bool, true, false, cond, ltb, ◌≡◌, Option, Some, None}

-- the place, if it lies below `end`
abbrev pub below : ℕ → ℕ → Option ℕ
below i end = cond (ltb i end) (Some i) None

-- how far a search came
abbrev pub reached : Option ℕ → ℕ → ℕ
reached (Some i) end = i
reached None end = end

-- the first place from `from` on, below `end`, at which a test says no; nothing where it says yes at each. `said k b`: the test may say b at k
pub record FirstFailing (said : ℕ → Bool → Type 0) (from end : ℕ) (r : Option ℕ) : Type 0 where
  pub stopped : (i : ℕ) → r ≡ Some i → (from ≤ i) × (i < end) × said i false
  pub passed : (k : ℕ) → from ≤ k → k < reached r end → said k true
