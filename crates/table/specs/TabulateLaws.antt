-- What stands where in a list by the numbers of its places. Assumes nothing.
use Rattle.std.specs.Prelude.{◌≡◌, List, length, get_or}
use Prim.Native.Nat.{ℕ, ◌≤◌, ◌<◌}

-- the first r of the n places hold what g says
pub record Filled (g : ℕ → ℕ) (a : List ℕ) (n r : ℕ) : Type 0 where
  pub long : length a ≡ n
  pub holds : (k : ℕ) → k < r → get_or a k 0 ≡ g k

-- the first r of the n places hold what g says, those behind hold 0
pub record Begun (g : ℕ → ℕ) (a : List ℕ) (n r : ℕ) : Type 0 where
  pub filled : Filled g a n r
  pub behind : (k : ℕ) → r ≤ k → get_or a k 0 ≡ 0
