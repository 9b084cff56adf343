-- A list by the numbers of its places. Assumes nothing.
use Rattle.std.specs.Prelude.{ℕ, zero, suc, ◌+◌, List, [], ◌∷◌, cond, ltb}

module _ {A : Type 0} where
  -- the values of g at the n numbers from `from` on
  unfoldable pub tabulate_from : ℕ → ℕ → (ℕ → A) → List A
  tabulate_from from zero g = []
  tabulate_from from (suc n) g = g from ∷ tabulate_from (from + 1) n g

  -- the values of g at the n numbers from 0 on
  unfoldable pub tabulate : ℕ → (ℕ → A) → List A
  tabulate n g = tabulate_from 0 n g

-- what g says below m, 0 from m on
unfoldable pub below : ℕ → (ℕ → ℕ) → ℕ → ℕ
below m g k = cond (ltb k m) (g k) 0
