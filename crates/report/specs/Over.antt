-- Lists, sets and counts over a range of numbers. Assumes nothing.
use Rattle.std.specs.Prelude.{ℕ, zero, suc, ◌+◌, Bool, cond, List, [], ◌∷◌, ◌++◌}
use Rattle.sets.specs.Set.{union, inter}

-- the lists of n numbers, `from` the first, one behind the other
module _ {A : Type 0} where
  unfoldable pub joined_from : ℕ → ℕ → (ℕ → List A) → List A
  joined_from from zero f = []
  joined_from from (suc n) f = f from ++ joined_from (from + 1) n f

-- the union of the sets of n numbers, `from` the first
unfoldable pub union_from : ℕ → ℕ → (ℕ → ℕ) → ℕ
union_from from zero f = 0
union_from from (suc n) f = union (f from) (union_from (from + 1) n f)

-- the intersection of the sets of n numbers, `from` the first; `all` if there are none
unfoldable pub inter_from : ℕ → ℕ → ℕ → (ℕ → ℕ) → ℕ
inter_from all from zero f = all
inter_from all from (suc n) f = inter (f from) (inter_from all (from + 1) n f)

-- of n numbers, `from` the first, how many pass the test
unfoldable pub count_from : ℕ → ℕ → (ℕ → Bool) → ℕ
count_from from zero test = 0
count_from from (suc n) test = cond (test from) 1 0 + count_from (from + 1) n test

-- the union of the sets at the places of a list
unfoldable pub union_at : List ℕ → (ℕ → ℕ) → ℕ
union_at [] f = 0
union_at (p ∷ ps) f = union (f p) (union_at ps f)
