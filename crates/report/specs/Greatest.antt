-- The greatest sets under rules that bound them: each way in bounds the set that it leads to by what it brings, where ways meet they intersect.
-- Computed from what is left out, which only grows. Assumes nothing.
use Rattle.std.specs.Prelude.{ℕ, List, [], ◌∷◌, get_or, replicate}
use Rattle.sets.specs.Set.{minus}
use Rattle.sets.specs.Least.{put_into, settled}
use Rattle.table.specs.Tabulate.{tabulate}

-- a way into a place, and the set that it brings, out of the sets at all places
pub record Way : Type 0 where
  pub to : ℕ
  pub brings : (ℕ → ℕ) → ℕ

-- the sets that are left when each place leaves out some
unfoldable pub leaving : ℕ → List ℕ → ℕ → ℕ
leaving all out p = minus all (get_or out p 0)

-- what a way does not bring is left out where it leads to
unfoldable pub narrow : ℕ → Way → List ℕ → List ℕ
unfolding leaving
narrow all w out = put_into w.to (minus all (w.brings (leaving all out))) out

-- every way once, from the first to the last
unfoldable pub narrow_all : ℕ → List Way → List ℕ → List ℕ
narrow_all all [] out = out
narrow_all all (w ∷ ws) out = narrow_all all ws (narrow all w out)

-- what is left out of the greatest sets at n places
unfoldable pub left_out : ℕ → ℕ → List Way → List ℕ
left_out all n ws = settled (narrow_all all ws) (replicate n 0)

-- the greatest sets inside `all` at n places, under the ways
unfoldable pub greatest : ℕ → ℕ → List Way → List ℕ
greatest all n ws = let out = left_out all n ws in tabulate n (leaving all out)
