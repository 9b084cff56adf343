-- `table::field_of` meets its contract: past the end of the list there is 0. Assumes nothing.
use mathlib.Core.Path.{◌≡◌, sym, ap}
use mathlib.Core.List.{List}
use Prim.Native.Nat.{ℕ, ◌≤◌, ◌+◌, ◌*◌}
use native.Mathlib.Omega.{arith}
use lib.Dec.{lit<}
use lib.ListN.{length, get_or, get_or-eq_default}
use lib.IntN.{ℤ, pos}
use Rattle.table.specs.Fields.{plain}
use Rattle.table.proofs.field_of.Goals as goal

-- past the end of the list there is 0
past : (f : List ℤ) {k : ℕ} → length f ≤ k → 0 ≡ plain (get_or f k (pos 0))
unfolding plain
past f h = ap plain (sym (get_or-eq_default f (pos 0) h))

pub returns-else-line-count : goal.returns-else-line-count
returns-else-line-count c =
    let a = c.args in
    record { is = past a.numbers.now {k = a.line * 8 + a.j} (omega arith); small = lit< tt }

pub returns-else-j-count : goal.returns-else-j-count
returns-else-j-count c =
    let a = c.args in
    record { is = past a.numbers.now {k = a.line * 8 + a.j} (omega arith); small = lit< tt }
