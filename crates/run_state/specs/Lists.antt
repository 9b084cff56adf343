-- A run's state with all cleared, and the table's locks and cells among those of one. Assumes nothing.
use Rattle.std.specs.Prelude.{ℕ, cond, List, ltb, ℤ, pos, take, set, replicate}
use Rattle.run_state.specs.declared.State as Run

-- no thread, all cleared
abbrev pub cleared : Run.State
cleared =
    record {
      started = 0;
      nexts = replicate 512 0;
      values = replicate 4096 0;
      counts = replicate 16 0;
      accumulators = replicate 16 (pos 0);
      locks = replicate 16 0;
      cells = replicate 64 (pos 0);
    }

-- a store to place i of a list's first n, which changes nothing past them
unfoldable pub put : {A : Type 0} → ℕ → List A → ℕ → A → List A
put n l i x = cond (ltb i n) (set l i x) l

abbrev pub locks_in : ℕ → Run.State → List ℕ
locks_in locks s = take locks s.locks

abbrev pub put_lock : ℕ → Run.State → ℕ → ℕ → Run.State
put_lock locks s k word = record s { locks = put locks s.locks k word }

abbrev pub cells_in : ℕ → Run.State → List ℤ
cells_in cells s = take cells s.cells

abbrev pub put_cell : ℕ → Run.State → ℕ → ℤ → Run.State
put_cell cells s x v = record s { cells = put cells s.cells x v }
