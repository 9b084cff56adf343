-- The two modes of a hold, from the numbers of a table. Assumes nothing.
use Rattle.std.specs.Prelude.{ℕ, Bool, not, List, ℤ, get_or}
use Rattle.table.specs.Header.{statements}
use Rattle.table.specs.Table.{statement_of}
use Rattle.table.specs.Tabulate.{tabulate}
use Rattle.table.specs.View.{view, on_or, takes_to_read}

-- statement s takes no lock, or takes it for writing
unfoldable pub takes_to_write_alone : List ℤ → ℕ → Bool
takes_to_write_alone f s = not (takes_to_read (view (statement_of f s)))

-- at a WRITE what is held for writing, at any other statement what is held in either way
unfoldable pub held_by : List ℤ → List ℕ → List ℕ → List ℕ
held_by f to_write in_either_way = tabulate (statements f) (λ s. on_or (view (statement_of f s)).writes (λ h. get_or to_write s 0) (get_or in_either_way s 0))
