-- Where places begin and the edges of a statement, from a table's numbers: one copy of each routine. Assumes nothing.
use Rattle.std.specs.Prelude.{ℕ, ◌+◌, Bool, true, false, List, ℤ}
use Rattle.sets.specs.Least.{Edge}
use Rattle.table.specs.Header.{handles, routines, statements}
use Rattle.table.specs.Table.{table_of, statement}
use Rattle.report.specs.Layout.{one_each}
use Rattle.lock_edges.specs.declared.Bases.{Bases}
use Rattle.held_edges.specs.HeldEdges.{edges_at}
use Rattle.held_edges.specs.declared.Mode.{Mode}
use Rattle.held_edges.specs.declared.Mode.TheVariants.{Writing, Either}

-- whether only holds for writing count
unfoldable pub writing_alone : Mode → Bool
writing_alone Writing = true
writing_alone Either = false

-- where the places behind the statements begin
abbrev pub bases_of : List ℤ → Bases
bases_of f =
    record {
      back = statements f;
      given = statements f + routines f;
      flow = statements f + routines f + routines f;
      other = statements f + routines f + routines f + handles f;
      every = statements f + routines f + routines f + handles f + handles f;
    }

-- the edges of statement s of a table
abbrev pub part_of : Bool → List ℤ → ℕ → List Edge
part_of mode f s = edges_at (table_of f) (one_each (table_of f)) mode s ((one_each (table_of f)).statement_copy s) s (statement (table_of f) s)
