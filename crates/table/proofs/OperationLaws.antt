-- A statement of the table is what its line says. Assumes nothing.
use Rattle.std.specs.Prelude.{◌≡◌, List, ℕ, ◌<◌, ℤ}
use Rattle.std.proofs.Common.{sym, ap, ◌∙◌}
use Rattle.table.specs.Fields.{field}
use Rattle.table.specs.Header.{statements, statement_line}
use Rattle.table.proofs.LookupLaws.{statement_is}
use Rattle.table.specs.Table.{table_of, statement, statement_in, statement_of}
use Rattle.table.specs.View.{view}
use Rattle.table.specs.declared.View.{View}

-- statement s is what its line says
pub statement_in_lem : (f : List ℤ) (s : ℕ) → s < statements f → statement (table_of f) s ≡ statement_in f (statement_line f s) (field f (statement_line f s) 1)
unfolding statement_of
statement_in_lem f s h = statement_is f s h

-- so what its line's view is, the statement's view is
pub view_line : (f : List ℤ) (s : ℕ) {line : ℕ} → line ≡ statement_line f s → {v : View} → v ≡ view (statement_in f line (field f line 1))
    → v ≡ view (statement_of f s)
unfolding statement_of
view_line f s e p = p ∙ ap (λ (k : ℕ). view (statement_in f k (field f k 1))) e

pub view_here : (f : List ℤ) (s : ℕ) {line : ℕ} → s < statements f → line ≡ statement_line f s → {v : View} → v ≡ view (statement_in f line (field f line 1))
    → v ≡ view (statement (table_of f) s)
view_here f s b e p = view_line f s e p ∙ ap view (sym (statement_is f s b))
