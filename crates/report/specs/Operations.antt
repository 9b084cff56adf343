-- What a statement is to the rules of the report, by its view. Assumes nothing.
use Rattle.std.specs.Prelude.{ℕ, ◌+◌, Bool, true, false, List, [], ◌∷◌, ◌++◌}
use Rattle.table.specs.View.{view, set_on, list_on, when, accesses}
use Rattle.table.specs.declared.Statement.{Statement}

-- the statements that may come after statement s: "JUMPZ may go both ways and CALL goes on to the next statement, whatever the values"
unfoldable pub nexts : ℕ → Statement → List ℕ
nexts s σ = list_on (view σ).target (λ n. n ∷ []) ++ when (view σ).onward ((s + 1) ∷ [])

-- reads (false) and writes (true)
abbrev pub reading : Bool
reading = false

abbrev pub writing : Bool
writing = true

-- the cells that a statement itself reads or writes, by the flow sets of its handles
unfoldable pub accessed : Bool → (ℕ → ℕ) → Statement → ℕ
accessed w flow σ = set_on (accesses w (view σ)) flow

-- the locks that a GIVE has in its flow set
unfoldable pub given : (ℕ → ℕ) → Statement → ℕ
given flow σ = set_on (view σ).gives flow
