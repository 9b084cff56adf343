-- C-12: "let it pass over the statements from the highest number down until a pass changes nothing." The passes, the sets that they come to, how many are
-- made, and the tables for which C-12 says that two settle the sets. Assumes nothing.
use Rattle.std.specs.Prelude.{ℕ, zero, suc, ◌+◌, ◌≤◌, ◌<◌, ◌≡◌, List, length, None}
use Rattle.sets.specs.Least.{Edge, settled}
use Rattle.round_robin.specs.RoundRobin.{pass_down, passes_made}
use Rattle.table.specs.Table.{Table, statement, InRoutine}
use Rattle.table.specs.View.{view}
use Rattle.table.specs.Accepted.{Names}
use Rattle.report.specs.Layout.{Layout}
use Rattle.report.specs.Flow.{flow_edges, flow_initials}

-- what the statement at place p puts into what
abbrev pub edges_of : Table → Layout → ℕ → List Edge
edges_of t k p = flow_edges t k (k.statement_copy p) (k.statement_at p) (statement t (k.statement_at p))

-- n statements, p the lowest: each puts after those above it, and on what these have put
unfoldable pub pass_over : Table → Layout → ℕ → ℕ → List ℕ → List ℕ
pass_over t k p zero s = s
pass_over t k p (suc n) s = pass_down (edges_of t k p) (pass_over t k (p + 1) n s)

-- a "pass over the statements from the highest number down"
unfoldable pub flow_pass : Table → Layout → List ℕ → List ℕ
flow_pass t k s = pass_over t k 0 k.statements s

-- "until a pass changes nothing"
unfoldable pub flow_by_passes : Table → Layout → List ℕ
flow_by_passes t k = settled (flow_pass t k) (flow_initials t k)

-- how many passes that takes, the last, which changes nothing, among them
unfoldable pub flow_passes : Table → Layout → ℕ
flow_passes t k = passes_made (flow_pass t k) (flow_initials t k)

-- "If a table has no POINT and each CALL or START outside routine 0 names a lower routine"
pub record HelpersFirst (t : Table) : Type 0 where
  pub no_point : (s : ℕ) → s < length t.statements → (view (statement t s)).points ≡ None
  pub lower : (r s q : ℕ) → 1 ≤ r → r < length t.routines → InRoutine t r s → Names (statement t s) q → q < r
