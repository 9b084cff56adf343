-- C-13's two equations over the table's own numbers: which routines reach a START, and which statements a START can precede. With one copy of each routine
-- these are the edges of the report's definitions, as the code goes through them. Assumes nothing.
use Rattle.std.specs.Prelude.{ℕ, ◌+◌, ◌≡◌, refl, ℤ, length, Option, Some, None}
use Rattle.std.proofs.Math.Path.{ap, sym}
use Rattle.std.proofs.Common.{◌∙◌}
use mathlib.Core.List.{List, [], ◌∷◌, ◌++◌, map}
use Rattle.sets.specs.Least.{Edge}
use Rattle.table.specs.Header.{statements}
use Rattle.table.specs.Table.{Table, table_of, statement}
use Rattle.table.proofs.LookupLaws.{statements_length}
use Rattle.edges.specs.declared.list.EdgeList.{EdgeList}
use Rattle.edges.specs.Grown.{Grown, grown_same}
use Rattle.table.specs.View.{view, list_on, calls, starts}
use Rattle.report.specs.Over.{joined_from}
use Rattle.report.proofs.OverLaws.{within_below}
use Rattle.report.specs.Layout.{named, owner_of, one_each}
use Rattle.report.specs.Operations.{nexts}
use Rattle.report.specs.Preceded.{reach_edges, entered, preceding_edges}
use Rattle.edges.specs.Equations.{edge, call_edges}
use Rattle.edges.specs.EdgeLaws.{joined_same}
use Rattle.edges.specs.RoutineLaws.{copy_of}
use Rattle.start_edges.specs.StartEdges.{entering_edges, following_edges, last_of, origin_of, preceding_at, preceding_for, reach_at, reach_for}

-- ---- those of all statements

pub all_reach : (f : List ℤ) {a b : EdgeList} → Grown a b (joined_from 0 (statements f) (reach_at (table_of f))) → Grown a b (reach_for (table_of f))
unfolding reach_for
all_reach f g = grown_same (ap {B = List Edge} (λ (n : ℕ). joined_from 0 n (reach_at (table_of f))) (sym (statements_length f))) g

pub all_preceding : (f : List ℤ) (reach : List ℕ) {a b : EdgeList} → Grown a b (joined_from 0 (statements f) (preceding_at (table_of f) reach))
    → Grown a b (preceding_for (table_of f) reach)
unfolding preceding_for
all_preceding f reach g = grown_same (ap {B = List Edge} (λ (n : ℕ). joined_from 0 n (preceding_at (table_of f) reach)) (sym (statements_length f))) g

-- ---- they are the report's

-- two edges of what is referred to
pub both_on : (r : Option ℕ) (a b : Edge) → (list_on r (λ q. a ∷ []) ++ list_on r (λ q. b ∷ [])) ≡ list_on r (λ q. a ∷ b ∷ [])
both_on (Some n) a b = refl
both_on None a b = refl

module _ (t : Table) where
  pub reach_edges_lem : reach_for t ≡ joined_from 0 (one_each t).statements (λ p. reach_edges (one_each t) ((one_each t).statement_copy p) ((one_each t).statement_at p) (statement t ((one_each t).statement_at p)))
  unfolding reach_for reach_at one_each
  reach_edges_lem =
      joined_same 0 (length t.statements) _ _
      (λ s w. ap {B = List Edge} (λ (c : ℕ). reach_edges (one_each t) c s (statement t s)) (copy_of t s (within_below w)))

  preceding_at_lem : (reach : List ℕ) (s : ℕ) → preceding_at t reach s ≡ preceding_edges (one_each t) reach s (owner_of t s) s (statement t s)
  unfolding preceding_at following_edges entering_edges origin_of call_edges preceding_edges entered one_each
  preceding_at_lem reach s =
      ap {B = List Edge}
      (λ (l : List Edge). map (λ (n : ℕ). edge (origin_of t reach s) n) (nexts s (statement t s))
      ++ (list_on (starts (view (statement t s))) (λ q. edge (last_of t) (length t.statements + named (statement t s)) ∷ []) ++ l))
      (both_on (calls (view (statement t s))) (edge s (length t.statements + named (statement t s)))
      (edge (length t.statements + owner_of t s) (length t.statements + named (statement t s))))

  pub preceding_edges_lem : (reach : List ℕ)
      → preceding_for t reach ≡ joined_from 0 (one_each t).statements (λ p. preceding_edges (one_each t) reach p ((one_each t).statement_copy p) ((one_each t).statement_at p) (statement t ((one_each t).statement_at p)))
  unfolding preceding_for one_each
  preceding_edges_lem reach =
      joined_same 0 (length t.statements) _ _
      (λ s w. preceding_at_lem reach s ∙ ap {B = List Edge} (λ (c : ℕ). preceding_edges (one_each t) reach s c s (statement t s)) (copy_of t s (within_below w)))
