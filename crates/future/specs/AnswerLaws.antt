-- What two stages of solving leave are the futures of the report. Assumes nothing.
use Rattle.std.specs.Prelude.{ℕ, ◌+◌, ◌^◌, ◌<◌, Bool, cond, ℤ, get_or}
use Rattle.std.proofs.Math.Path.{◌≡◌, refl, ap}
use Rattle.std.proofs.Common.{sym, ap₂, ◌∙◌, arith}
use Rattle.std.proofs.Math.Bool.{true, false}
use mathlib.Core.List.{List, ◌++◌, map}
use Rattle.std.proofs.Math.Dec.{ltb}
use Rattle.std.proofs.Math.ListN.{length}
use borrow.Author.Tests.{ltb-true}
use Rattle.sets.specs.Set.{union}
use Rattle.sets.specs.Least.{Edge, edge_of, least}
use Rattle.table.specs.Header.{routines, statements}
use Rattle.table.proofs.LookupLaws.{routines_length, statements_length}
use Rattle.table.specs.Table.{Table, table_of, statement}
use Rattle.table.specs.Accepted.{Accepted}
use Rattle.table.specs.Tabulate.{tabulate}
use Rattle.table.proofs.TabulateLaws.{length_tabulate, get_d_tabulate, is_tabulate}
use Rattle.report.proofs.OverLaws.{within_below}
use Rattle.report.specs.Layout.{owner_of, one_each}
use Rattle.report.proofs.OneEach.{one_each_fits}
use Rattle.report.specs.Operations.{accessed}
use Rattle.report.specs.Effect.{effect_of}
use Rattle.report.specs.Future.{callers, next_effects, future_initials, futures}
use Rattle.edges.specs.Equations.{Nexts, Callers, next_edges, call_edges, edges_at, edges_for}
use Rattle.initial.specs.declared.Act.{Act}
use Rattle.initial.specs.InitialSets.{acts, own_set, effect_at, nexts_effect, future_initial}
use Rattle.edges.specs.EdgeLaws.{joined_same}
use Rattle.edges.specs.RoutineLaws.{copy_of}
use Rattle.future.specs.StageLaws.{with_group, spread, staged}
use Rattle.future.specs.FutureStages.{next_edges as all_next_edges, caller_edges, futures_staged}

-- a list that is another holds its edges
pub edges_like : {l k : List ℕ} {es : List Edge} → l ≡ k → map edge_of k ≡ es → map edge_of l ≡ es
edges_like e h = ap {B = List Edge} (λ (l : List ℕ). map edge_of l) e ∙ h

module _ (t : Table) where
  next_edges_lem : edges_for Nexts t ≡ all_next_edges t (one_each t)
  unfolding edges_for edges_at next_edges all_next_edges one_each
  next_edges_lem = refl

  caller_edges_lem : edges_for Callers t ≡ caller_edges t (one_each t)
  unfolding edges_for edges_at call_edges caller_edges callers one_each
  caller_edges_lem =
      joined_same 0 (length t.statements) _ _
      (λ s w.
      ap {B = List Edge}
      (λ (c : ℕ). call_edges (length t.statements) s (statement t s) ++ call_edges (length t.statements) (length t.statements + c) (statement t s))
      (copy_of t s (within_below w)))

  module _ (flow effect : List ℕ) where
    abbrev solved : Act → List ℕ
    solved act =
        spread (length t.statements) (length t.routines) (one_each t).statement_copy
        (least (caller_edges t (one_each t)) (least (all_next_edges t (one_each t)) (tabulate (length t.statements + length t.routines) (future_initial act flow effect t))))

    stages : (w : Bool)
        → solved (acts w) ≡ staged (one_each t).statements (one_each t).copies (one_each t).statement_copy (all_next_edges t (one_each t)) (caller_edges t (one_each t)) (future_initials t (one_each t) flow effect w)
    unfolding staged future_initials future_initial next_effects nexts_effect effect_at effect_of own_set accessed one_each
    stages true = refl
    stages false = refl

module _ (f : List ℤ) where
  abbrev t : Table
  t = table_of f

  -- a statement's routine is its copy
  spread_owner : (n m : ℕ) (s : List ℕ) → n ≡ length t.statements → spread n m (owner_of t) s ≡ spread n m (one_each t).statement_copy s
  unfolding spread
  spread_owner n m s e =
      is_tabulate (n + m) (with_group n (one_each t).statement_copy s) (tabulate (n + m) (with_group n (owner_of t) s)) 0 (length_tabulate (n + m) _)
      (λ p l. get_d_tabulate (n + m) (with_group n (owner_of t) s) p 0 l ∙ same p (ltb p n) refl)
    where
      same : (p : ℕ) (b : Bool) → ltb p n ≡ b
          → ◌≡◌ {A = ℕ} (cond b (union (get_or s p 0) (get_or s (n + owner_of t p) 0)) (get_or s p 0))
          (cond b (union (get_or s p 0) (get_or s (n + (one_each t).statement_copy p) 0)) (get_or s p 0))
      same p true h =
          let l : p < length t.statements = omega (arith, ltb-true p n h) in
          ap (λ (c : ℕ). union (get_or s p 0) (get_or s (n + c) 0)) (copy_of t p l)
      same p false h = refl

  -- the two stages of futures
  pub future_answer : Accepted t → (flow : List ℕ) → ((i : ℕ) → get_or flow i 0 < 2 ^ 64) → (effect : List ℕ) → ((i : ℕ) → get_or effect i 0 < 2 ^ 64)
      → (w : Bool) {k : ℕ} → k ≡ statements f + routines f
      → spread (statements f) (routines f) (owner_of t) (least (edges_for Callers t) (least (edges_for Nexts t) (tabulate k (future_initial (acts w) flow effect t))))
      ≡ futures t (one_each t) flow effect w
  future_answer acc flow below effect effect_below w {k} e =
      let n = sym (statements_length f) in
      let m = sym (routines_length f) in
      spread_owner (statements f) (routines f) _ n
      ∙ ap₂ (λ (a b : ℕ). spread a b (one_each t).statement_copy (least (edges_for Callers t) (least (edges_for Nexts t) (tabulate k (future_initial (acts w) flow effect t))))) n m
      ∙ ap (λ (i : ℕ). spread (length t.statements) (length t.routines) (one_each t).statement_copy (least (edges_for Callers t) (least (edges_for Nexts t) (tabulate i (future_initial (acts w) flow effect t)))))
      (e ∙ ap₂ (λ (a b : ℕ). a + b) n m)
      ∙ ap₂ (λ (a b : List Edge). spread (length t.statements) (length t.routines) (one_each t).statement_copy (least a (least b (tabulate (length t.statements + length t.routines) (future_initial (acts w) flow effect t)))))
      (caller_edges_lem t) (next_edges_lem t)
      ∙ stages t flow effect w
      ∙ futures_staged t (one_each t) acc (one_each_fits t acc) flow below (λ v. effect) (λ v. effect_below) w

  -- what the solver leaves of them, by lists of edges
  pub futures_left : Accepted t → (within up : List ℕ) → map edge_of within ≡ edges_for Nexts t → map edge_of up ≡ edges_for Callers t
      → (flow : List ℕ) → ((i : ℕ) → get_or flow i 0 < 2 ^ 64) → (effect : List ℕ) → ((i : ℕ) → get_or effect i 0 < 2 ^ 64) → (w : Bool) {k : ℕ}
      → k ≡ statements f + routines f → {out : List ℕ}
      → out ≡ spread (statements f) (routines f) (owner_of t) (least (map edge_of up) (least (map edge_of within) (tabulate k (future_initial (acts w) flow effect t))))
      → out ≡ futures t (one_each t) flow effect w
  futures_left acc within up a b flow below effect effect_below w {k} e p =
      p
      ∙ ap₂ (λ (x y : List Edge). spread (statements f) (routines f) (owner_of t) (least x (least y (tabulate k (future_initial (acts w) flow effect t))))) b a
      ∙ future_answer acc flow below effect effect_below w e
