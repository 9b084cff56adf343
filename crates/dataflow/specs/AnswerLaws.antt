-- The report's sets solve the equations: their edges and the sets that they begin with are those of the report's definitions. Assumes nothing.
use Rattle.std.specs.Prelude.{ℕ, ◌≤◌, max, ◌≡◌, Bool, ℤ, length}
use Rattle.std.proofs.Common.{arith, ◌∙◌}
use Rattle.std.proofs.Math.Path.{refl, sym, ap, ap₂, subst}
use Rattle.std.proofs.Math.Bool.{true, false}
use mathlib.Core.List.{List, map}
use Rattle.sets.specs.Least.{Edge, edge_of, least, settled}
use Rattle.round_robin.specs.RoundRobin.{pass_down, passes_made, Among}
use Rattle.round_robin.proofs.PassLaws.{settled_down}
use Rattle.table.specs.Header.{handles, routines}
use Rattle.table.proofs.LookupLaws.{handles_length, routines_length}
use Rattle.table.specs.Table.{Table, table_of, statement}
use Rattle.table.specs.Accepted.{Accepted}
use Rattle.table.specs.Tabulate.{tabulate}
use Rattle.table.proofs.TabulateLaws.{length_tabulate}
use Rattle.table.specs.declared.Statement.{Statement}
use Rattle.report.proofs.OverLaws.{within_below}
use Rattle.report.specs.Layout.{one_each}
use Rattle.report.specs.Operations.{accessed, given}
use Rattle.report.specs.Flow.{start_of, passing, flow_edges, all_flow_edges, flow_initials, flow_sets}
use Rattle.report.proofs.FlowLaws.{initials_sets}
use Rattle.report.specs.FlowPasses.{flow_passes, HelpersFirst}
use Rattle.report.proofs.FlowPassesLaws.{flow_among, passes_by_edges, passes_at_most_handles, three_passes_at_most}
use Rattle.report.specs.Effect.{over_copy, up_from, naming_edges, call_edges as up_call_edges, effects, gives}
use Rattle.edges.specs.Equations.{Flow, Effects, Gives, up_edges, edges_at, edges_for}
use Rattle.initial.specs.declared.Act.TheVariants.{Gives as InitialGives}
use Rattle.initial.specs.InitialSets.{acts, own_set, in_routine}
use Rattle.edges.specs.EdgeLaws.{joined_same}
use Rattle.edges.specs.RoutineLaws.{copy_of}

-- ---- the edges

-- the copy makes no difference to what a statement puts into what
flow_copy : (t : Table) (c s : ℕ) (σ : Statement) → flow_edges t (one_each t) 0 s σ ≡ flow_edges t (one_each t) c s σ
unfolding flow_edges passing one_each
flow_copy t c s σ = refl

module _ (t : Table) where
  flow_edges_lem : edges_for Flow t ≡ all_flow_edges t (one_each t)
  unfolding edges_for edges_at all_flow_edges one_each
  flow_edges_lem = joined_same 0 (length t.statements) _ _ (λ s w. flow_copy t ((one_each t).statement_copy s) s (statement t s))

  up_edges_lem : edges_for Effects t ≡ naming_edges t (one_each t)
  unfolding edges_for edges_at up_edges naming_edges up_from one_each
  up_edges_lem = joined_same 0 (length t.statements) _ _ (λ s w. ap {B = List Edge} (λ (c : ℕ). up_edges true c (statement t s)) (copy_of t s (within_below w)))

  given_edges : edges_for Gives t ≡ up_call_edges t (one_each t)
  unfolding edges_for edges_at up_edges up_call_edges up_from one_each
  given_edges = joined_same 0 (length t.statements) _ _ (λ s w. ap {B = List Edge} (λ (c : ℕ). up_edges false c (statement t s)) (copy_of t s (within_below w)))

  -- ---- the sets

  module _ (flow : List ℕ) where
    effect_sets : (w : Bool) → least (naming_edges t (one_each t)) (tabulate (length t.routines) (in_routine (acts w) flow t)) ≡ effects t (one_each t) flow w
    unfolding effects in_routine own_set over_copy accessed one_each
    effect_sets true = refl
    effect_sets false = refl

    given_sets : least (up_call_edges t (one_each t)) (tabulate (length t.routines) (in_routine InitialGives flow t)) ≡ gives t (one_each t) flow
    unfolding gives in_routine own_set over_copy given one_each
    given_sets = refl

-- ---- what the solver leaves, by an equation's edges

pub solved : (l : List ℕ) {es : List Edge} → map edge_of l ≡ es → (s : List ℕ) {out : List ℕ} → out ≡ least (map edge_of l) s → out ≡ least es s
solved l is s p = p ∙ ap (λ (es : List Edge). least es s) is

-- ---- the report's sets are the answers

module _ (f : List ℤ) where
  abbrev t : Table
  t = table_of f

  pub effect_answer : (w : Bool) (flow : List ℕ) {n : ℕ} → n ≡ routines f → least (edges_for Effects t) (tabulate n (in_routine (acts w) flow t)) ≡ effects t (one_each t) flow w
  effect_answer w flow e =
      ap₂ (λ (es : List Edge) (k : ℕ). least es (tabulate k (in_routine (acts w) flow t))) (up_edges_lem t) (e ∙ sym (routines_length f)) ∙ effect_sets t flow w

  pub given_answer : (flow : List ℕ) {n : ℕ} → n ≡ routines f → least (edges_for Gives t) (tabulate n (in_routine InitialGives flow t)) ≡ gives t (one_each t) flow
  given_answer flow e =
      ap₂ (λ (es : List Edge) (k : ℕ). least es (tabulate k (in_routine InitialGives flow t))) (given_edges t) (e ∙ sym (routines_length f)) ∙ given_sets t flow

-- ---- flow, by passes over the statements

module _ (f : List ℤ) (acc : Accepted (table_of f)) (l : List ℕ) (is : map edge_of l ≡ edges_for Flow (table_of f)) {n : ℕ} (e : n ≡ handles f) where
  all_flow : map edge_of l ≡ all_flow_edges (t f) (one_each (t f))
  all_flow = is ∙ flow_edges_lem (t f)

  initial_flow : tabulate n (start_of (t f)) ≡ flow_initials (t f) (one_each (t f))
  unfolding flow_initials one_each
  initial_flow = ap {B = List ℕ} (λ (k : ℕ). tabulate k (start_of (t f))) (e ∙ sym (handles_length f))

  pub flow_ends : Among n (map edge_of l)
  flow_ends =
      subst (Among n) (sym all_flow)
      (subst (λ (k : ℕ). Among k (all_flow_edges (t f) (one_each (t f)))) (handles_length f ∙ sym e) (flow_among (t f) acc))

  module _ {flow : List ℕ} (begun : flow ≡ tabulate n (start_of (t f))) where
    initials : flow ≡ flow_initials (t f) (one_each (t f))
    initials = begun ∙ initial_flow

    pub flow_places : length flow ≡ n
    flow_places = ap length begun ∙ length_tabulate n (start_of (t f))

    -- the sets that they come to
    pub flow_answer : {out : List ℕ} → out ≡ settled (pass_down (map edge_of l)) flow → out ≡ flow_sets (t f) (one_each (t f))
    unfolding flow_sets
    flow_answer p =
        p
        ∙ ap₂ (λ (es : List Edge) (s : List ℕ). settled (pass_down es) s) all_flow initials
        ∙ settled_down (one_each (t f)).handles (all_flow_edges (t f) (one_each (t f))) (flow_initials (t f) (one_each (t f))) (initials_sets (t f) (one_each (t f)))

    -- how many are made: no more than handles, and few where helpers come first
    pub made_answer : {r : ℕ} → r ≡ passes_made (pass_down (map edge_of l)) flow
        → (r ≡ flow_passes (t f) (one_each (t f))) × ((r ≤ max 1 (handles f)) × (HelpersFirst (t f) → r ≤ 3))
    unfolding one_each
    made_answer {r} p =
        let q : r ≡ flow_passes (t f) (one_each (t f)) =
        p ∙ ap₂ (λ (es : List Edge) (s : List ℕ). passes_made (pass_down es) s) all_flow initials ∙ sym (passes_by_edges (t f) (one_each (t f))) in
        (q, (omega (arith, q, passes_at_most_handles (t f) (one_each (t f)), handles_length f), λ shape. subst (λ (k : ℕ). k ≤ 3) (sym q) (three_passes_at_most (t f) acc shape)))
