-- What the solver leaves, from the marked list along each equation's edges, are the report's sets. Assumes nothing.
use Rattle.std.specs.Prelude.{ℕ, ◌+◌, ◌-◌, ◌≡◌, ℤ}
use Rattle.std.proofs.Math.Path.{ap, ap₂}
use Rattle.std.proofs.Common.{◌∙◌, arith}
use mathlib.Core.List.{List, map}
use Rattle.sets.specs.Least.{Edge, edge_of, least}
use Rattle.table.specs.Header.{routines, statements}
use Rattle.table.proofs.LookupLaws.{routines_length, statements_length}
use Rattle.table.specs.Table.{Table, table_of}
use Rattle.report.specs.Layout.{one_each}
use Rattle.report.specs.Preceded.{marked, reach_sets, preceded_sets}
use Rattle.start_edges.specs.StartEdges.{reach_for, preceding_for}
use Rattle.start_edges.proofs.StartEdges.{reach_edges_lem, preceding_edges_lem}

module _ (f : List ℤ) where
  abbrev t : Table
  t = table_of f

  -- how many sets stand before that of "a START"
  copies_are : (one_each t).copies ≡ routines f
  unfolding one_each
  copies_are = routines_length f

  places_are : (one_each t).statements + (one_each t).copies ≡ statements f + routines f
  unfolding one_each
  places_are = ap₂ {C = ℕ} (λ (m n : ℕ). m + n) (statements_length f) (routines_length f)

  module _ (l : List ℕ) {begun out : List ℕ} {k : ℕ} where
    solved : {es : List Edge} (m : ℕ) → map edge_of l ≡ es → k ≡ m + 1 → begun ≡ marked (k - 1) → out ≡ least (map edge_of l) begun
        → out ≡ least es (marked m)
    solved m r e b p =
        let last : k - 1 ≡ m = omega arith in
        p ∙ ap₂ {C = List ℕ} (λ (x : List Edge) (y : List ℕ). least x y) r (b ∙ ap {B = List ℕ} marked last)

    pub reach_answer : map edge_of l ≡ reach_for t → k ≡ routines f + 1 → begun ≡ marked (k - 1) → out ≡ least (map edge_of l) begun
        → out ≡ reach_sets t (one_each t)
    unfolding reach_sets
    reach_answer r e b p =
        solved (one_each t).copies r (omega (arith, copies_are)) b p
        ∙ ap {B = List ℕ} (λ (x : List Edge). least x (marked (one_each t).copies)) (reach_edges_lem t)

    pub preceded_answer : (reach : List ℕ) → map edge_of l ≡ preceding_for t reach → k ≡ statements f + routines f + 1 → begun ≡ marked (k - 1)
        → out ≡ least (map edge_of l) begun → out ≡ preceded_sets t (one_each t) reach
    unfolding preceded_sets
    preceded_answer reach r e b p =
        solved ((one_each t).statements + (one_each t).copies) r (omega (arith, places_are)) b p
        ∙ ap {B = List ℕ} (λ (x : List Edge). least x (marked ((one_each t).statements + (one_each t).copies))) (preceding_edges_lem t reach)
