-- Three places a statement and one more are room for the edges: no statement makes more than three, and every number is small. Assumes nothing.
use Rattle.std.specs.Prelude.{ℕ, zero, suc, ◌+◌, ◌*◌, ◌≤◌, ◌<◌, ◌≡◌, Bool, ◌⊎◌, ℤ, length, Some}
use Rattle.std.proofs.Common.{sym, inl, inr, mul-suc, length-append}
use Rattle.std.proofs.Math.Path.{subst}
use Rattle.std.proofs.Math.Logic.{⊎_elim}
use mathlib.Core.List.Memᴰ
use mathlib.Core.List.{List, [], ◌∷◌, ◌++◌, map, Memᴰ}
use native.Mathlib.Omega.{arith}
use Rattle.sets.specs.Least.{Edge, plain}
use Rattle.table.specs.Header.{statements}
use Rattle.table.specs.Table.{Table, table_of, statement}
use Rattle.table.proofs.LookupLaws.{statements_length}
use Rattle.table.specs.View.{view, list_on, when, calls, starts}
use Rattle.table.proofs.ViewLaws.{list_from, when_from, calls_names, starts_names, Form, on, read, written, taken, given, pointed, called, started, to, either, back, forms}
use Rattle.table.specs.Accepted.{Accepted}
use Rattle.table.specs.declared.Statement.{Statement}
use Rattle.report.specs.Over.{joined_from}
use Rattle.report.specs.Layout.{Layout, one_each}
use Rattle.report.specs.Fits.{Fits, copies_of}
use Rattle.report.proofs.OneEach.{one_each_fits}
use Rattle.report.specs.Operations.{nexts}
use Rattle.report.proofs.NextLaws.{next_goes, map_from}
use Rattle.report.proofs.PlaceLaws.{place_at, of_some}
use Rattle.report.specs.Rules.{Place}
use Rattle.report.specs.Held.{entry}
use Rattle.held_edges.specs.HeldEdges.{back_place, given_place, flow_place, every_place, place_count, met_place, edges_at, held_edges}
use Rattle.sets.proofs.AppendLaws.{Room}
use Rattle.lock_edges.specs.Grown.{Grown}
use Rattle.lock_edges.specs.declared.list.MetEdges.{MetEdges}
use Rattle.held_edges.specs.GoingLaws.{Filled, filled}
use Rattle.held_edges.specs.EdgePlaceLaws.{place_there, entry_there, handle_there, operands_of, next_there, leads_there, met_there}

-- ---- how many

few_at : (t : Table) (k : Layout) (mode : Bool) (p c s : ℕ) (σ : Statement) → length (edges_at t k mode p c s σ) ≤ 3
unfolding edges_at nexts
few_at t k mode p c s σ = go (forms σ)
  where
    go : Form (view σ) → length (edges_at t k mode p c s σ) ≤ 3
    go (on e) = rw e (omega arith)
    go (read h e) = rw e (omega arith)
    go (written h e) = rw e (omega arith)
    go (taken h w e) = rw e (omega arith)
    go (given h e) = rw e (omega arith)
    go (pointed h g e) = rw e (omega arith)
    go (called q a e) = rw e (omega arith)
    go (started q a e) = rw e (omega arith)
    go (to z e) = rw e (omega arith)
    go (either z e) = rw e (omega arith)
    go (back e) = rw e (omega arith)

joined_few : (from n : ℕ) (f : ℕ → List Edge) → ((i : ℕ) → length (f i) ≤ 3) → length (joined_from from n f) ≤ 3 * n
unfolding joined_from
joined_few from zero f h = omega arith
joined_few from (suc n) f h =
    let here : length (f from) ≤ 3 = h from in
    let rest : length (joined_from (from + 1) n f) ≤ 3 * n = joined_few (from + 1) n f h in
    omega (arith, mul-suc 3 n, length-append (f from) (joined_from (from + 1) n f))

-- ---- how large

module _ (t : Table) (k : Layout) (acc : Accepted t) (fits : Fits t k) where
  -- both ends of an edge, and the place that it meets, are there
  abbrev There : Edge → Type 0
  There e = (e.from < place_count k) × (e.also < place_count k) × (e.to < place_count k)

  module _ (c s : ℕ) (v : Place (copies_of fits) c s) where
    abbrev p : ℕ
    p = k.statement_place c s

    abbrev σ : Statement
    σ = statement t s

    here : p < place_count k
    here = let l : p < k.statements = place_there t k acc fits c s v in omega arith

    -- the edges to what may come next
    nexts_there : (f a : ℕ) → f < place_count k → a < place_count k → (e : Edge)
        → Memᴰ e (map (λ (n : ℕ). record { from = f; also = a; to = k.statement_place c n }) (nexts s σ)) → There e
    nexts_there f a i j e m =
        let r = map_from (λ (n : ℕ). record { from = f; also = a; to = k.statement_place c n }) (nexts s σ) e m in
        subst There (sym r.2) (i, j, next_there t k acc fits c s v r.0 (next_goes s σ r.0 r.1))

    -- the edge to the first statement of what is named
    entry_edge : (f q : ℕ) → f < place_count k → (view σ).names ≡ Some q → There (plain f (entry t k (k.leads c s)))
    entry_edge f q i n =
        let l : entry t k (k.leads c s) < k.statements = entry_there t k acc fits (k.leads c s) (leads_there t k acc fits c s v q n) in
        (i, i, omega arith)

    call_there : (q : ℕ) → calls (view σ) ≡ Some q → (e : Edge)
        → Memᴰ e (plain p (entry t k (k.leads c s)) ∷ map (λ (n : ℕ). record { from = back_place k (k.leads c s); also = given_place k (k.leads c s); to = k.statement_place c n }) (nexts s σ))
        → There e
    call_there q i e (Memᴰ.head j) = subst There (sym j) (entry_edge p q here (calls_names (view σ) i))
    call_there q i e (Memᴰ.tail m) =
        let l : k.leads c s < k.copies = leads_there t k acc fits c s v q (calls_names (view σ) i) in
        nexts_there (back_place k (k.leads c s)) (given_place k (k.leads c s)) (omega arith) (omega arith) e m

    give_there : (h : ℕ) → (view σ).gives ≡ Some h → (e : Edge)
        → Memᴰ e (map (λ (n : ℕ). plain (flow_place k (k.handle_place c h)) (k.statement_place c n)) (nexts s σ)) → There e
    give_there h i e m =
        let l : k.handle_place c h < k.handles = handle_there t k acc fits c h v.there ((operands_of t k acc fits c s v).gives h i).own in
        nexts_there (flow_place k (k.handle_place c h)) (flow_place k (k.handle_place c h)) (omega arith) (omega arith) e m

    end_there : (e : Edge) → Memᴰ e (plain p (back_place k c) ∷ []) → There e
    end_there e m =
        let l : c < k.copies = v.there in
        subst There (sym (Memᴰ.eq_of_singleton m)) (here, here, omega arith)

    edge_there : (mode : Bool) (e : Edge) → Memᴰ e (edges_at t k mode p c s σ) → There e
    unfolding edges_at
    edge_there mode e m =
        ⊎_elim (λ y. let i = list_from (calls (view σ)) _ e y in call_there i.0 i.1 e i.2)
        (λ y. ⊎_elim (λ z. nexts_there p (met_place k mode p c s σ) here (met_there t k acc fits c s v mode) e z) (λ z. last (Memᴰ.append_cases giving z))
        (Memᴰ.append_cases (map (λ (n : ℕ). record { from = p; also = met_place k mode p c s σ; to = k.statement_place c n }) (nexts s σ)) y))
        (Memᴰ.append_cases (list_on (calls (view σ))
        (λ q.
        plain p (entry t k (k.leads c s))
        ∷ map (λ (n : ℕ). record { from = back_place k (k.leads c s); also = given_place k (k.leads c s); to = k.statement_place c n }) (nexts s σ))) m)
      where
        giving : List Edge
        giving = list_on (view σ).gives (λ h. map (λ (n : ℕ). plain (flow_place k (k.handle_place c h)) (k.statement_place c n)) (nexts s σ))

        starting : List Edge
        starting = list_on (starts (view σ)) (λ q. plain (every_place k) (entry t k (k.leads c s)) ∷ [])

        last : Memᴰ e giving ⊎ Memᴰ e (starting ++ when (view σ).ends (plain p (back_place k c) ∷ [])) → There e
        last (inl y) = let i = list_from (view σ).gives _ e y in give_there i.0 i.1 e i.2
        last (inr y) =
            ⊎_elim (λ z.
            let i = list_from (starts (view σ)) _ e z in
            subst There (sym (Memᴰ.eq_of_singleton i.2)) (entry_edge (every_place k) i.0 (omega arith) (starts_names (view σ) i.1)))
            (λ z. end_there e (when_from (view σ).ends _ e z).1)
            (Memᴰ.append_cases starting y)

  all_there : (mode : Bool) (e : Edge) → Memᴰ e (held_edges t k mode) → There e
  unfolding held_edges
  all_there mode e (Memᴰ.head j) =
      let l : entry t k k.first < k.statements = entry_there t k acc fits k.first fits.first_there in
      subst There (sym j) (omega arith, omega arith, omega arith)
  all_there mode e (Memᴰ.tail m) =
      let r = of_some t k fits (edges_at t k mode) e m in
      let i : k.statement_place (k.statement_copy r.0) (k.statement_at r.0) ≡ r.0 = (fits.statement_there r.0 r.1).back in
      edge_there (k.statement_copy r.0) (k.statement_at r.0) (place_at t k fits r.0 r.1) mode e
      (subst (λ (q : ℕ). Memᴰ e (edges_at t k mode q (k.statement_copy r.0) (k.statement_at r.0) (statement t (k.statement_at r.0)))) (sym i) r.2)

-- with one copy of each routine there is room
held_room : (t : Table) (mode : Bool) → Accepted t → Room (3 * length t.statements + 1) (held_edges t (one_each t) mode)
unfolding held_edges one_each
held_room t mode acc = record {
  room =
      let l : length (joined_from 0 (one_each t).statements (λ p. edges_at t (one_each t) mode p ((one_each t).statement_copy p) ((one_each t).statement_at p) (statement t ((one_each t).statement_at p)))) ≤ 3 * length t.statements =
      joined_few 0 (one_each t).statements _ (λ i. few_at t (one_each t) mode i ((one_each t).statement_copy i) ((one_each t).statement_at i) (statement t ((one_each t).statement_at i))) in
      omega arith;
  small = λ e m.
      let r = all_there t (one_each t) acc (one_each_fits t acc) mode e m in
      let n : place_count (one_each t) ≤ 65536 = omega (arith, acc.statements_most, acc.routines_most, acc.handles_most) in
      record { from = omega (arith, r.0); also = omega (arith, r.1); to = omega (arith, r.2) };
}

pub held_filled : (f : List ℤ) (mode : Bool) → Accepted (table_of f) → {x y : MetEdges} → x.used ≡ 0 → 3 * statements f + 1 ≤ length x.edges.now
    → 3 * statements f + 1 ≤ length x.also.now → Grown x y (held_edges (table_of f) (one_each (table_of f)) mode)
    → Filled y (held_edges (table_of f) (one_each (table_of f)) mode)
held_filled f mode acc e l m g =
    filled (3 * length (table_of f).statements + 1) e (omega (arith, statements_length f)) (omega (arith, statements_length f)) g (held_room (table_of f) mode acc)
