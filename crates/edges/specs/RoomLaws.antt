-- A list of four places a statement has room for the edges of every equation: at most four a statement, and every number small. Assumes nothing.
use Rattle.std.specs.Prelude.{ℕ, zero, suc, ◌+◌, ◌*◌, ◌≤◌, ◌<◌, ◌≡◌, refl, Bool, cond, ◌⊎◌, ℤ, get_or, take, map, Option, Some, None}
use Rattle.std.proofs.Common.{sym, ap, ◌∙◌, subst, inl, inr, mul-suc, arith, length-append}
use Rattle.std.proofs.Math.Bool.{true, false, not}
use mathlib.Core.List.{List, [], ◌∷◌, ◌++◌, Memᴰ}
use Rattle.std.proofs.Math.ListN.{length}
use Rattle.sets.specs.Least.{Edge, edge_of}
use Rattle.sets.proofs.AppendLaws.{Room, room_none, room_one, room_both, room_more}
use Rattle.table.specs.Header.{statements}
use Rattle.table.specs.Table.{Table, table_of, routine, statement, passed, InRoutine}
use Rattle.table.specs.Accepted.{Accepted, Operands, Passes, RoutineFacts}
use Rattle.table.proofs.LookupLaws.{statements_length}
use Rattle.table.proofs.UntilLaws.{until_range}
use Rattle.table.specs.declared.Arguments.{Arguments}
use Rattle.table.specs.declared.Statement.{Statement}
use Rattle.table.specs.View.{view, list_on, when, calls}
use Rattle.table.proofs.ViewLaws.{on_or_lem, points_or_names}
use Rattle.report.specs.Over.{joined_from}
use Rattle.report.proofs.OverLaws.{Within, joined_from_lem, within_below}
use Rattle.report.specs.Layout.{named, is_in, owner_of, one_each}
use Rattle.report.proofs.OneEach.{statement_below}
use Rattle.report.specs.Flow.{passing, flow_edges}
use Rattle.edges.specs.Equations.{Equation, Flow, Effects, Gives, Nexts, Callers, edge, up_edges, next_edges, call_edges, edges_at, edges_for}
use Rattle.edges.specs.declared.list.EdgeList.{EdgeList}
use Rattle.edges.specs.Grown.{Grown, Filled, filled, Halves, parts}
use Rattle.edges.specs.LineLaws.{next_parts}

pub room_edge : (m f t : ℕ) → f < 65536 → t < 65536 → Room (m + 1) (edge f t ∷ [])
room_edge m f t p q = room_one m (edge f t) (record { from = p; also = p; to = q })

joined_length : (m from n : ℕ) (f : ℕ → List Edge) → ((i : ℕ) → Within from n i → length (f i) ≤ m) → length (joined_from from n f) ≤ m * n
unfolding joined_from
joined_length m from zero f h = omega arith
joined_length m from (suc n) f h =
    let here : length (f from) ≤ m = h from (record { low = omega arith; high = omega arith }) in
    let rest : length (joined_from (from + 1) n f) ≤ m * n =
    joined_length m (from + 1) n f (λ i w. h i (record { low = omega (arith, w.low); high = omega (arith, w.high) })) in
    omega (arith, mul-suc m n, length-append (f from) (joined_from (from + 1) n f))

pub room_joined : (m from n : ℕ) (f : ℕ → List Edge) → ((i : ℕ) → Within from n i → Room m (f i)) → Room (m * n) (joined_from from n f)
room_joined m from n f h = record {
  room = joined_length m from n f (λ i w. (h i w).room);
  small = λ e i. let r : (j : ℕ) × Within from n j × Memᴰ e (f j) = joined_from_lem from n f e i in (h r.0 r.1).small e r.2;
}

pub room_on : {m : ℕ} (r : Option ℕ) (f : ℕ → List Edge) → ((n : ℕ) → r ≡ Some n → Room m (f n)) → Room m (list_on r f)
room_on {m} r f h = on_or_lem (Room m) r f [] h room_none

pub room_when : {m : ℕ} (b : Bool) (l : List Edge) → Room m l → Room m (when b l)
room_when true l h = h
room_when false l h = room_none

module _ (t : Table) (acc : Accepted t) where
  -- ---- the numbers of a statement

  pub named_small : (r : ℕ) (σ : Statement) → Operands t r σ → named σ < 512
  unfolding named
  named_small r σ o = on_or_lem (λ (q : ℕ). q < 512) (view σ).names (λ q. q) 0 (λ q n. omega (arith, (o.passes q n).there, acc.routines_most)) (omega arith)

  pub owner_small : (s : ℕ) → owner_of t s < 512
  unfolding owner_of
  owner_small s = omega (arith, acc.routines_most, (until_range (λ (r : ℕ). not (is_in t s r)) 0 (length t.routines)).1)

  -- ---- flow

  room_passing : (r q : ℕ) (a : Arguments) → Passes t r q a → Room 4 (passing t (one_each t) 0 0 q a)
  unfolding passing one_each
  room_passing r q a p =
      let facts : RoutineFacts t q = acc.routine_facts q p.there in
      room_more 4 (omega (arith, facts.few_parameters))
      (room_joined 1 0 (routine t q).parameters _
      (λ j w.
      let l : j < (routine t q).parameters = within_below w in
      room_edge 0 (get_or (passed a) j 0) ((routine t q).handle + j) (omega (arith, (p.argument j l).own.there, acc.handles_most))
      (omega (arith, facts.parameters_among, facts.handles_there, acc.handles_most))))

  room_flow : (r s : ℕ) (σ : Statement) → Operands t r σ → Room 4 (flow_edges t (one_each t) 0 s σ)
  unfolding flow_edges one_each passing
  room_flow r s σ o = go (points_or_names σ)
    where
      points : Option ℕ → List Edge
      points r = list_on r (λ h. edge (view σ).source h ∷ [])

      named_edges : Option ℕ → List Edge
      named_edges r = list_on r (λ q. passing t (one_each t) 0 0 q (view σ).arguments)

      go : ((view σ).points ≡ None) ⊎ ((view σ).names ≡ None) → Room 4 (flow_edges t (one_each t) 0 s σ)
      go (inl e) =
          room_both {m = 0} {n = 4} (points (view σ).points) (named_edges (view σ).names) (subst (λ r. Room 0 (points r)) (sym e) room_none)
          (room_on (view σ).names _ (λ q n. room_passing r q (view σ).arguments (o.passes q n)))
      go (inr e) =
          room_both {m = 1} {n = 3} (points (view σ).points) (named_edges (view σ).names)
          (room_on (view σ).points _
          (λ h n.
          let own = o.points h n in
          room_edge 0 (view σ).source h (omega (arith, own.1.there, acc.handles_most)) (omega (arith, own.0.there, acc.handles_most))))
          (subst (λ r. Room 3 (named_edges r)) (sym e) room_none)

  -- ---- effects and given-up locks

  room_up : (starts : Bool) (c : ℕ) (r : ℕ) (σ : Statement) → Operands t r σ → c < 512 → Room 1 (up_edges starts c σ)
  unfolding up_edges
  room_up starts c r σ o l =
      room_on (cond starts (view σ).names (calls (view σ))) (λ q. edge (named σ) c ∷ [])
      (λ q e. room_edge 0 (named σ) c (omega (arith, named_small r σ o)) (omega arith))

  -- ---- futures

  module _ (s r : ℕ) (l : s < 512) (b : r < length t.routines) where
    pub target_small : (z : ℕ) → InRoutine t r z → z < 65536
    target_small z i = omega (arith, statement_below t acc r z b i, acc.statements_most)

    room_next : (σ : Statement) → Operands t r σ → Room 2 (next_edges s σ)
    room_next σ o =
        subst (Room 2) (next_parts t s σ refl)
        (room_both {m = 1} {n = 1} (list_on (view σ).target (λ n. edge n s ∷ [])) (when (view σ).onward (edge (s + 1) s ∷ []))
        (room_on (view σ).target (λ n. edge n s ∷ []) (λ n e. room_edge 0 n s (target_small n (o.target n e)) (omega arith)))
        (room_when (view σ).onward (edge (s + 1) s ∷ []) (room_edge 0 (s + 1) s (omega arith) (omega arith))))

    room_call : (p : ℕ) (σ : Statement) → p < 65536 → Operands t r σ → Room 1 (call_edges (length t.statements) p σ)
    unfolding call_edges
    room_call p σ h o =
        room_on (calls (view σ)) (λ q. edge p (length t.statements + named σ) ∷ [])
        (λ q e. room_edge 0 p (length t.statements + named σ) h (omega (arith, named_small r σ o, acc.statements_most)))

    room_callers : (σ : Statement) → Operands t r σ
        → Room 2 (call_edges (length t.statements) s σ ++ call_edges (length t.statements) (length t.statements + owner_of t s) σ)
    room_callers σ o =
        room_both {m = 1} {n = 1} (call_edges (length t.statements) s σ) _ (room_call s σ (omega arith) o)
        (room_call (length t.statements + owner_of t s) σ (omega (arith, owner_small s, acc.statements_most)) o)

  -- ---- every equation

  room_at : (q : Equation) (s : ℕ) → s < length t.statements → Room 4 (edges_at q t s)
  unfolding edges_at
  room_at q s l = go q (acc.owner s l)
    where
      go : (q : Equation) → (r : ℕ) × (r < length t.routines) × InRoutine t r s → Room 4 (edges_at q t s)
      go Flow o = room_flow o.0 s (statement t s) (acc.operands o.0 s o.1 o.2)
      go Effects o = room_more 4 (omega arith) (room_up true (owner_of t s) o.0 (statement t s) (acc.operands o.0 s o.1 o.2) (owner_small s))
      go Gives o = room_more 4 (omega arith) (room_up false (owner_of t s) o.0 (statement t s) (acc.operands o.0 s o.1 o.2) (owner_small s))
      go Nexts o = room_more 4 (omega arith) (room_next s o.0 (omega (arith, acc.statements_most)) o.1 (statement t s) (acc.operands o.0 s o.1 o.2))
      go Callers o = room_more 4 (omega arith) (room_callers s o.0 (omega (arith, acc.statements_most)) o.1 (statement t s) (acc.operands o.0 s o.1 o.2))

  edges_room : (q : Equation) (a : ℕ) → 4 * length t.statements ≤ a → Room a (edges_for q t)
  unfolding edges_for
  edges_room q a p =
      let all = room_joined 4 0 (length t.statements) (edges_at q t) (λ s w. room_at q s (within_below w)) in
      room_more a (omega arith) all

  -- the two stages of futures together
  stages_room : (a : ℕ) → 4 * length t.statements ≤ a → Room a (edges_for Nexts t ++ edges_for Callers t)
  unfolding edges_for edges_at
  stages_room a p =
      let n = length t.statements in
      let all =
      room_both {m = 2 * n} {n = 2 * n} (edges_for Nexts t) (edges_for Callers t)
      (room_joined 2 0 n (edges_at Nexts t) (λ s w. at_next s (within_below w) (acc.owner s (within_below w))))
      (room_joined 2 0 n (edges_at Callers t) (λ s w. at_callers s (within_below w) (acc.owner s (within_below w)))) in
      room_more a (omega arith) all
    where
      at_next : (s : ℕ) → s < length t.statements → (r : ℕ) × (r < length t.routines) × InRoutine t r s → Room 2 (edges_at Nexts t s)
      at_next s l o = room_next s o.0 (omega (arith, acc.statements_most)) o.1 (statement t s) (acc.operands o.0 s o.1 o.2)

      at_callers : (s : ℕ) → s < length t.statements → (r : ℕ) × (r < length t.routines) × InRoutine t r s → Room 2 (edges_at Callers t s)
      at_callers s l o = room_callers s o.0 (omega (arith, acc.statements_most)) o.1 (statement t s) (acc.operands o.0 s o.1 o.2)

-- so a list with that much room holds an equation's edges, whatever stood in it before
pub filled_for : (q : Equation) (f : List ℤ) → Accepted (table_of f) → {a b : EdgeList} → 4 * statements f ≤ length a.room.now → a.used ≡ 0
    → Grown a b (edges_for q (table_of f)) → Filled b (edges_for q (table_of f))
filled_for q f acc {a} room e g = filled e g (edges_room (table_of f) acc q (length a.room.now) (omega (arith, statements_length f)))

-- as the list gives them
pub edges_are : (q : Equation) (f : List ℤ) → Accepted (table_of f) → {a b : EdgeList} → 4 * statements f ≤ length a.room.now → a.used ≡ 0
    → Grown a b (edges_for q (table_of f)) → {l : List ℕ} → l ≡ take b.used b.room.now → map edge_of l ≡ edges_for q (table_of f)
edges_are q f acc room e g p = ap {B = List Edge} (λ (l : List ℕ). map edge_of l) p ∙ (filled_for q f acc room e g).is

-- and those of both stages of futures behind each other
pub stages_are : (f : List ℤ) → Accepted (table_of f) → {a b c : EdgeList} → 4 * statements f ≤ length a.room.now → a.used ≡ 0
    → Grown a b (edges_for Nexts (table_of f)) → Grown b c (edges_for Callers (table_of f)) → {l : List ℕ} → l ≡ take c.used c.room.now
    → Halves b.used l (edges_for Nexts (table_of f)) (edges_for Callers (table_of f))
stages_are f acc {a} {b} room e g h p =
    subst (λ (l : List ℕ). Halves b.used l (edges_for Nexts (table_of f)) (edges_for Callers (table_of f))) (sym p)
    (parts e g h (stages_room (table_of f) acc (length a.room.now) (omega (arith, statements_length f))))

-- ---- what `append_callers` asks, of the numbers that a program holds

pub callers_asked : {f g : List ℤ} → f ≡ g → Accepted (table_of g) → (s : ℕ) → {end c : ℕ} → end ≡ statements g → end ≤ 512 → c ≡ owner_of (table_of g) s
    → (end ≡ statements f) × (end ≤ 512) × (c ≡ owner_of (table_of f) s) × (c < 4294967296)
callers_asked {g} e acc s {c = c} p l q =
    let small : c < 4294967296 = omega (arith, q, owner_small (table_of g) acc s) in
    rw e (p, l, q, small)
