-- A list of four places a statement has room for the edges of both equations: at most four a statement, and every number small. Assumes nothing.
use Prim.Native.Nat.{ℕ, ◌+◌, ◌*◌, ◌≤◌, ◌<◌}
use Rattle.std.specs.Prelude.{◌≡◌, Bool, ℤ, None}
use Rattle.std.proofs.Common.{sym}
use Rattle.std.proofs.Math.Path.{subst}
use Rattle.std.proofs.Math.Bool.{true, false, cond}
use mathlib.Core.List.{List, [], ◌∷◌, ◌++◌}
use native.Mathlib.Omega.{arith}
use Rattle.std.proofs.Math.ListN.{length}
use Rattle.sets.specs.Least.{Edge}
use Rattle.sets.proofs.AppendLaws.{Room, room_none, room_both, room_more}
use Rattle.table.specs.Header.{statements}
use Rattle.table.specs.Table.{Table, table_of, statement, InRoutine}
use Rattle.table.specs.Accepted.{Accepted, Operands}
use Rattle.table.proofs.LookupLaws.{statements_length}
use Rattle.table.specs.View.{view, list_on, when, calls, starts}
use Rattle.table.specs.declared.View.{View}
use Rattle.table.specs.declared.Statement.{Statement}
use Rattle.report.specs.Over.{joined_from}
use Rattle.report.proofs.OverLaws.{within_below}
use Rattle.report.specs.Layout.{named, owner_of, one_each}
use Rattle.report.specs.Preceded.{brings_start, reach_edges}
use Rattle.edges.specs.Equations.{edge, call_edges}
use Rattle.edges.specs.declared.list.EdgeList.{EdgeList}
use Rattle.edges.specs.Grown.{Grown, Filled, filled}
use Rattle.edges.specs.RoomLaws.{room_edge, room_joined, room_on, room_when, named_small, owner_small, target_small}
use Rattle.start_edges.specs.StartEdges.{reach_at, reach_for, following_edges, entering_edges, last_of, origin_of, preceding_at, preceding_for}
use Rattle.start_edges.proofs.StartEdges.{both_on}
use Rattle.start_edges.proofs.StartLaws.{following_split}

-- a statement is no START and CALL at once
room_either : (m : ℕ) (v : View) (a b : ℕ → List Edge) → ((q : ℕ) → Room m (a q)) → ((q : ℕ) → Room m (b q)) → Room m (list_on (starts v) a ++ list_on (calls v) b)
room_either m v a b p q = go v.starting
  where
    go : (x : Bool) → Room m (list_on (cond x v.names None) a ++ list_on (cond x None v.names) b)
    go true = room_more m (omega arith) (room_both {m = m} {n = 0} (list_on v.names a) [] (room_on v.names a (λ n e. p n)) room_none)
    go false = room_on v.names b (λ n e. q n)

module _ (t : Table) (acc : Accepted t) (s : ℕ) (below : s < length t.statements) where
  abbrev σ : Statement
  σ = statement t s

  owned : (r : ℕ) × (r < length t.routines) × InRoutine t r s
  owned = acc.owner s below

  operands : Operands t owned.0 σ
  operands = acc.operands owned.0 s owned.1 owned.2

  named_at : named σ < 512
  named_at = named_small t acc owned.0 σ operands

  reach_room : Room 4 (reach_at t s)
  unfolding reach_at reach_edges one_each
  reach_room =
      room_either 4 (view σ) _ _ (λ q. room_edge 3 (length t.routines) (owner_of t s) (omega (arith, acc.routines_most)) (omega (arith, owner_small t acc s)))
      (λ q. room_edge 3 (named σ) (owner_of t s) (omega (arith, named_at)) (omega (arith, owner_small t acc s)))

  following_room : (origin : ℕ) → origin ≤ last_of t → Room 2 (following_edges origin s σ)
  following_room origin l =
      subst (Room 2) (sym (following_split origin s σ))
      (room_both {m = 1} {n = 1} (list_on (view σ).target (λ n. edge origin n ∷ [])) (when (view σ).onward (edge origin (s + 1) ∷ []))
      (room_on (view σ).target (λ n. edge origin n ∷ [])
      (λ n e. room_edge 0 origin n small (target_small t acc s owned.0 (omega (arith, acc.statements_most)) owned.1 n (operands.target n e))))
      (room_when (view σ).onward (edge origin (s + 1) ∷ []) (room_edge 0 origin (s + 1) small (omega (arith, below, acc.statements_most)))))
    where
      small : origin < 65536
      small = omega (arith, acc.statements_most, acc.routines_most)

  entering_room : Room 2 (entering_edges (length t.statements) (last_of t) (owner_of t s) s σ)
  unfolding entering_edges call_edges
  entering_room =
      let place : ℕ = length t.statements + named σ in
      let own : ℕ = length t.statements + owner_of t s in
      subst (λ (l : List Edge). Room 2 (list_on (starts (view σ)) (λ q. edge (last_of t) place ∷ []) ++ l)) (sym (both_on (calls (view σ)) (edge s place) (edge own place)))
      (room_either 2 (view σ) _ _ (λ q. room_edge 1 (last_of t) place (omega (arith, acc.statements_most, acc.routines_most)) (omega (arith, named_at, acc.statements_most)))
      (λ q.
      room_both {m = 1} {n = 1} (edge s place ∷ []) (edge own place ∷ [])
      (room_edge 0 s place (omega (arith, acc.statements_most)) (omega (arith, named_at, acc.statements_most)))
      (room_edge 0 own place (omega (arith, owner_small t acc s, acc.statements_most)) (omega (arith, named_at, acc.statements_most)))))

  origin_there : (reach : List ℕ) → origin_of t reach s ≤ last_of t
  unfolding origin_of
  origin_there reach = go (brings_start (one_each t) reach (owner_of t s) s σ)
    where
      go : (b : Bool) → cond b (last_of t) s ≤ last_of t
      go true = omega arith
      go false = omega (arith, below)

  preceding_room : (reach : List ℕ) → Room 4 (preceding_at t reach s)
  unfolding preceding_at
  preceding_room reach =
      room_both {m = 2} {n = 2} (following_edges (origin_of t reach s) s σ) _ (following_room (origin_of t reach s) (origin_there reach)) entering_room

-- so a list with that much room holds the edges of an equation, whatever stood in it before
module _ (f : List ℤ) (acc : Accepted (table_of f)) {a b : EdgeList} (e : a.used ≡ 0) (room : 4 * statements f ≤ length a.room.now) where
  all_are : (part : ℕ → List Edge) → ((s : ℕ) → s < length (table_of f).statements → Room 4 (part s)) → Grown a b (joined_from 0 (length (table_of f).statements) part)
      → Filled b (joined_from 0 (length (table_of f).statements) part)
  all_are part fits g =
      let all = room_joined 4 0 (length (table_of f).statements) part (λ s w. fits s (within_below w)) in
      filled e g (room_more (length a.room.now) (omega (arith, statements_length f)) all)

  pub reach_are : Grown a b (reach_for (table_of f)) → Filled b (reach_for (table_of f))
  unfolding reach_for
  reach_are = all_are (reach_at (table_of f)) (reach_room (table_of f) acc)

  pub preceding_are : (reach : List ℕ) → Grown a b (preceding_for (table_of f) reach) → Filled b (preceding_for (table_of f) reach)
  unfolding preceding_for
  preceding_are reach = all_are (preceding_at (table_of f) reach) (λ s l. preceding_room (table_of f) acc s l reach)
