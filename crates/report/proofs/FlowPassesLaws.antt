-- C-12: passes from the highest statement down come to the flow sets; no more are made than there are handles; where helpers stand before the routines that
-- use them two passes settle the sets, so at most three are made. Assumes nothing.
use Prim.Native.Nat.{ℕ, zero, suc, ◌+◌, ◌-◌, ◌≤◌, ◌<◌, max}
use Rattle.std.specs.Prelude.{◌≡◌, Bool, true, false, ◌⊎◌, ltb, get_or, Option, Some, None}
use Rattle.std.proofs.Math.Path.{refl, sym, ap, subst, fun_ext}
use Rattle.std.proofs.Common.{◌∙◌, zero-add, le_refl, add-one, ltb-true, ltb-false}
use Rattle.std.proofs.Math.Logic.{inl, inr, ⊎_elim}
use mathlib.Core.List.{List, [], ◌∷◌, ◌++◌, Memᴰ}
use native.Mathlib.Omega.{arith}
use Rattle.std.proofs.Math.ListN.{length}
use Rattle.sets.specs.Least.{Edge, plain, pass_edges, least, settled}
use Rattle.sets.proofs.LeastLaws.{least_closed}
use Rattle.round_robin.specs.RoundRobin.{pass_down, after, passes_made, Among}
use Rattle.round_robin.proofs.PassLaws.{down_append, closed_down, settled_down}
use Rattle.round_robin.proofs.CountLaws.{made_few, made_most}
use Rattle.round_robin.proofs.OrderLaws.{Apart, Ordered, none, ordered_append, any_order, two_passes}
use Rattle.table.specs.Table.{Table, declaration, routine, statement, passed, InRoutine, OwnHandle}
use Rattle.table.specs.View.{view, On, list_on}
use Rattle.table.proofs.ViewLaws.{list_from, nothing_to, points_or_names}
use Rattle.table.specs.Accepted.{Accepted, Operands, Passes, Names}
use Rattle.table.specs.declared.View.{View}
use Rattle.table.specs.declared.Statement.{Statement}
use Rattle.report.specs.Over.{joined_from}
use Rattle.report.proofs.OverLaws.{Within, joined_from_lem, joined_split, within_below}
use Rattle.report.specs.Layout.{Layout, one_each}
use Rattle.report.proofs.OneEach.{statement_below, one_each_fits}
use Rattle.report.proofs.PlaceLaws.{parameter_own}
use Rattle.report.specs.Flow.{passing, flow_edges, all_flow_edges, flow_initials, flow_sets}
use Rattle.report.proofs.FlowLaws.{initials_sets}
use Rattle.report.specs.FlowPasses.{edges_of, pass_over, flow_pass, flow_by_passes, flow_passes, HelpersFirst}

-- ---- a pass by its edges, for every table and any copies

module _ (t : Table) (k : Layout) where
  over_by_edges : (p n : ℕ) (s : List ℕ) → pass_over t k p n s ≡ pass_down (joined_from p n (edges_of t k)) s
  unfolding pass_over joined_from pass_down
  over_by_edges p zero s = refl
  over_by_edges p (suc n) s = ap (pass_down (edges_of t k p)) (over_by_edges (p + 1) n s) ∙ sym (down_append (edges_of t k p) _ s)

  -- a pass goes along the edges of all statements, from the last to the first
  pub pass_by_edges : (s : List ℕ) → flow_pass t k s ≡ pass_down (all_flow_edges t k) s
  unfolding flow_pass all_flow_edges
  pass_by_edges s = over_by_edges 0 k.statements s

  abbrev by_edges : flow_pass t k ≡ pass_down (all_flow_edges t k)
  by_edges = fun_ext pass_by_edges

  -- the passes come to the flow sets
  pub flow_by_passes_lem : flow_by_passes t k ≡ flow_sets t k
  unfolding flow_by_passes flow_sets
  flow_by_passes_lem =
      ap (λ (pass : List ℕ → List ℕ). settled pass (flow_initials t k)) by_edges
      ∙ settled_down k.handles (all_flow_edges t k) (flow_initials t k) (initials_sets t k)

  -- and another one leaves them
  flow_stays : flow_pass t k (flow_sets t k) ≡ flow_sets t k
  unfolding flow_sets
  flow_stays =
      pass_by_edges (flow_sets t k)
      ∙ closed_down (all_flow_edges t k) (flow_sets t k) (least_closed k.handles (all_flow_edges t k) (flow_initials t k) (initials_sets t k))

  pub passes_by_edges : flow_passes t k ≡ passes_made (pass_down (all_flow_edges t k)) (flow_initials t k)
  unfolding flow_passes
  passes_by_edges = ap (λ (pass : List ℕ → List ℕ). passes_made pass (flow_initials t k)) by_edges

  -- no more are made than there are handles, or one
  pub passes_at_most_handles : flow_passes t k ≤ max 1 k.handles
  passes_at_most_handles =
      subst (λ (n : ℕ). n ≤ max 1 k.handles) (sym passes_by_edges)
      (subst (λ (n : ℕ). passes_made (pass_down (all_flow_edges t k)) (flow_initials t k) ≤ max 1 n) (initials_sets t k).places (made_few (all_flow_edges t k) (flow_initials t k)))

-- ---- the ends of an edge

-- an edge of statement s, which is one of routine r: it comes from a handle of r, and leads to the handle that a POINT changes, or to a parameter of the
-- routine that is named
pub record Ends (t : Table) (r s : ℕ) (e : Edge) : Type 0 where
  pub from : OwnHandle t r e.from
  pub also : e.also ≡ e.from
  pub to : (((view (statement t s)).points ≡ Some e.to) × OwnHandle t r e.to) ⊎ ((q : ℕ) × Names (statement t s) q × OwnHandle t q e.to)

module _ (t : Table) (acc : Accepted t) where
  ends_of : (r s c : ℕ) → r < length t.routines → InRoutine t r s → (e : Edge) → Memᴰ e (flow_edges t (one_each t) c s (statement t s)) → Ends t r s e
  unfolding flow_edges one_each passing
  ends_of r s c l i e m =
      ⊎_elim
      (λ k.
      let o : On (view σ).points (λ h. Memᴰ e (plain (view σ).source h ∷ [])) = list_from (view σ).points _ e k in
      let q : e ≡ plain (view σ).source o.0 = mathlib.Core.List.Memᴰ.eq_of_singleton o.2 in
      let own = ops.points o.0 o.1 in
      subst (Ends t r s) (sym q) (record { from = own.1; also = refl; to = inl (o.1, own.0) }))
      (λ k.
      let o = list_from (view σ).names _ e k in
      let w = joined_from_lem 0 (routine t o.0).parameters _ e o.2 in
      let q : e ≡ plain (get_or (passed (view σ).arguments) w.0 0) ((routine t o.0).handle + w.0) = mathlib.Core.List.Memᴰ.eq_of_singleton w.2 in
      let p : Passes t r o.0 (view σ).arguments = ops.passes o.0 o.1 in
      subst (Ends t r s) (sym q)
      (record {
        from = (p.argument w.0 (within_below w.1)).own;
        also = refl;
        to = inr (o.0, o.1, parameter_own t (one_each t) (one_each_fits t acc) acc o.0 w.0 p.there (within_below w.1));
      }))
      (mathlib.Core.List.Memᴰ.append_cases _ m)
    where
      σ : Statement
      σ = statement t s

      ops : Operands t r (statement t s)
      ops = acc.operands r s l i

  ends_at : (e : Edge) (p n : ℕ) → p + n ≤ length t.statements → Memᴰ e (joined_from p n (edges_of t (one_each t)))
      → (r s : ℕ) × (r < length t.routines) × InRoutine t r s × Within p n s × Ends t r s e
  unfolding one_each
  ends_at e p n h m =
      let w = joined_from_lem p n _ e m in
      let o = acc.owner w.0 (omega (arith, w.1.high)) in
      (o.0, w.0, o.1, o.2, w.1, ends_of o.0 w.0 _ o.1 o.2 e w.2)

  -- both ends of every edge are handles of the table
  pub flow_among : Among (length t.handles) (all_flow_edges t (one_each t))
  unfolding all_flow_edges one_each
  flow_among = record {
    from = λ e m. (ends_at e 0 (length t.statements) (omega arith) m).5.from.there;
    to = λ e m. ⊎_elim (λ p. p.1.there) (λ p. p.2.there) (ends_at e 0 (length t.statements) (omega arith) m).5.to;
  }

  -- where the routines differ, so do the handles
  differ : {e d : Edge} {q r s : ℕ} → OwnHandle t q e.to → Ends t r s d → (q ≡ r → ⊥) → Apart e d
  differ {e} {d} {q} {r} o h n = record { from = f; also = λ x. f (sym h.also ∙ x) }
    where
      f : d.from ≡ e.to → ⊥
      f x = n (sym o.own ∙ ap (λ (y : ℕ). (declaration t y).routine) (sym x) ∙ h.from.own)

  -- ---- within a statement: the order of its arguments does not show

  no_arguments : (x : Option ℕ) (g : ℕ → Edge) (y : Option ℕ) (h : ℕ → List Edge) (u : List ℕ) → y ≡ None
      → pass_edges (list_on x (λ n. g n ∷ []) ++ list_on y h) u ≡ pass_down (list_on x (λ n. g n ∷ []) ++ list_on y h) u
  unfolding pass_edges pass_down
  no_arguments (Some n) g None h u e = refl
  no_arguments None g None h u e = refl
  no_arguments x g (Some m) h u e = nothing_to (sym e)

  pub arguments_any_order : (r s : ℕ) → r < length t.routines → InRoutine t r s → (u : List ℕ)
      → pass_edges (flow_edges t (one_each t) r s (statement t s)) u ≡ pass_down (flow_edges t (one_each t) r s (statement t s)) u
  unfolding flow_edges one_each
  arguments_any_order r s l i u = ⊎_elim passing_apart (λ e. no_arguments v.points (λ h. plain v.source h) v.names (λ q. passing t (one_each t) r ((one_each t).leads r s) q v.arguments) u e) (points_or_names (statement t s))
    where
      v : View
      v = view (statement t s)

      passing_apart : (view (statement t s)).points ≡ None
          → pass_edges (flow_edges t (one_each t) r s (statement t s)) u ≡ pass_down (flow_edges t (one_each t) r s (statement t s)) u
      passing_apart still = any_order _ u (λ e d m k. apart e d (ends_of r s r l i e m) (ends_of r s r l i d k))
        where
          apart : (e d : Edge) → Ends t r s e → Ends t r s d → Apart e d
          apart e d x y =
              ⊎_elim (λ p. nothing_to (sym still ∙ p.0)) (λ p. differ p.2 y (λ q. let k = acc.rank_falls r s p.0 l i p.1 in omega (arith, k, ap acc.rank q))) x.to

  -- ---- statements stand in the order of their routines

  next_first : (r : ℕ) → suc r < length t.routines → (routine t (suc r)).first ≡ (routine t r).first + (routine t r).count
  next_first r h =
      subst (λ (n : ℕ). (routine t n).first ≡ (routine t r).first + (routine t r).count) (add-one r)
      (⊎_elim (λ e. e) (λ e. absurd (omega arith)) (acc.routine_facts r (omega arith)).follows)

  ends_before : (q r : ℕ) → q < r → r < length t.routines → (routine t q).first + (routine t q).count ≤ (routine t r).first
  ends_before q zero h l = absurd (omega arith)
  ends_before q (suc r) h l =
      let ih : q < r → (routine t q).first + (routine t q).count ≤ (routine t r).first = λ k. ends_before q r k (omega arith) in
      let n : (routine t (suc r)).first ≡ (routine t r).first + (routine t r).count = next_first r l in
      go ih n (ltb q r) refl
    where
      go : (q < r → (routine t q).first + (routine t q).count ≤ (routine t r).first) → (routine t (suc r)).first ≡ (routine t r).first + (routine t r).count
          → (b : Bool) → ltb q r ≡ b → (routine t q).first + (routine t q).count ≤ (routine t (suc r)).first
      go ih n true e = let k : (routine t q).first + (routine t q).count ≤ (routine t r).first = ih (ltb-true q r e) in omega arith
      go ih n false e =
          let k : r ≤ q = ltb-false q r e in
          let same : r ≡ q = omega arith in
          subst (λ (x : ℕ). (routine t x).first + (routine t x).count ≤ (routine t (suc r)).first) same (omega arith)

  in_order : (r q s z : ℕ) → r < length t.routines → InRoutine t r s → InRoutine t q z → s ≤ z → r ≤ q
  in_order r q s z l i j h = go (ltb q r) refl
    where
      go : (b : Bool) → ltb q r ≡ b → r ≤ q
      go true e = let k : (routine t q).first + (routine t q).count ≤ (routine t r).first = ends_before q r (ltb-true q r e) l in absurd (omega arith)
      go false e = ltb-false q r e

  -- ---- helpers first

  module _ (shape : HelpersFirst t) where
    -- every edge leads to a parameter of a routine that is named: not routine 0, and a lower one than its own, unless that is routine 0
    leads : {r s : ℕ} {e : Edge} → r < length t.routines → InRoutine t r s → Ends t r s e
        → (q : ℕ) × OwnHandle t q e.to × (q ≡ 0 → ⊥) × (1 ≤ r → q < r)
    leads {r} {s} {e} l i h =
        ⊎_elim (λ p. nothing_to (sym (shape.no_point s (statement_below t acc r s l i)) ∙ p.0))
        (λ p. (p.0, p.2, ((acc.operands r s l i).passes p.0 p.1).not_first, λ k. shape.lower r s p.0 k l i p.1))
        h.to

    abbrev part : ℕ → ℕ → List Edge
    part p n = joined_from p n (edges_of t (one_each t))

    -- behind routine 0 no statement leads to where it or one behind it comes from
    behind_ordered : (n p : ℕ) → (routine t 0).count ≤ p → p + n ≤ length t.statements → Ordered (part p n)
    unfolding joined_from
    behind_ordered zero p h l = none
    behind_ordered (suc n) p h l =
        ordered_append (edges_of t (one_each t) p) (part (p + 1) n)
        (λ e d m k.
        apart_at e d (ends_at e p 1 (omega arith) (mathlib.Core.List.Memᴰ.append_left [] m)) (ends_at d p (suc n) (omega arith) k))
        (behind_ordered n (p + 1) (omega arith) (omega arith))
      where
        outside : (r s : ℕ) → InRoutine t r s → (routine t 0).count ≤ s → 1 ≤ r
        outside zero s i g = absurd (omega (arith, i.high, acc.first_first))
        outside (suc r) s i g = omega arith

        apart_at : (e d : Edge) → ((r s : ℕ) × (r < length t.routines) × InRoutine t r s × Within p 1 s × Ends t r s e)
            → ((r s : ℕ) × (r < length t.routines) × InRoutine t r s × Within p (suc n) s × Ends t r s d) → Apart e d
        apart_at e d (r, s, l, i, w, x) (q, z, b, j, v, y) =
            let o = leads l i x in
            let below : o.0 < r = o.3 (outside r s i (omega arith)) in
            let order : r ≤ q = in_order r q s z l i j (omega arith) in
            differ o.1 y (λ u. omega arith)

    abbrev front : ℕ
    front = (routine t 0).count

    abbrev rest : ℕ
    rest = length t.statements - front

    front_there : front ≤ length t.statements
    front_there = omega (arith, (acc.routine_facts 0 (omega (arith, acc.routines_some))).statements_there)

    all_parts : all_flow_edges t (one_each t) ≡ part 0 front ++ part front rest
    unfolding all_flow_edges one_each
    all_parts =
        let whole : length t.statements ≡ front + rest = omega (arith, front_there) in
        ap {B = List Edge} (λ (n : ℕ). part 0 n) whole ∙ joined_split 0 front rest _ ∙ ap {B = List Edge} (λ (n : ℕ). part 0 front ++ part n rest) (zero-add front)

    -- what routine 0 passes comes from its own handles, to which no edge leads
    front_apart : (e d : Edge) → Memᴰ e (part 0 front ++ part front rest) → Memᴰ d (part 0 front) → Apart e d
    unfolding all_flow_edges one_each
    front_apart e d m k =
        go (ends_at e 0 (length t.statements) (omega arith) (subst (Memᴰ e) (sym all_parts) m)) (ends_at d 0 front (omega (arith, front_there)) k)
      where
        go : ((r s : ℕ) × (r < length t.routines) × InRoutine t r s × Within 0 (length t.statements) s × Ends t r s e)
            → ((r s : ℕ) × (r < length t.routines) × InRoutine t r s × Within 0 front s × Ends t r s d) → Apart e d
        go (r, s, l, i, w, x) (q, z, b, j, v, y) =
            let main : q ≡ 0 =
            acc.one_owner q 0 z b (omega (arith, acc.routines_some)) j (record { low = omega (arith, acc.first_first); high = omega (arith, acc.first_first) }) in
            let o = leads l i x in
            differ o.1 y (λ u. o.2 (u ∙ main))

    -- two passes settle the sets
    pub two_passes_settle : flow_pass t (one_each t) (flow_pass t (one_each t) (flow_initials t (one_each t))) ≡ flow_sets t (one_each t)
    unfolding flow_sets
    two_passes_settle =
        ap (λ (pass : List ℕ → List ℕ). pass (pass (flow_initials t (one_each t)))) (by_edges t (one_each t))
        ∙ ap (λ (es : List Edge). pass_down es (pass_down es (flow_initials t (one_each t)))) all_parts
        ∙ two_passes (part 0 front) (part front rest) front_apart
        (behind_ordered rest front (le_refl front) (omega (arith, front_there))) (one_each t).handles (flow_initials t (one_each t)) (initials_sets t (one_each t))
        ∙ ap (λ (es : List Edge). least es (flow_initials t (one_each t))) (sym all_parts)

    -- so at most three are made
    pub three_passes_at_most : flow_passes t (one_each t) ≤ 3
    unfolding flow_passes after
    three_passes_at_most = made_most (flow_pass t (one_each t)) 2 (flow_initials t (one_each t)) (ap (flow_pass t (one_each t)) two_passes_settle ∙ flow_stays t (one_each t) ∙ sym two_passes_settle)
