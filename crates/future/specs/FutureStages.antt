-- Futures in two stages: what may follow in the routine, then what comes from the CALLs of each copy. Assumes nothing.
use Prim.Native.Nat.{ℕ, ◌+◌, ◌^◌, ◌<◌}
use Rattle.std.specs.Prelude.{◌≡◌, refl, Bool, ◌⊎◌, get_or}
use Rattle.std.proofs.Common.{subst, arith}
use Rattle.std.proofs.Math.Logic.{inl, inr}
use mathlib.Core.List.Memᴰ
use mathlib.Core.List.{List, [], ◌∷◌, ◌++◌, map, Memᴰ}
use Rattle.sets.specs.Least.{Edge, plain}
use Rattle.table.specs.Table.{Table, statement}
use Rattle.table.specs.View.{view, On, list_on, calls}
use Rattle.table.proofs.ViewLaws.{list_has, list_from, calls_names}
use Rattle.table.specs.Accepted.{Accepted}
use Rattle.report.specs.Over.{joined_from}
use Rattle.report.proofs.OverLaws.{joined_has, joined_from_lem, below_within, within_below}
use Rattle.report.specs.Layout.{Layout}
use Rattle.report.specs.Fits.{Fits, StatementPlaced}
use Rattle.report.specs.Operations.{nexts}
use Rattle.report.specs.Future.{callers, future_edges, future_initials, futures}
use Rattle.report.proofs.FutureLaws.{starts_sets}
use Rattle.report.proofs.NextLaws.{next_goes, goes_placed, map_from}
use Rattle.report.proofs.PlaceLaws.{placed, place_at}
use Rattle.report.specs.Rules.{Goes}
use Rattle.future.specs.StageLaws.{Groups, staged, staged_least}

module _ (t : Table) (k : Layout) where
  -- to the statement at a place from what may come next
  abbrev pub nexts_at : ℕ → List Edge
  nexts_at p = map (λ (n : ℕ). plain (k.statement_place (k.statement_copy p) n) p) (nexts (k.statement_at p) (statement t (k.statement_at p)))

  -- from place z to the CALLs of the copy that the CALL at place p leads to
  abbrev call_from : ℕ → ℕ → List Edge
  call_from p z =
      list_on (calls (view (statement t (k.statement_at p)))) (λ q. plain z (callers k (k.leads (k.statement_copy p) (k.statement_at p))) ∷ [])

  -- from the CALL at a place, and from the CALLs of its copy, to those of the copy that it leads to
  abbrev pub callers_at : ℕ → List Edge
  callers_at p = call_from p p ++ call_from p (callers k (k.statement_copy p))

  -- those of all statements
  unfoldable pub next_edges : List Edge
  next_edges = joined_from 0 k.statements nexts_at

  unfoldable pub caller_edges : List Edge
  caller_edges = joined_from 0 k.statements callers_at

  -- all edges of the statement at a place
  abbrev futures_at : ℕ → List Edge
  futures_at p =
      nexts_at p
      ++ (plain (callers k (k.statement_copy p)) p
      ∷ call_from p p)

  -- the statement at place p is a CALL that leads to copy g
  abbrev Calls : ℕ → ℕ → Type 0
  Calls p g = (p < k.statements) × On (calls (view (statement t (k.statement_at p)))) (λ q. g ≡ k.leads (k.statement_copy p) (k.statement_at p))

  module _ (acc : Accepted t) (fits : Fits t k) where
    in_some : (f : ℕ → List Edge) (p : ℕ) (e : Edge) → p < k.statements → Memᴰ e (f p) → Memᴰ e (joined_from 0 k.statements f)
    in_some f p e l m = joined_has 0 k.statements f p e (below_within l) m

    call_there : (p g : ℕ) → Calls p g → (p < k.statements) × (g < k.copies)
    call_there p g (l, (q, e, i)) =
        let v = place_at t k fits p l in
        let h = fits.leads_there (k.statement_copy p) (k.statement_at p) q v.there v.inside (calls_names (view (statement t (k.statement_at p))) e) in
        (l, omega arith)

    -- a call's edge, among those of its place
    call_among : (p g : ℕ) → Calls p g → (f : ℕ → List Edge) (e : Edge) → Memᴰ e (f g)
        → Memᴰ e (list_on (calls (view (statement t (k.statement_at p)))) (λ q. f (k.leads (k.statement_copy p) (k.statement_at p))))
    call_among p g (l, (q, e, i)) f d m = list_has _ _ d e (subst (λ (h : ℕ). Memᴰ d (f h)) i m)

    cases : (e : Edge) → Memᴰ e (future_edges t k)
        → Memᴰ e next_edges
        ⊎ (((p : ℕ) × (p < k.statements) × (e ≡ plain (k.statements + k.statement_copy p) p)) ⊎ ((p : ℕ) × (g : ℕ) × Calls p g × (e ≡ plain p (k.statements + g))))
    unfolding future_edges next_edges callers
    cases e m =
        let r = joined_from_lem 0 k.statements futures_at e m in
        let l : r.0 < k.statements = within_below r.1 in
        go r.0 l (Memᴰ.append_cases (nexts_at r.0) r.2)
      where
        rest : (p : ℕ) → p < k.statements
            → Memᴰ e (plain (callers k (k.statement_copy p)) p
            ∷ list_on (calls (view (statement t (k.statement_at p)))) (λ q. plain p (callers k (k.leads (k.statement_copy p) (k.statement_at p))) ∷ []))
            → ((p : ℕ) × (p < k.statements) × (e ≡ plain (k.statements + k.statement_copy p) p)) ⊎ ((p : ℕ) × (g : ℕ) × Calls p g × (e ≡ plain p (k.statements + g)))
        rest p l (Memᴰ.head i) = inl (p, l, i)
        rest p l (Memᴰ.tail i) =
            let o = list_from _ _ e i in
            inr (p, k.leads (k.statement_copy p) (k.statement_at p), (l, (o.0, o.1, refl)), Memᴰ.eq_of_singleton o.2)

        go : (p : ℕ) → p < k.statements
            → Memᴰ e (nexts_at p)
            ⊎ Memᴰ e (plain (callers k (k.statement_copy p)) p
            ∷ list_on (calls (view (statement t (k.statement_at p)))) (λ q. plain p (callers k (k.leads (k.statement_copy p) (k.statement_at p))) ∷ []))
            → Memᴰ e next_edges
            ⊎ (((p : ℕ) × (p < k.statements) × (e ≡ plain (k.statements + k.statement_copy p) p)) ⊎ ((p : ℕ) × (g : ℕ) × Calls p g × (e ≡ plain p (k.statements + g))))
        go p l (inl i) = inl (in_some nexts_at p e l i)
        go p l (inr i) = inr (rest p l i)

    has_next : (e : Edge) → Memᴰ e next_edges → Memᴰ e (future_edges t k)
    unfolding future_edges next_edges
    has_next e m =
        let r = joined_from_lem 0 k.statements nexts_at e m in
        in_some futures_at r.0 e (within_below r.1) (Memᴰ.append_left _ r.2)

    has_owner : (p : ℕ) → p < k.statements → Memᴰ (plain (k.statements + k.statement_copy p) p) (future_edges t k)
    unfolding future_edges callers
    has_owner p l = in_some futures_at p _ l (Memᴰ.append_right (nexts_at p) (Memᴰ.head refl))

    has_call : (p g : ℕ) → Calls p g → Memᴰ (plain p (k.statements + g)) (future_edges t k)
    unfolding future_edges callers
    has_call p g c =
        in_some futures_at p _ c.0
        (Memᴰ.append_right (nexts_at p) (Memᴰ.tail (call_among p g c (λ h. plain p (k.statements + h) ∷ []) _ (Memᴰ.head refl))))

    within : (e : Edge) → Memᴰ e next_edges
        → (f : ℕ) × (n : ℕ) × (e ≡ plain f n) × (f < k.statements) × (n < k.statements) × (k.statement_copy f ≡ k.statement_copy n)
    unfolding next_edges
    within e m =
        let r = joined_from_lem 0 k.statements nexts_at e m in
        let p : ℕ = r.0 in
        let l : p < k.statements = within_below r.1 in
        let c : ℕ = k.statement_copy p in
        let s : ℕ = k.statement_at p in
        let q = map_from (λ (n : ℕ). plain (k.statement_place c n) p) (nexts s (statement t s)) e r.2 in
        let g : Goes s (statement t s) q.0 = next_goes s (statement t s) q.0 q.1 in
        let u : StatementPlaced k c q.0 = placed t k fits c q.0 (goes_placed t k acc fits c s q.0 (place_at t k fits p l) g) in
        (k.statement_place c q.0, p, q.2, u.there, l, u.copy)

    outer_cases : (e : Edge) → Memᴰ e caller_edges
        → (p : ℕ) × (g : ℕ) × Calls p g × ((e ≡ plain p (k.statements + g)) ⊎ (e ≡ plain (k.statements + k.statement_copy p) (k.statements + g)))
    unfolding caller_edges callers
    outer_cases e m =
        let r = joined_from_lem 0 k.statements callers_at e m in
        go r.0 (within_below r.1) (Memᴰ.append_cases (call_from r.0 r.0) r.2)
      where
        one : (p z : ℕ) → p < k.statements → Memᴰ e (call_from p z)
            → Calls p (k.leads (k.statement_copy p) (k.statement_at p)) × (e ≡ plain z (k.statements + k.leads (k.statement_copy p) (k.statement_at p)))
        one p z l m = let o = list_from _ _ e m in ((l, (o.0, o.1, refl)), Memᴰ.eq_of_singleton o.2)

        go : (p : ℕ) → p < k.statements → Memᴰ e (call_from p p) ⊎ Memᴰ e (call_from p (callers k (k.statement_copy p)))
            → (p : ℕ) × (g : ℕ) × Calls p g × ((e ≡ plain p (k.statements + g)) ⊎ (e ≡ plain (k.statements + k.statement_copy p) (k.statements + g)))
        go p l (inl i) = let o = one p p l i in (p, k.leads (k.statement_copy p) (k.statement_at p), o.0, inl o.1)
        go p l (inr i) = let o = one p (callers k (k.statement_copy p)) l i in (p, k.leads (k.statement_copy p) (k.statement_at p), o.0, inr o.1)

    outer_place : (p g : ℕ) → Calls p g → Memᴰ (plain p (k.statements + g)) caller_edges
    unfolding caller_edges callers
    outer_place p g c =
        in_some callers_at p _ c.0 (Memᴰ.append_left _ (call_among p g c (λ h. plain p (k.statements + h) ∷ []) _ (Memᴰ.head refl)))

    outer_group : (p g : ℕ) → Calls p g → Memᴰ (plain (k.statements + k.statement_copy p) (k.statements + g)) caller_edges
    unfolding caller_edges callers
    outer_group p g c =
        in_some callers_at p _ c.0
        (Memᴰ.append_right (call_from p p) (call_among p g c (λ h. plain (k.statements + k.statement_copy p) (k.statements + h) ∷ []) _ (Memᴰ.head refl)))

    groups : Groups k.statements k.copies k.statement_copy Calls (future_edges t k) next_edges caller_edges
    groups = record {
      owner_there = λ p l. (fits.statement_there p l).copy;
      call_there = call_there;
      cases = cases;
      has_inner = has_next;
      has_owner = has_owner;
      has_call = has_call;
      within = within;
      outer_cases = outer_cases;
      outer_place = outer_place;
      outer_group = outer_group;
    }

    -- the futures are what the two stages leave
    pub futures_staged : (flow : List ℕ) → ((i : ℕ) → get_or flow i 0 < 2 ^ 64) → (effect : Bool → List ℕ) → ((w : Bool) (i : ℕ) → get_or (effect w) i 0 < 2 ^ 64)
        → (w : Bool) → staged k.statements k.copies k.statement_copy next_edges caller_edges (future_initials t k flow (effect w) w) ≡ futures t k flow (effect w) w
    unfolding futures
    futures_staged flow below effect effect_below w =
        staged_least k.statements k.copies k.statement_copy Calls (future_edges t k) next_edges caller_edges groups (future_initials t k flow (effect w) w)
        (starts_sets t k acc fits flow below effect effect_below w)
