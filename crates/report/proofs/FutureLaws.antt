-- The futures satisfy their rules, and are inside any sets that do. Assumes nothing.
use Prim.Native.Nat.{ℕ, ◌+◌, ◌^◌, ◌<◌}
use Rattle.std.specs.Prelude.{◌≡◌, Bool, ◌⊎◌, ltb, Some}
use Rattle.std.proofs.Math.Path.{refl, subst}
use Rattle.std.proofs.Common.{sym, inl, inr, ltb-true, lt-ltb}
use Rattle.std.proofs.Math.Bool.{true, false, cond}
use mathlib.Core.List.{List, [], ◌∷◌, ◌++◌, map, Memᴰ}
use native.Mathlib.Omega.{arith}
use Rattle.std.proofs.Math.ListN.{get_or}
use Rattle.sets.specs.Set.{has}
use Rattle.sets.proofs.SetLaws.{union_below}
use Rattle.sets.specs.Least.{SetList, Edge, plain}
use Rattle.sets.proofs.LeastLaws.{least_sets, least_holds_start, least_edge, least_induction}
use Rattle.table.specs.Table.{Table, statement}
use Rattle.table.specs.View.{view, On, list_on, calls}
use Rattle.table.proofs.ViewLaws.{set_below, list_has, list_from}
use Rattle.table.specs.Accepted.{Accepted}
use Rattle.table.specs.declared.Statement.{Statement}
use Rattle.report.specs.Over.{union_at}
use Rattle.report.proofs.OverLaws.{none_in, union_at_has, union_at_from, union_at_below, tabulate_sets, tabulate_has, tabulate_from_lem}
use Rattle.report.specs.Layout.{Layout}
use Rattle.report.specs.Fits.{Fits, StatementPlaced, copies_of}
use Rattle.report.specs.Operations.{nexts}
use Rattle.report.specs.Flow.{flow_at}
use Rattle.report.proofs.FlowLaws.{FlowHas}
use Rattle.report.specs.Effect.{effect_of}
use Rattle.report.proofs.EffectLaws.{EffectHas, accessed_below, effect_does, does_effect}
use Rattle.report.specs.Future.{callers, next_effects, future_edges, future_initials, futures}
use Rattle.report.proofs.NextLaws.{goes_next, next_goes, goes_placed, map_has, map_from}
use Rattle.report.proofs.PlaceLaws.{placed, place_at, at_placed, among_all, of_some}
use Rattle.report.specs.Rules.{Place, Goes, Does, FutureRules}

-- cell x is in the future of statement s of copy c
abbrev pub FutureHas : Layout → (Bool → List ℕ) → ℕ → ℕ → Bool → ℕ → Type 0
FutureHas k future c s w x = has (get_or (future w) (k.statement_place c s) 0) x ≡ true

module _ (t : Table) (k : Layout) (acc : Accepted t) (fits : Fits t k) (flow : List ℕ) (below : (i : ℕ) → get_or flow i 0 < 2 ^ 64)
    (effect : Bool → List ℕ) (effect_below : (w : Bool) (i : ℕ) → get_or (effect w) i 0 < 2 ^ 64) where
  abbrev start_at : Bool → ℕ → ℕ
  start_at w p = cond (ltb p k.statements) (next_effects t k flow (effect w) w (k.statement_copy p) (k.statement_at p)) 0

  effect_of_below : (w : Bool) (c s : ℕ) → effect_of t k flow (effect w) w c s < 2 ^ 64
  unfolding effect_of
  effect_of_below w c s =
      union_below 64 (accessed_below (flow_at k flow c) (λ h. below (k.handle_place c h)) w (statement t s))
      (set_below (view (statement t s)).names (λ q. get_or (effect w) (k.leads c s) 0) (λ q. effect_below w (k.leads c s)))

  start_at_below : (w : Bool) (p : ℕ) → start_at w p < 2 ^ 64
  unfolding next_effects
  start_at_below w p = go (ltb p k.statements)
    where
      go : (b : Bool) → cond b (next_effects t k flow (effect w) w (k.statement_copy p) (k.statement_at p)) 0 < 2 ^ 64
      go true = union_at_below (nexts (k.statement_at p) (statement t (k.statement_at p))) _ (effect_of_below w (k.statement_copy p))
      go false = omega arith

  pub starts_sets : (w : Bool) → SetList (k.statements + k.copies) (future_initials t k flow (effect w) w)
  unfolding future_initials
  starts_sets w = tabulate_sets (k.statements + k.copies) (start_at w) (start_at_below w)

  pub futures_sets : (w : Bool) → SetList (k.statements + k.copies) (futures t k flow (effect w) w)
  unfolding futures
  futures_sets w = least_sets (k.statements + k.copies) (future_edges t k) (future_initials t k flow (effect w) w) (starts_sets w)

  -- the edges that a statement makes
  abbrev next_edges : ℕ → ℕ → ℕ → Statement → List Edge
  next_edges p c s σ = map (λ (n : ℕ). plain (k.statement_place c n) p) (nexts s σ)

  abbrev call_edges : ℕ → ℕ → ℕ → Statement → List Edge
  call_edges p c s σ = list_on (calls (view σ)) (λ q. plain p (callers k (k.leads c s)) ∷ [])

  abbrev edges_at : ℕ → ℕ → ℕ → Statement → List Edge
  edges_at p c s σ = next_edges p c s σ ++ (plain (callers k c) p ∷ call_edges p c s σ)

  along : (w : Bool) (c s : ℕ) → Place (copies_of fits) c s → (e : Edge)
      → Memᴰ e (edges_at (k.statement_place c s) c s (statement t s)) → e.to < k.statements + k.copies → (x : ℕ)
      → has (get_or (futures t k flow (effect w) w) e.from 0) x ≡ true → has (get_or (futures t k flow (effect w) w) e.also 0) x ≡ true
      → has (get_or (futures t k flow (effect w) w) e.to 0) x ≡ true
  unfolding futures future_edges
  along w c s v e m l x h b =
      least_edge (k.statements + k.copies) (future_edges t k) (future_initials t k flow (effect w) w) (starts_sets w) e
      (among_all t k fits edges_at e c s v (statement t s) refl m) l x h b

  -- ---- the rules

  abbrev Future : ℕ → ℕ → Bool → ℕ → Type 0
  Future = FutureHas k (λ w. futures t k flow (effect w) w)

  place_below : (c s : ℕ) → Place (copies_of fits) c s → k.statement_place c s < k.statements + k.copies
  place_below c s v = let l : k.statement_place c s < k.statements = (placed t k fits c s v).there in omega arith

  at_next : (c s s' : ℕ) (w : Bool) (x : ℕ) → Place (copies_of fits) c s → Goes s (statement t s) s'
      → Does (copies_of fits) (FlowHas k flow) (EffectHas effect) c s' (statement t s') w x → Future c s w x
  unfolding futures future_initials next_effects
  at_next c s s' w x v g d =
      (least_holds_start (k.statements + k.copies) (future_edges t k) (future_initials t k flow (effect w) w) (starts_sets w)).at (k.statement_place c s) x
      (tabulate_has (k.statements + k.copies) (start_at w) (k.statement_place c s) x (place_below c s v)
      (rw (lt-ltb (k.statement_place c s) k.statements (placed t k fits c s v).there)
      (at_placed t k fits (λ p b z τ. has (union_at (nexts z τ) (effect_of t k flow (effect w) w b)) x ≡ true) c s v (statement t s) refl
      (union_at_has (nexts s (statement t s)) (effect_of t k flow (effect w) w c) s' x (goes_next s (statement t s) s' g)
      (does_effect t k fits flow below effect c s' w x d)))))

  at_later : (c s s' : ℕ) (w : Bool) (x : ℕ) → Place (copies_of fits) c s → Goes s (statement t s) s' → Future c s' w x → Future c s w x
  at_later c s s' w x v g a =
      along w c s v (plain (k.statement_place c s') (k.statement_place c s))
      (mathlib.Core.List.Memᴰ.append_left (plain (callers k c) (k.statement_place c s) ∷ call_edges (k.statement_place c s) c s (statement t s)) (map_has (λ (n : ℕ). plain (k.statement_place c n) (k.statement_place c s)) _ s' (goes_next s (statement t s) s' g)))
      (place_below c s v) x a a

  of_callers : (c s z : ℕ) (w : Bool) (x q : ℕ) → Place (copies_of fits) c s → calls (view (statement t s)) ≡ Some q
      → Place (copies_of fits) (k.leads c s) z → Future c s w x → Future (k.leads c s) z w x
  unfolding callers
  of_callers c s z w x q v e u f =
      let at_callers : has (get_or (futures t k flow (effect w) w) (callers k (k.leads c s)) 0) x ≡ true =
      along w c s v (plain (k.statement_place c s) (callers k (k.leads c s)))
      (mathlib.Core.List.Memᴰ.append_right (next_edges (k.statement_place c s) c s (statement t s))
      (mathlib.Core.List.Memᴰ.tail (list_has (calls (view (statement t s))) (λ r. plain (k.statement_place c s) (callers k (k.leads c s)) ∷ []) _ e (mathlib.Core.List.Memᴰ.head refl))))
      (let l : k.leads c s < k.copies = u.there in omega arith) x f f in
      along w (k.leads c s) z u (plain (callers k (k.leads c s)) (k.statement_place (k.leads c s) z))
      (mathlib.Core.List.Memᴰ.append_right (next_edges (k.statement_place (k.leads c s) z) (k.leads c s) z (statement t z)) (mathlib.Core.List.Memᴰ.head refl))
      (place_below (k.leads c s) z u) x at_callers at_callers

  pub future_rules : FutureRules (copies_of fits) (FlowHas k flow) (EffectHas effect) Future
  future_rules = record {
    next = λ c s s' w x v u g d. at_next c s s' w x v g d;
    later = λ c s s' w x v u g a. at_later c s s' w x v g a;
    callers = of_callers;
  }

  -- ---- the least

  module _ (other : ℕ → ℕ → Bool → ℕ → Type 0) (rules : FutureRules (copies_of fits) (FlowHas k flow) (EffectHas effect) other) (w : Bool) where
    -- what a place says: the future of its statement, or of every statement of its copy
    record Ahead (p x : ℕ) : Type 0 where
      here : p < k.statements → other (k.statement_copy p) (k.statement_at p) w x
      every : (c z : ℕ) → p ≡ callers k c → Place (copies_of fits) c z → other c z w x

    statement_ahead : (p x : ℕ) → p < k.statements → other (k.statement_copy p) (k.statement_at p) w x → Ahead p x
    unfolding callers
    statement_ahead p x l a = record { here = λ m. a; every = λ c z e v. absurd (omega arith) }

    of_pair : (c s x : ℕ) → Place (copies_of fits) c s → Ahead (k.statement_place c s) x → other c s w x
    of_pair c s x v a =
        let u : StatementPlaced k c s = placed t k fits c s v in
        subst (λ (z : ℕ). other c z w x) u.same (subst (λ (d : ℕ). other d (k.statement_at (k.statement_place c s)) w x) u.copy (a.here u.there))

    called : (c s q : ℕ) → Place (copies_of fits) c s → calls (view (statement t s)) ≡ Some q → (x : ℕ) → other c s w x → Ahead (callers k (k.leads c s)) x
    unfolding callers
    called c s q v e x o = record {
      here = λ l. absurd (omega arith);
      every = λ d z i u.
          let j : k.leads c s ≡ d = omega arith in
          subst (λ (d : ℕ). other d z w x) j
          (rules.callers c s z w x q v e (subst (λ (d : ℕ). Place (copies_of fits) d z) (sym j) u) o);
    }

    up : (p c s : ℕ) → Place (copies_of fits) c s → (e : Edge) → Memᴰ e (call_edges p c s (statement t s)) → (x : ℕ)
        → (Ahead p x → other c s w x) → Ahead e.from x → Ahead e.to x
    up p c s v e m x f a =
        let o : On (calls (view (statement t s))) (λ q. Memᴰ e (plain p (callers k (k.leads c s)) ∷ [])) =
        list_from (calls (view (statement t s))) (λ q. plain p (callers k (k.leads c s)) ∷ []) e m in
        let i : e ≡ plain p (callers k (k.leads c s)) = mathlib.Core.List.Memᴰ.eq_of_singleton o.2 in
        subst (λ (d : Edge). Ahead d.to x) (sym i) (called c s o.0 v o.1 x (f (subst (λ (d : Edge). Ahead d.from x) i a)))

    goes_along : (p : ℕ) → p < k.statements → (e : Edge)
        → Memᴰ e (edges_at p (k.statement_copy p) (k.statement_at p) (statement t (k.statement_at p))) → (x : ℕ) → Ahead e.from x → Ahead e.to x
    goes_along p l e m x a = go (mathlib.Core.List.Memᴰ.append_cases (next_edges p c s (statement t s)) m)
      where
        c : ℕ
        c = k.statement_copy p

        s : ℕ
        s = k.statement_at p

        v : Place (copies_of fits) c s
        v = place_at t k fits p l

        rest : Memᴰ e (plain (callers k c) p ∷ call_edges p c s (statement t s)) → Ahead e.to x
        rest (mathlib.Core.List.Memᴰ.head i) =
            subst (λ (d : Edge). Ahead d.to x) (sym i)
            (statement_ahead p x l ((subst (λ (d : Edge). Ahead d.from x) i a).every c s refl v))
        rest (mathlib.Core.List.Memᴰ.tail m) = up p c s v e m x (λ b. b.here l) a

        go : Memᴰ e (next_edges p c s (statement t s)) ⊎ Memᴰ e (plain (callers k c) p ∷ call_edges p c s (statement t s))
            → Ahead e.to x
        go (inl m) =
            let r : (n : ℕ) × Memᴰ n (nexts s (statement t s)) × (e ≡ plain (k.statement_place c n) p) =
            map_from (λ (n : ℕ). plain (k.statement_place c n) p) (nexts s (statement t s)) e m in
            let g : Goes s (statement t s) r.0 = next_goes s (statement t s) r.0 r.1 in
            let u : Place (copies_of fits) c r.0 = goes_placed t k acc fits c s r.0 v g in
            subst (λ (d : Edge). Ahead d.to x) (sym r.2)
            (statement_ahead p x l (rules.later c s r.0 w x v u g (of_pair c r.0 x u (subst (λ (d : Edge). Ahead d.from x) r.2 a))))
        go (inr m) = rest m

    starts_ahead : (p x : ℕ) → p < k.statements → has (next_effects t k flow (effect w) w (k.statement_copy p) (k.statement_at p)) x ≡ true → Ahead p x
    unfolding next_effects
    starts_ahead p x l h =
        let c : ℕ = k.statement_copy p in
        let s : ℕ = k.statement_at p in
        let v : Place (copies_of fits) c s = place_at t k fits p l in
        let r : (n : ℕ) × Memᴰ n (nexts s (statement t s)) × (has (effect_of t k flow (effect w) w c n) x ≡ true) =
        union_at_from (nexts s (statement t s)) (effect_of t k flow (effect w) w c) x h in
        let g : Goes s (statement t s) r.0 = next_goes s (statement t s) r.0 r.1 in
        statement_ahead p x l
        (rules.next c s r.0 w x v (goes_placed t k acc fits c s r.0 v g) g
        (effect_does t k fits flow below effect c r.0 w x r.2))

    from_start : (p x : ℕ) → has (start_at w p) x ≡ true → Ahead p x
    from_start p x h = go (ltb p k.statements) refl h
      where
        go : (b : Bool) → ltb p k.statements ≡ b
            → has (cond b (next_effects t k flow (effect w) w (k.statement_copy p) (k.statement_at p)) 0) x ≡ true → Ahead p x
        go true e h = starts_ahead p x (ltb-true p k.statements e) h
        go false e h = none_in x h

    everywhere : (p x : ℕ) → has (get_or (futures t k flow (effect w) w) p 0) x ≡ true → Ahead p x
    unfolding futures future_edges future_initials
    everywhere =
        least_induction (k.statements + k.copies) (future_edges t k) (future_initials t k flow (effect w) w) (starts_sets w) Ahead
        (λ e m l x a b.
        let r : (p : ℕ) × (p < k.statements) × Memᴰ e (edges_at p (k.statement_copy p) (k.statement_at p) (statement t (k.statement_at p))) =
        of_some t k fits edges_at e m in
        goes_along r.0 r.1 e r.2 x a)
        (λ p x h. from_start p x (tabulate_from_lem (k.statements + k.copies) (start_at w) p x h).1)

    -- inside any sets that satisfy the rules
    pub future_least : (c s x : ℕ) → Place (copies_of fits) c s → FutureHas k (λ v. futures t k flow (effect v) v) c s w x → other c s w x
    future_least c s x v a = of_pair c s x v (everywhere (k.statement_place c s) x a)
