-- The flow sets satisfy their rules, and are inside any that do. Assumes nothing.
use Prim.Native.Nat.{ℕ, ◌+◌, ◌^◌, ◌≤◌, ◌<◌}
use Rattle.std.specs.Prelude.{◌≡◌, Bool, true, false, cond, ◌⊎◌, eqb, length, get_or, Some}
use Rattle.std.proofs.Math.Path.{refl, subst}
use Rattle.std.proofs.Common.{sym, ap, ◌∙◌, inl, inr, arith, eqb-true, eq-eqb}
use Rattle.std.proofs.Math.Logic.{⊎_elim}
use mathlib.Core.List.{List, [], ◌∷◌, Memᴰ}
use Rattle.sets.specs.Set.{has, one}
use Rattle.sets.proofs.SetLaws.{has_one, one_below}
use Rattle.sets.specs.Least.{SetList, Edge, plain}
use Rattle.sets.proofs.LeastLaws.{least_sets, least_holds_start, least_edge, least_induction}
use Rattle.table.specs.Table.{Table, declaration, routine, statement, passed, OwnHandle}
use Rattle.table.specs.View.{view, On, list_on}
use Rattle.table.proofs.ViewLaws.{list_has, list_from}
use Rattle.table.specs.Accepted.{Accepted, Operands, Passes, Names, HandleFacts}
use Rattle.table.specs.declared.Arguments.{Arguments}
use Rattle.table.specs.declared.Statement.{Statement}
use Rattle.report.proofs.OverLaws.{Within, none_in, joined_has, joined_from_lem, below_within, within_below, tabulate_sets, tabulate_has, tabulate_from_lem}
use Rattle.report.specs.Layout.{Layout}
use Rattle.report.specs.Fits.{Fits, HandlePlaced, HandleThere, copies_of}
use Rattle.report.specs.Flow.{flow_at, start_of, passing, flow_edges, all_flow_edges, flow_initials, flow_sets}
use Rattle.report.proofs.PlaceLaws.{place_at, among_all, of_some, parameter_own}
use Rattle.report.specs.Rules.{Place, Passing, FlowRules}

-- thing x is in the flow set of handle h of copy c
abbrev pub FlowHas : Layout → List ℕ → ℕ → ℕ → ℕ → Type 0
FlowHas k flow c h x = has (flow_at k flow c h) x ≡ true

-- ---- where a local starts

start_below : (t : Table) → Accepted t → (h : ℕ) → h < length t.handles → (declaration t h).origin ≡ 1 → (declaration t h).start < 64
start_below t acc h l o = go f.kind_known
  where
    f : HandleFacts t h
    f = acc.handle h l

    go : ((declaration t h).kind ≡ 1) ⊎ ((declaration t h).kind ≡ 2) → (declaration t h).start < 64
    go (inl e) = let a : (declaration t h).start < t.cells = f.cell_there o e in let b : t.cells ≤ 64 = acc.cells_most in omega arith
    go (inr e) = let a : (declaration t h).start < t.locks = f.lock_there o e in let b : t.locks ≤ 16 = acc.locks_most in omega arith

start_has : (t : Table) (h : ℕ) → (declaration t h).start < 64 → (declaration t h).origin ≡ 1 → has (start_of t h) (declaration t h).start ≡ true
unfolding start_of
start_has t h l o = rw (o, has_one) (eq-eqb (declaration t h).start (declaration t h).start refl)

start_from : (t : Table) → Accepted t → (h x : ℕ) → h < length t.handles → has (start_of t h) x ≡ true
    → ((declaration t h).origin ≡ 1) × (x ≡ (declaration t h).start)
unfolding start_of
start_from t acc h x l e = go (eqb (declaration t h).origin 1) refl e
  where
    go : (b : Bool) → eqb (declaration t h).origin 1 ≡ b → has (cond b (one (declaration t h).start) 0) x ≡ true
        → ((declaration t h).origin ≡ 1) × (x ≡ (declaration t h).start)
    go true q e =
        let o : (declaration t h).origin ≡ 1 = eqb-true _ _ q in
        (o, eqb-true _ _ (sym (has_one (declaration t h).start x (start_below t acc h l o)) ∙ e))
    go false q e = none_in x e

start_of_below : (t : Table) (h : ℕ) → start_of t h < 2 ^ 64
unfolding start_of
start_of_below t h = go (eqb (declaration t h).origin 1)
  where
    go : (b : Bool) → cond b (one (declaration t h).start) 0 < 2 ^ 64
    go true = one_below (declaration t h).start
    go false = omega arith

-- what flow begins with is a list of sets, whatever the table
pub initials_sets : (t : Table) (k : Layout) → SetList k.handles (flow_initials t k)
unfolding flow_initials
initials_sets t k = tabulate_sets k.handles (λ p. start_of t (k.handle_at p)) (λ p. start_of_below t (k.handle_at p))

module _ (t : Table) (k : Layout) (acc : Accepted t) (fits : Fits t k) where
  pub flow_sets_lem : SetList k.handles (flow_sets t k)
  unfolding flow_sets
  flow_sets_lem = least_sets k.handles (all_flow_edges t k) (flow_initials t k) (initials_sets t k)

  -- ---- the edges of a statement

  abbrev point_edge : ℕ → ℕ → ℕ → Edge
  point_edge c g h = plain (k.handle_place c g) (k.handle_place c h)

  abbrev point_edges : ℕ → Statement → List Edge
  point_edges c σ = list_on (view σ).points (λ h. point_edge c (view σ).source h ∷ [])

  abbrev passing_edges : ℕ → ℕ → Statement → List Edge
  passing_edges c s σ = list_on (view σ).names (λ q. passing t k c (k.leads c s) q (view σ).arguments)

  operands_at : (c s : ℕ) → Place (copies_of fits) c s → Operands t (k.routine_of c) (statement t s)
  operands_at c s w = acc.operands (k.routine_of c) s (fits.of_there c w.there) w.inside

  -- ---- the rules

  module _ (c s : ℕ) (w : Place (copies_of fits) c s) where
    carries : (e : Edge) → Memᴰ e (flow_edges t k c s (statement t s)) → e.to < k.handles → (x : ℕ)
        → has (get_or (flow_sets t k) e.from 0) x ≡ true → has (get_or (flow_sets t k) e.also 0) x ≡ true → has (get_or (flow_sets t k) e.to 0) x ≡ true
    unfolding flow_sets all_flow_edges
    carries e m l x h b =
        least_edge k.handles (all_flow_edges t k) (flow_initials t k) (initials_sets t k) e
        (among_all t k fits (λ p d z τ. flow_edges t k d z τ) e c s w (statement t s) refl m) l x h b

    parameter_placed : (q j : ℕ) → Names (statement t s) q → j < (routine t q).parameters → HandlePlaced k (k.leads c s) ((routine t q).handle + j)
    parameter_placed q j n l =
        let e : k.routine_of (k.leads c s) ≡ q = fits.leads_of c s q w.there w.inside n in
        let d : k.leads c s < k.copies = fits.leads_there c s q w.there w.inside n in
        fits.handle_placed (k.leads c s) ((routine t q).handle + j) d
        (subst (λ (r : ℕ). OwnHandle t r ((routine t q).handle + j)) (sym e)
        (parameter_own t k fits acc q j (subst (λ (r : ℕ). r < length t.routines) e (fits.of_there (k.leads c s) d)) l))

    point_rule : (h : ℕ) → (view (statement t s)).points ≡ Some h → (x : ℕ) → FlowHas k (flow_sets t k) c (view (statement t s)).source x → FlowHas k (flow_sets t k) c h x
    unfolding flow_edges
    point_rule h e x b =
        carries (plain (k.handle_place c (view (statement t s)).source) (k.handle_place c h))
        (mathlib.Core.List.Memᴰ.append_left (passing_edges c s (statement t s))
        (list_has (view (statement t s)).points (λ g. point_edge c (view (statement t s)).source g ∷ []) _ e (mathlib.Core.List.Memᴰ.head refl)))
        (fits.handle_placed c h w.there ((operands_at c s w).points h e).0).there x b b

    passing_rule : (q : ℕ) → Names (statement t s) q → Passing (copies_of fits) (FlowHas k (flow_sets t k)) c s q (view (statement t s)).arguments
    unfolding flow_edges passing
    passing_rule q n j x l h =
        carries (plain (k.handle_place c (get_or (passed (view (statement t s)).arguments) j 0)) (k.handle_place (k.leads c s) ((routine t q).handle + j)))
        (mathlib.Core.List.Memᴰ.append_right (point_edges c (statement t s))
        (list_has (view (statement t s)).names (λ r. passing t k c (k.leads c s) r (view (statement t s)).arguments) _ n
        (joined_has 0 (routine t q).parameters _ j _ (below_within l) (mathlib.Core.List.Memᴰ.head refl))))
        (parameter_placed q j n l).there x h h

  starts : (p : ℕ) → p < k.handles → (x : ℕ) → has (start_of t (k.handle_at p)) x ≡ true → has (get_or (flow_sets t k) p 0) x ≡ true
  unfolding flow_sets flow_initials
  starts p l x h =
      (least_holds_start k.handles (all_flow_edges t k) (flow_initials t k) (initials_sets t k)).at p x (tabulate_has k.handles (λ p. start_of t (k.handle_at p)) p x l h)

  pub flow_rules : FlowRules (copies_of fits) (FlowHas k (flow_sets t k))
  flow_rules = record {
    local = λ c h l o e.
        let v : HandlePlaced k c h = fits.handle_placed c h l o in
        starts (k.handle_place c h) v.there (declaration t h).start
        (ap (λ (z : ℕ). has (start_of t z) (declaration t h).start) v.same ∙ start_has t h (start_below t acc h o.there e) e);
    point = λ c s h w e. point_rule c s w h e;
    passing = λ c s q w n. passing_rule c s w q n;
  }

  -- ---- the least

  module _ (other : ℕ → ℕ → ℕ → Type 0) (rules : FlowRules (copies_of fits) other) where
    abbrev At : ℕ → ℕ → Type 0
    At p x = other (k.handle_copy p) (k.handle_at p) x

    to_pair : (c h x : ℕ) → HandlePlaced k c h → At (k.handle_place c h) x → other c h x
    to_pair c h x v a = subst (λ (z : ℕ). other c z x) v.same (subst (λ (d : ℕ). other d (k.handle_at (k.handle_place c h)) x) v.copy a)

    of_pair : (c h x : ℕ) → HandlePlaced k c h → other c h x → At (k.handle_place c h) x
    of_pair c h x v a =
        subst (λ (d : ℕ). other d (k.handle_at (k.handle_place c h)) x) (sym v.copy) (subst (λ (z : ℕ). other c z x) (sym v.same) a)

    module _ (c s : ℕ) (w : Place (copies_of fits) c s) where
      passes_on : (q : ℕ) (a : Arguments) → Names (statement t s) q → Passes t (k.routine_of c) q a → Passing (copies_of fits) other c s q a
          → (e : Edge) → Memᴰ e (passing t k c (k.leads c s) q a) → (x : ℕ) → At e.from x → At e.to x
      unfolding passing
      passes_on q a n ok f e m x h =
          let r : (j : ℕ) × Within 0 (routine t q).parameters j
          × Memᴰ e (plain (k.handle_place c (get_or (passed a) j 0)) (k.handle_place (k.leads c s) ((routine t q).handle + j)) ∷ []) =
          joined_from_lem 0 (routine t q).parameters _ e m in
          let j : ℕ = r.0 in
          let l : j < (routine t q).parameters = within_below r.1 in
          let q1 : e ≡ plain (k.handle_place c (get_or (passed a) j 0)) (k.handle_place (k.leads c s) ((routine t q).handle + j)) =
          mathlib.Core.List.Memᴰ.eq_of_singleton r.2 in
          subst (λ (d : Edge). At d.to x) (sym q1)
          (of_pair (k.leads c s) ((routine t q).handle + j) x (parameter_placed c s w q j n l)
          (f j x l (to_pair c (get_or (passed a) j 0) x (fits.handle_placed c (get_or (passed a) j 0) w.there (ok.argument j l).own)
          (subst (λ (d : Edge). At d.from x) q1 h))))

      along_point : (e : Edge) → Memᴰ e (point_edges c (statement t s)) → (x : ℕ) → At e.from x → At e.to x
      along_point e m x a =
          let o : On (view (statement t s)).points (λ h. Memᴰ e (point_edge c (view (statement t s)).source h ∷ [])) =
          list_from (view (statement t s)).points (λ h. point_edge c (view (statement t s)).source h ∷ []) e m in
          let own = (operands_at c s w).points o.0 o.1 in
          let q1 : e ≡ point_edge c (view (statement t s)).source o.0 = mathlib.Core.List.Memᴰ.eq_of_singleton o.2 in
          subst (λ (d : Edge). At d.to x) (sym q1)
          (of_pair c o.0 x (fits.handle_placed c o.0 w.there own.0)
          (rules.point c s o.0 w o.1 x
          (to_pair c (view (statement t s)).source x (fits.handle_placed c (view (statement t s)).source w.there own.1) (subst (λ (d : Edge). At d.from x) q1 a))))

      along_passing : (e : Edge) → Memᴰ e (passing_edges c s (statement t s)) → (x : ℕ) → At e.from x → At e.to x
      along_passing e m x a =
          let o : On (view (statement t s)).names (λ q. Memᴰ e (passing t k c (k.leads c s) q (view (statement t s)).arguments)) =
          list_from (view (statement t s)).names (λ q. passing t k c (k.leads c s) q (view (statement t s)).arguments) e m in
          passes_on o.0 (view (statement t s)).arguments o.1 ((operands_at c s w).passes o.0 o.1) (rules.passing c s o.0 w o.1) e o.2 x a

      goes_along : (e : Edge) → Memᴰ e (flow_edges t k c s (statement t s)) → (x : ℕ) → At e.from x → At e.to x
      unfolding flow_edges
      goes_along e m x a = ⊎_elim (λ i. along_point e i x a) (λ i. along_passing e i x a) (mathlib.Core.List.Memᴰ.append_cases (point_edges c (statement t s)) m)

    everywhere : (p x : ℕ) → has (get_or (flow_sets t k) p 0) x ≡ true → At p x
    unfolding flow_sets all_flow_edges flow_initials
    everywhere =
        least_induction k.handles (all_flow_edges t k) (flow_initials t k) (initials_sets t k) At
        (λ e m l x a b.
        let r : (p : ℕ) × (p < k.statements) × Memᴰ e (flow_edges t k (k.statement_copy p) (k.statement_at p) (statement t (k.statement_at p))) =
        of_some t k fits (λ p d z τ. flow_edges t k d z τ) e m in
        let w : Place (copies_of fits) (k.statement_copy r.0) (k.statement_at r.0) = place_at t k fits r.0 r.1 in
        goes_along _ _ w e r.2 x a)
        (λ p x h.
        let r : (p < k.handles) × (has (start_of t (k.handle_at p)) x ≡ true) = tabulate_from_lem k.handles (λ p. start_of t (k.handle_at p)) p x h in
        let v : HandleThere t k p = fits.handle_there p r.0 in
        let d : ((declaration t (k.handle_at p)).origin ≡ 1) × (x ≡ (declaration t (k.handle_at p)).start) = start_from t acc (k.handle_at p) x v.own.there r.1 in
        subst (λ (y : ℕ). At p y) (sym d.1) (rules.local (k.handle_copy p) (k.handle_at p) v.copy v.own d.0))

    -- inside any sets that satisfy the rules
    pub flow_least : (c h x : ℕ) → c < k.copies → OwnHandle t (k.routine_of c) h → FlowHas k (flow_sets t k) c h x → other c h x
    flow_least c h x l o a = to_pair c h x (fits.handle_placed c h l o) (everywhere (k.handle_place c h) x a)
