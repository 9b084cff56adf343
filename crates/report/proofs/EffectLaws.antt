-- The effects, and the locks that a routine may give up, satisfy their rules, and are inside any sets that do. Assumes nothing.
use Rattle.std.specs.Prelude.{ℕ, ◌^◌, ◌<◌, ◌≡◌, Bool, true, Option, Some}
use Rattle.std.proofs.Math.Path.{refl}
use Rattle.std.proofs.Common.{sym, ap, ◌∙◌, subst}
use Rattle.std.proofs.Math.Logic.{inl, inr}
use mathlib.Core.List.{List, [], ◌∷◌, Memᴰ}
use Rattle.std.proofs.Math.ListN.{get_or}
use Rattle.sets.specs.Set.{has}
use Rattle.sets.proofs.SetLaws.{has_union_left, has_union_right, union_cases}
use Rattle.sets.specs.Least.{SetList, Edge, plain, least}
use Rattle.sets.proofs.LeastLaws.{least_sets, least_holds_start, least_edge, least_induction}
use Rattle.table.specs.Table.{Table, routine, statement}
use Rattle.table.specs.Tabulate.{tabulate}
use Rattle.table.specs.View.{view, On, set_on, list_on, accesses, calls}
use Rattle.table.proofs.ViewLaws.{set_has, set_from, set_below, list_has, list_from}
use Rattle.table.specs.declared.Statement.{Statement}
use Rattle.table.specs.declared.View.{View}
use Rattle.report.proofs.OverLaws.{Within, union_has, union_from_lem, union_from_below, tabulate_sets, tabulate_has, tabulate_from_lem}
use Rattle.report.specs.Over.{joined_from}
use Rattle.report.specs.Layout.{Layout}
use Rattle.report.specs.Fits.{Fits, copies_of}
use Rattle.report.specs.Operations.{accessed, given}
use Rattle.report.specs.Flow.{flow_at}
use Rattle.report.proofs.FlowLaws.{FlowHas}
use Rattle.report.specs.Effect.{over_copy, up_from, naming_edges, call_edges, effects, gives, effect_of}
use Rattle.report.proofs.PlaceLaws.{place_at, among_all, of_some}
use Rattle.report.specs.Rules.{Place, GivesRules, Accesses, Does, EffectRules}

-- lock x is one that copy c may give up; cell x is in the effect of copy c
abbrev pub GivesHas : List ℕ → ℕ → ℕ → Type 0
GivesHas gives c x = has (get_or gives c 0) x ≡ true

abbrev pub EffectHas : (Bool → List ℕ) → ℕ → Bool → ℕ → Type 0
EffectHas effect c w x = has (get_or (effect w) c 0) x ≡ true

-- ---- sets of copies: what the statements of a copy have, and what goes up along edges

module _ (t : Table) (k : Layout) (fits : Fits t k) (own : ℕ → Statement → ℕ) (below : (c : ℕ) (σ : Statement) → own c σ < 2 ^ 64) (es : List Edge) where
  abbrev owns : List ℕ
  owns = tabulate k.copies (λ c. over_copy t k (λ s. own c (statement t s)) c)

  owns_sets : SetList k.copies owns
  unfolding over_copy
  owns_sets = tabulate_sets k.copies _ (λ c. union_from_below _ _ _ (λ s. below c (statement t s)))

  up_sets : SetList k.copies (least es owns)
  up_sets = least_sets k.copies es owns owns_sets

  own_has : (c s : ℕ) → Place (copies_of fits) c s → (σ : Statement) → statement t s ≡ σ → (x : ℕ) → has (own c σ) x ≡ true
      → has (get_or (least es owns) c 0) x ≡ true
  unfolding over_copy
  own_has c s w σ e x h =
      (least_holds_start k.copies es owns owns_sets).at c x
      (tabulate_has k.copies (λ c. over_copy t k (λ s. own c (statement t s)) c) c x w.there
      (union_has _ _ (λ s. own c (statement t s)) s x (record { low = w.inside.low; high = w.inside.high }) (ap (λ (τ : Statement). has (own c τ) x) e ∙ h)))

  up_edge : (c s : ℕ) → c < k.copies → Memᴰ (plain (k.leads c s) c) es → (x : ℕ)
      → has (get_or (least es owns) (k.leads c s) 0) x ≡ true → has (get_or (least es owns) c 0) x ≡ true
  up_edge c s l m x h = least_edge k.copies es owns owns_sets (plain (k.leads c s) c) m l x h h

  up_induction : (P : ℕ → ℕ → Type 0) → ((e : Edge) → Memᴰ e es → (x : ℕ) → P e.from x → P e.to x)
      → ((c s : ℕ) → Place (copies_of fits) c s → (x : ℕ) → has (own c (statement t s)) x ≡ true → P c x)
      → (c x : ℕ) → has (get_or (least es owns) c 0) x ≡ true → P c x
  unfolding over_copy
  up_induction P f g =
      least_induction k.copies es owns owns_sets P (λ e m l x h b. f e m x h)
      (λ c x h.
      let r : (c < k.copies) × (has (over_copy t k (λ s. own c (statement t s)) c) x ≡ true) =
      tabulate_from_lem k.copies (λ c. over_copy t k (λ s. own c (statement t s)) c) c x h in
      let q : (s : ℕ) × Within (routine t (k.routine_of c)).first (routine t (k.routine_of c)).count s × (has (own c (statement t s)) x ≡ true) =
      union_from_lem _ _ (λ s. own c (statement t s)) x r.1 in
      g c q.0 (record { there = r.0; inside = record { low = q.1.low; high = q.1.high } }) x q.2)

-- ---- what a statement has itself is a set

module _ (flow : ℕ → ℕ) (below : (h : ℕ) → flow h < 2 ^ 64) where
  given_below : (σ : Statement) → given flow σ < 2 ^ 64
  unfolding given
  given_below σ = set_below (view σ).gives flow below

  pub accessed_below : (w : Bool) (σ : Statement) → accessed w flow σ < 2 ^ 64
  unfolding accessed
  accessed_below w σ = set_below (accesses w (view σ)) flow below

-- ---- up from the copies that statements name

-- from the copy that a statement leads to, if an attribute of it refers to a routine
abbrev up_by : Layout → (View → Option ℕ) → ℕ → ℕ → ℕ → Statement → List Edge
up_by k attribute p c s σ = list_on (attribute (view σ)) (λ q. plain (k.leads c s) c ∷ [])

module _ (t : Table) (k : Layout) (fits : Fits t k) (attribute : View → Option ℕ) where
  abbrev all_up : List Edge
  all_up = joined_from 0 k.statements (λ p. up_by k attribute p (k.statement_copy p) (k.statement_at p) (statement t (k.statement_at p)))

  up_among : (c s q : ℕ) → Place (copies_of fits) c s → attribute (view (statement t s)) ≡ Some q → Memᴰ (plain (k.leads c s) c) all_up
  up_among c s q w e =
      among_all t k fits (up_by k attribute) _ c s w (statement t s) refl
      (list_has (attribute (view (statement t s))) (λ r. plain (k.leads c s) c ∷ []) _ e (mathlib.Core.List.Memᴰ.head refl))

  -- what goes up from every copy that a statement leads to so, goes along every edge
  up_along : (P : ℕ → ℕ → Type 0)
      → ((c s q : ℕ) → Place (copies_of fits) c s → attribute (view (statement t s)) ≡ Some q → (x : ℕ) → P (k.leads c s) x → P c x)
      → (e : Edge) → Memᴰ e all_up → (x : ℕ) → P e.from x → P e.to x
  up_along P f e m x a =
      let r = of_some t k fits (up_by k attribute) e m in
      let c : ℕ = k.statement_copy r.0 in
      let s : ℕ = k.statement_at r.0 in
      let o : On (attribute (view (statement t s))) (λ q. Memᴰ e (plain (k.leads c s) c ∷ [])) =
      list_from (attribute (view (statement t s))) (λ q. plain (k.leads c s) c ∷ []) e r.2 in
      let i : e ≡ plain (k.leads c s) c = mathlib.Core.List.Memᴰ.eq_of_singleton o.2 in
      subst (λ (d : Edge). P d.to x) (sym i) (f c s o.0 (place_at t k fits r.0 r.1) o.1 x (subst (λ (d : Edge). P d.from x) i a))

module _ (t : Table) (k : Layout) (fits : Fits t k) (flow : List ℕ) (below : (i : ℕ) → get_or flow i 0 < 2 ^ 64) where
  -- ---- gives

  abbrev given_of : ℕ → Statement → ℕ
  given_of c σ = given (flow_at k flow c) σ

  given_of_below : (c : ℕ) (σ : Statement) → given_of c σ < 2 ^ 64
  given_of_below c σ = given_below (flow_at k flow c) (λ h. below (k.handle_place c h)) σ

  pub gives_rules : GivesRules (copies_of fits) (FlowHas k flow) (GivesHas (gives t k flow))
  unfolding gives given call_edges up_from
  gives_rules = record {
    by_give = λ c s x h w e a.
        own_has t k fits given_of given_of_below (call_edges t k) c s w (statement t s) refl x (set_has (view (statement t s)).gives (flow_at k flow c) x e a);
    by_call = λ c s x q w e g.
        up_edge t k fits given_of given_of_below (call_edges t k) c s w.there (up_among t k fits calls c s q w e) x g;
  }

  module _ (other : ℕ → ℕ → Type 0) (rules : GivesRules (copies_of fits) (FlowHas k flow) other) where
    by_given : (c s : ℕ) → Place (copies_of fits) c s → (x : ℕ) → has (given_of c (statement t s)) x ≡ true → other c x
    unfolding given
    by_given c s w x a = let o = set_from (view (statement t s)).gives (flow_at k flow c) x a in rules.by_give c s x o.0 w o.1 o.2

    -- inside any sets that satisfy the rules
    pub gives_least : (c x : ℕ) → GivesHas (gives t k flow) c x → other c x
    unfolding gives call_edges up_from
    gives_least =
        up_induction t k fits given_of given_of_below (call_edges t k) other
        (up_along t k fits calls other (λ c s q w e x a. rules.by_call c s x q w e a)) by_given

  -- ---- effects

  abbrev access_of : Bool → ℕ → Statement → ℕ
  access_of w c σ = accessed w (flow_at k flow c) σ

  access_of_below : (w : Bool) (c : ℕ) (σ : Statement) → access_of w c σ < 2 ^ 64
  access_of_below w c σ = accessed_below (flow_at k flow c) (λ h. below (k.handle_place c h)) w σ

  -- ---- what a statement accesses, as a set and by the rule

  module _ (c : ℕ) (w : Bool) (x : ℕ) (σ : Statement) where
    pub accessed_accesses : has (accessed w (flow_at k flow c) σ) x ≡ true → Accesses (copies_of fits) (FlowHas k flow) c σ w x
    unfolding accessed
    accessed_accesses a = set_from (accesses w (view σ)) (flow_at k flow c) x a

    pub accesses_accessed : Accesses (copies_of fits) (FlowHas k flow) c σ w x → has (accessed w (flow_at k flow c) σ) x ≡ true
    unfolding accessed
    accesses_accessed (h, e, a) = set_has (accesses w (view σ)) (flow_at k flow c) x e a

  -- the effect of a statement, as a set and by the rule
  module _ (effect : Bool → List ℕ) (c s : ℕ) (w : Bool) (x : ℕ) where
    pub effect_does : has (effect_of t k flow (effect w) w c s) x ≡ true → Does (copies_of fits) (FlowHas k flow) (EffectHas effect) c s (statement t s) w x
    unfolding effect_of
    effect_does a =
        union_cases (accessed w (flow_at k flow c) (statement t s)) (set_on (view (statement t s)).names (λ q. get_or (effect w) (k.leads c s) 0)) x
        (λ b. inl (accessed_accesses c w x (statement t s) b))
        (λ b. inr (set_from (view (statement t s)).names (λ q. get_or (effect w) (k.leads c s) 0) x b)) a

    pub does_effect : Does (copies_of fits) (FlowHas k flow) (EffectHas effect) c s (statement t s) w x → has (effect_of t k flow (effect w) w c s) x ≡ true
    unfolding effect_of
    does_effect (inl a) = has_union_left (accessed w (flow_at k flow c) (statement t s)) _ x (accesses_accessed c w x (statement t s) a)
    does_effect (inr (q, n, d)) =
        has_union_right (accessed w (flow_at k flow c) (statement t s)) _ x (set_has (view (statement t s)).names (λ q. get_or (effect w) (k.leads c s) 0) x n d)

  pub effects_sets : (w : Bool) → SetList k.copies (effects t k flow w)
  unfolding effects
  effects_sets w = up_sets t k fits (access_of w) (access_of_below w) (naming_edges t k)

  does_in : (c s : ℕ) (w : Bool) (x : ℕ) → Place (copies_of fits) c s
      → Does (copies_of fits) (FlowHas k flow) (EffectHas (effects t k flow)) c s (statement t s) w x → EffectHas (effects t k flow) c w x
  unfolding effects naming_edges up_from
  does_in c s w x v (inl a) = own_has t k fits (access_of w) (access_of_below w) (naming_edges t k) c s v (statement t s) refl x (accesses_accessed c w x (statement t s) a)
  does_in c s w x v (inr (q, n, d)) =
      up_edge t k fits (access_of w) (access_of_below w) (naming_edges t k) c s v.there (up_among t k fits (λ v. v.names) c s q v n) x d

  pub effect_rules : EffectRules (copies_of fits) (FlowHas k flow) (EffectHas (effects t k flow))
  effect_rules = record { of_statement = does_in }

  module _ (other : ℕ → Bool → ℕ → Type 0) (rules : EffectRules (copies_of fits) (FlowHas k flow) other) (w : Bool) where
    -- inside any sets that satisfy the rules
    pub effect_least : (c x : ℕ) → EffectHas (effects t k flow) c w x → other c w x
    unfolding effects naming_edges up_from
    effect_least =
        up_induction t k fits (access_of w) (access_of_below w) (naming_edges t k) (λ c x. other c w x)
        (up_along t k fits (λ v. v.names) (λ c x. other c w x) (λ c s q v n x a. rules.of_statement c s w x v (inr (q, n, a))))
        (λ c s v x a. rules.of_statement c s w x v (inl (accessed_accesses c w x (statement t s) a)))
