-- The held sets of each mode satisfy their rules, and contain any sets that do. Assumes nothing.
use Prim.Native.Nat.{ℕ, ◌^◌, ◌≤◌, ◌<◌}
use Rattle.std.specs.Prelude.{◌≡◌, Bool, cond, ltb, Some}
use Rattle.std.proofs.Math.Path.{refl, sym, ap, subst}
use Rattle.std.proofs.Common.{◌∙◌, ⊎_elim, arith, le_refl}
use Rattle.std.proofs.Math.Bool.{true, false}
use Rattle.std.proofs.Math.Logic.{inl, inr}
use mathlib.Core.List.{List, [], ◌∷◌, ◌++◌, map, Memᴰ}
use Rattle.std.proofs.Math.ListN.{get_or}
use borrow.Author.Tests.{eqb-true, eq-eqb, ltb-true, ltb-false, lt-ltb}
use Rattle.sets.specs.Set.{has, one, minus, count, is_single}
use Rattle.sets.proofs.SetLaws.{has_union_left, has_union_right, union_cases, has_firsts, firsts_below, has_one, has_beyond, single_is_one, count_one, inside_both}
use Rattle.table.specs.Table.{Table, routine, statement}
use Rattle.table.specs.View.{view, On, set_on, list_on, calls, starts, takes_in}
use Rattle.table.proofs.ViewLaws.{set_has, set_from, list_has, list_from, calls_names, starts_names}
use Rattle.table.specs.Accepted.{Accepted, Names}
use Rattle.table.specs.declared.Statement.{Statement}
use Rattle.report.proofs.OverLaws.{never, none_in, inter_at, inter_inside, inter_has}
use Rattle.report.specs.Greatest.{Way, leaving, left_out}
use Rattle.report.proofs.GreatestLaws.{Monotone, minus_has, minus_from, greatest_is, greatest_inside, greatest_kept, greatest_contains, greatest_meets}
use Rattle.report.specs.Layout.{Layout}
use Rattle.report.specs.Fits.{Fits, StatementPlaced, copies_of}
use Rattle.report.specs.Operations.{nexts}
use Rattle.report.specs.Flow.{flow_at}
use Rattle.report.proofs.FlowLaws.{FlowHas}
use Rattle.report.proofs.EffectLaws.{GivesHas}
use Rattle.report.specs.Held.{all_locks, entry, only_lock, at_returns, taken_in, gained, lost, held_after, ways_from, all_ways, held_sets}
use Rattle.report.proofs.NextLaws.{goes_next, next_goes, goes_placed, map_has, map_from}
use Rattle.report.proofs.PlaceLaws.{placed, place_at, among_all, of_some}
use Rattle.report.specs.Rules.{Place, Goes, Only, Gains, Loses, After, AtReturns, HeldRules}

-- lock x is held before statement s of copy c
abbrev pub HeldHas : Layout → List ℕ → ℕ → ℕ → ℕ → Type 0
HeldHas k held c s x = has (get_or held (k.statement_place c s) 0) x ≡ true

-- ---- the one lock of a set

element_below : (s x : ℕ) → s < 2 ^ 64 → has s x ≡ true → x < 64
element_below s x l h = go (ltb x 64) refl
  where
    go : (b : Bool) → ltb x 64 ≡ b → x < 64
    go true e = ltb-true x 64 e
    go false e = never (sym h ∙ has_beyond 64 x l (ltb-false x 64 e))

one_only : (i x : ℕ) → i < 64 → has (one i) x ≡ true → x ≡ i
one_only i x l h = eqb-true x i (sym (has_one i x l) ∙ h)

one_has : (i : ℕ) → i < 64 → has (one i) i ≡ true
one_has i l = has_one i i l ∙ eq-eqb i i refl

pub single_only : (s : ℕ) → s < 2 ^ 64 → is_single s ≡ true → (x : ℕ) → has s x ≡ true → Only (λ y. has s y ≡ true) x
unfolding is_single
single_only s l e x h =
    let r = single_is_one s l (eqb-true (count s) 1 e) in
    record {
      member = h;
      alone = λ y g.
          one_only _ y r.0 (ap (λ (z : ℕ). has z y) (sym r.1) ∙ g)
          ∙ sym (one_only _ x r.0 (ap (λ (z : ℕ). has z x) (sym r.1) ∙ h));
    }

pub only_single : (s x : ℕ) → s < 2 ^ 64 → Only (λ y. has s y ≡ true) x → is_single s ≡ true
unfolding is_single
only_single s x l o =
    let b : x < 64 = element_below s x l o.member in
    let e : s ≡ one x =
    inside_both s (one x) (λ y h. ap (has (one x)) (o.alone y h) ∙ one_has x b)
    (λ y h. ap (has s) (one_only x y b h) ∙ o.member) in
    eq-eqb (count s) 1 (ap count e ∙ count_one x b)

pub only_from : (s : ℕ) → s < 2 ^ 64 → (x : ℕ) → has (only_lock s) x ≡ true → Only (λ y. has s y ≡ true) x
unfolding only_lock
only_from s l x h = go (is_single s) refl h
  where
    go : (b : Bool) → is_single s ≡ b → has (cond b s 0) x ≡ true → Only (λ y. has s y ≡ true) x
    go true e h = single_only s l e x h
    go false e h = none_in x h

pub only_has : (s : ℕ) → s < 2 ^ 64 → (x : ℕ) → Only (λ y. has s y ≡ true) x → has (only_lock s) x ≡ true
unfolding only_lock
only_has s l x o = rw (only_single s x l o) o.member

module _ (t : Table) (k : Layout) (acc : Accepted t) (fits : Fits t k) (mode : Bool) (flow : List ℕ) (below : (i : ℕ) → get_or flow i 0 < 2 ^ 64) (given : List ℕ) where
  -- ---- the ways, by the statement that makes them

  abbrev onward : ℕ → ℕ → Statement → ℕ → Way
  onward c s σ n = record { to = k.statement_place c n; brings = λ held. held_after t k mode flow given held c s σ }

  abbrev call_way : ℕ → ℕ → Way
  call_way c s = record { to = entry t k (k.leads c s); brings = λ held. held (k.statement_place c s) }

  abbrev start_way : ℕ → ℕ → Way
  start_way c s = record { to = entry t k (k.leads c s); brings = λ held. 0 }

  abbrev call_ways : ℕ → ℕ → Statement → List Way
  call_ways c s σ = list_on (calls (view σ)) (λ q. call_way c s ∷ [])

  abbrev start_ways : ℕ → ℕ → Statement → List Way
  start_ways c s σ = list_on (starts (view σ)) (λ q. start_way c s ∷ [])

  abbrev ways_at : ℕ → ℕ → ℕ → Statement → List Way
  ways_at p c s σ = map (onward c s σ) (nexts s σ) ++ (call_ways c s σ ++ start_ways c s σ)

  abbrev first_way : Way
  first_way = record { to = entry t k k.first; brings = λ held. 0 }

  module _ (c s : ℕ) (v : Place (copies_of fits) c s) where
    way_among : (w : Way) → Memᴰ w (ways_at (k.statement_place c s) c s (statement t s)) → Memᴰ w (all_ways t k mode flow given)
    unfolding all_ways ways_from
    way_among w m = mathlib.Core.List.Memᴰ.tail (among_all t k fits ways_at w c s v (statement t s) refl m)

    onward_among : (n : ℕ) → Goes s (statement t s) n → Memᴰ (onward c s (statement t s) n) (all_ways t k mode flow given)
    onward_among n g =
        way_among _ (mathlib.Core.List.Memᴰ.append_left (call_ways c s (statement t s) ++ start_ways c s (statement t s))
        (map_has (onward c s (statement t s)) (nexts s (statement t s)) n (goes_next s (statement t s) n g)))

    call_among : (q : ℕ) → calls (view (statement t s)) ≡ Some q → Memᴰ (call_way c s) (all_ways t k mode flow given)
    call_among q e =
        way_among _ (mathlib.Core.List.Memᴰ.append_right (map (onward c s (statement t s)) (nexts s (statement t s)))
        (mathlib.Core.List.Memᴰ.append_left (start_ways c s (statement t s)) (list_has (calls (view (statement t s))) (λ r. call_way c s ∷ []) _ e (mathlib.Core.List.Memᴰ.head refl))))

    start_among : (q : ℕ) → starts (view (statement t s)) ≡ Some q → Memᴰ (start_way c s) (all_ways t k mode flow given)
    start_among q e =
        way_among _ (mathlib.Core.List.Memᴰ.append_right (map (onward c s (statement t s)) (nexts s (statement t s)))
        (mathlib.Core.List.Memᴰ.append_right (call_ways c s (statement t s)) (list_has (starts (view (statement t s))) (λ r. start_way c s ∷ []) _ e (mathlib.Core.List.Memᴰ.head refl))))

  -- a way is the first one, or goes on from a statement, or goes into the copy that a CALL or a START leads to
  module _ {ℓ} (C : Way → Type ℓ) (first : C first_way)
      (on : (c s n : ℕ) → Place (copies_of fits) c s → Goes s (statement t s) n → C (onward c s (statement t s) n))
      (by_call : (c s q : ℕ) → Place (copies_of fits) c s → calls (view (statement t s)) ≡ Some q → C (call_way c s))
      (by_start : (c s q : ℕ) → Place (copies_of fits) c s → starts (view (statement t s)) ≡ Some q → C (start_way c s)) where
    way_from : (c s : ℕ) → Place (copies_of fits) c s → (w : Way) → (p : ℕ) → Memᴰ w (ways_at p c s (statement t s)) → C w
    way_from c s v w p m =
        ⊎_elim
        (λ i.
        let q : (n : ℕ) × Memᴰ n (nexts s (statement t s)) × (w ≡ onward c s (statement t s) n) =
        map_from (onward c s (statement t s)) (nexts s (statement t s)) w i in
        subst C (sym q.2) (on c s q.0 v (next_goes s (statement t s) q.0 q.1)))
        (λ i. ⊎_elim
        (λ j.
        let o : On (calls (view (statement t s))) (λ q. Memᴰ w (call_way c s ∷ [])) = list_from (calls (view (statement t s))) (λ q. call_way c s ∷ []) w j in
        subst C (sym (mathlib.Core.List.Memᴰ.eq_of_singleton o.2)) (by_call c s o.0 v o.1))
        (λ j.
        let o : On (starts (view (statement t s))) (λ q. Memᴰ w (start_way c s ∷ [])) = list_from (starts (view (statement t s))) (λ q. start_way c s ∷ []) w j in
        subst C (sym (mathlib.Core.List.Memᴰ.eq_of_singleton o.2)) (by_start c s o.0 v o.1))
        (mathlib.Core.List.Memᴰ.append_cases (call_ways c s (statement t s)) i))
        (mathlib.Core.List.Memᴰ.append_cases (map (onward c s (statement t s)) (nexts s (statement t s))) m)

    ways_cases : (w : Way) → Memᴰ w (all_ways t k mode flow given) → C w
    unfolding all_ways ways_from
    ways_cases w (mathlib.Core.List.Memᴰ.head e) = subst C (sym e) first
    ways_cases w (mathlib.Core.List.Memᴰ.tail m) =
        let r : (p : ℕ) × (p < k.statements) × Memᴰ w (ways_at p (k.statement_copy p) (k.statement_at p) (statement t (k.statement_at p))) =
        of_some t k fits ways_at w m in
        way_from (k.statement_copy r.0) (k.statement_at r.0) (place_at t k fits r.0 r.1) w r.0 r.2

  -- ---- they bring no less out of more

  module _ (G H : ℕ → ℕ) (sub : (p x : ℕ) → has (G p) x ≡ true → has (H p) x ≡ true) where
    returns_more : (c x : ℕ) → has (at_returns t k G c) x ≡ true → has (at_returns t k H c) x ≡ true
    unfolding at_returns
    returns_more c x h =
        inter_has (all_locks t) _ _ _ x (inter_inside (all_locks t) _ _ _ x h)
        (λ z w. go z (view (statement t z)).ends (inter_at (all_locks t) _ _ _ z x w h))
      where
        go : (z : ℕ) (b : Bool) → has (cond b (G (k.statement_place c z)) (all_locks t)) x ≡ true → has (cond b (H (k.statement_place c z)) (all_locks t)) x ≡ true
        go z true a = sub (k.statement_place c z) x a
        go z false a = a

    gained_more : (c s : ℕ) (σ : Statement) (x : ℕ) → has (gained t k mode flow G c s σ) x ≡ true → has (gained t k mode flow H c s σ) x ≡ true
    unfolding gained
    gained_more c s σ x a =
        let taken : ℕ = taken_in k mode flow c σ in
        union_cases taken (set_on (calls (view σ)) (λ q. at_returns t k G (k.leads c s))) x (has_union_left taken _ x)
        (λ b.
        let o : On (calls (view σ)) (λ q. has (at_returns t k G (k.leads c s)) x ≡ true) = set_from (calls (view σ)) (λ q. at_returns t k G (k.leads c s)) x b in
        has_union_right taken _ x (set_has (calls (view σ)) (λ q. at_returns t k H (k.leads c s)) x o.1 (returns_more (k.leads c s) x o.2))) a

    after_more : (c s : ℕ) (σ : Statement) (x : ℕ) → has (held_after t k mode flow given G c s σ) x ≡ true → has (held_after t k mode flow given H c s σ) x ≡ true
    unfolding held_after
    after_more c s σ x a =
        union_cases (gained t k mode flow G c s σ) (minus (G (k.statement_place c s)) (lost k flow given c s σ)) x
        (λ b. has_union_left (gained t k mode flow H c s σ) _ x (gained_more c s σ x b))
        (λ b.
        let m = minus_from (G (k.statement_place c s)) (lost k flow given c s σ) x b in
        has_union_right (gained t k mode flow H c s σ) _ x (minus_has (H (k.statement_place c s)) (lost k flow given c s σ) x (sub _ x m.0) m.1)) a

  monotone : (w : Way) → Memᴰ w (all_ways t k mode flow given) → Monotone w
  monotone =
      ways_cases Monotone (record { more = λ G H sub x h. h })
      (λ c s n v g. record { more = λ G H sub x h. after_more G H sub c s (statement t s) x h })
      (λ c s q v e. record { more = λ G H sub x h. sub (k.statement_place c s) x h })
      (λ c s q v e. record { more = λ G H sub x h. h })

  -- ---- the rules

  small : all_locks t < 2 ^ 64
  small = firsts_below t.locks

  locks_64 : t.locks ≤ 64
  locks_64 = let l : t.locks ≤ 16 = acc.locks_most in omega arith

  abbrev Held : ℕ → ℕ → ℕ → Type 0
  Held = HeldHas k (held_sets t k mode flow given)

  -- the sets as the ways see them
  abbrev left : ℕ → ℕ
  left = leaving (all_locks t) (left_out (all_locks t) k.statements (all_ways t k mode flow given))

  left_held : (c s x : ℕ) → Place (copies_of fits) c s → has (left (k.statement_place c s)) x ≡ true → Held c s x
  unfolding held_sets
  left_held c s x v h =
      ap (λ (y : ℕ). has y x) (greatest_is (all_locks t) small k.statements (all_ways t k mode flow given) monotone (k.statement_place c s) (placed t k fits c s v).there) ∙ h

  kept : (w : Way) → Memᴰ w (all_ways t k mode flow given) → (x : ℕ) → has (get_or (held_sets t k mode flow given) w.to 0) x ≡ true → has (w.brings left) x ≡ true
  unfolding held_sets
  kept = greatest_kept (all_locks t) small k.statements (all_ways t k mode flow given) monotone

  inside : (p x : ℕ) → has (get_or (held_sets t k mode flow given) p 0) x ≡ true → (p < k.statements) × (has (all_locks t) x ≡ true)
  unfolding held_sets
  inside = greatest_inside (all_locks t) small k.statements (all_ways t k mode flow given) monotone

  returns_rule : (c x : ℕ) → has (at_returns t k left c) x ≡ true → AtReturns (copies_of fits) mode (FlowHas k flow) (GivesHas given) Held c x
  unfolding at_returns
  returns_rule c x h z v e =
      left_held c z x v
      (ap (λ (b : Bool). has (cond b (left (k.statement_place c z)) (all_locks t)) x) (sym e)
      ∙ inter_at (all_locks t) _ _ _ z x (record { low = v.inside.low; high = v.inside.high }) h)

  -- what is lost, as a set and by the rule, whatever is held
  module _ (held : ℕ → ℕ → ℕ → Type 0) (c s : ℕ) (σ : Statement) (x : ℕ) where
    loses_lost : Loses (copies_of fits) mode (FlowHas k flow) (GivesHas given) held c s x σ → has (lost k flow given c s σ) x ≡ true
    unfolding lost
    loses_lost (inl (h, e, a)) = has_union_left (set_on (view σ).gives (flow_at k flow c)) _ x (set_has (view σ).gives (flow_at k flow c) x e a)
    loses_lost (inr (q, e, a)) =
        has_union_right (set_on (view σ).gives (flow_at k flow c)) _ x (set_has (calls (view σ)) (λ q. get_or given (k.leads c s) 0) x e a)

    lost_loses : has (lost k flow given c s σ) x ≡ true → Loses (copies_of fits) mode (FlowHas k flow) (GivesHas given) held c s x σ
    unfolding lost
    lost_loses =
        union_cases (set_on (view σ).gives (flow_at k flow c)) (set_on (calls (view σ)) (λ q. get_or given (k.leads c s) 0)) x
        (λ a. inl (set_from (view σ).gives (flow_at k flow c) x a)) (λ a. inr (set_from (calls (view σ)) (λ q. get_or given (k.leads c s) 0) x a))

  gains_rule : (c s : ℕ) (σ : Statement) (x : ℕ) → has (gained t k mode flow left c s σ) x ≡ true
      → Gains (copies_of fits) mode (FlowHas k flow) (GivesHas given) Held c s x σ
  unfolding gained taken_in
  gains_rule c s σ x =
      union_cases (taken_in k mode flow c σ) (set_on (calls (view σ)) (λ q. at_returns t k left (k.leads c s))) x
      (λ a.
      let o : On (takes_in mode (view σ)) (λ h. has (only_lock (flow_at k flow c h)) x ≡ true) = set_from (takes_in mode (view σ)) (λ h. only_lock (flow_at k flow c h)) x a in
      inl (o.0, o.1, only_from _ (below (k.handle_place c o.0)) x o.2))
      (λ a.
      let o : On (calls (view σ)) (λ q. has (at_returns t k left (k.leads c s)) x ≡ true) = set_from (calls (view σ)) (λ q. at_returns t k left (k.leads c s)) x a in
      inr (o.0, o.1, returns_rule (k.leads c s) x o.2))

  after_rule : (c s : ℕ) → Place (copies_of fits) c s → (σ : Statement) → (x : ℕ) → has (held_after t k mode flow given left c s σ) x ≡ true
      → After (copies_of fits) mode (FlowHas k flow) (GivesHas given) Held c s x σ
  unfolding held_after
  after_rule c s v σ x =
      union_cases (gained t k mode flow left c s σ) (minus (left (k.statement_place c s)) (lost k flow given c s σ)) x (λ a. inl (gains_rule c s σ x a))
      (λ a.
      let m = minus_from (left (k.statement_place c s)) (lost k flow given c s σ) x a in
      inr (left_held c s x v m.0, λ l. m.1 (loses_lost Held c s σ x l)))

  -- the way into the copy that a statement names leads to the first statement of the routine named
  entry_is : (c s q x : ℕ) → Place (copies_of fits) c s → Names (statement t s) q → Held (k.leads c s) (routine t q).first x
      → has (get_or (held_sets t k mode flow given) (entry t k (k.leads c s)) 0) x ≡ true
  unfolding entry
  entry_is c s q x v n h =
      subst (λ (r : ℕ). Held (k.leads c s) (routine t r).first x) (sym (fits.leads_of c s q v.there v.inside n)) h

  first_among : Memᴰ first_way (all_ways t k mode flow given)
  unfolding all_ways
  first_among = mathlib.Core.List.Memᴰ.head refl

  pub held_rules : HeldRules (copies_of fits) mode (FlowHas k flow) (GivesHas given) Held
  unfolding entry
  held_rules = record {
    locks = λ c s x v h. ltb-true x t.locks (sym (has_firsts t.locks x locks_64) ∙ (inside (k.statement_place c s) x h).1);
    way = λ c s n x v g h. after_rule c s v (statement t s) x (kept (onward c s (statement t s) n) (onward_among c s v n g) x h);
    by_call = λ c s x q v e h. left_held c s x v (kept (call_way c s) (call_among c s v q e) x (entry_is c s q x v (calls_names (view (statement t s)) e) h));
    by_start = λ c s x q v e h. none_in x (kept (start_way c s) (start_among c s v q e) x (entry_is c s q x v (starts_names (view (statement t s)) e) h));
    by_main = λ x h.
        none_in x (kept first_way first_among x (subst (λ (r : ℕ). Held k.first (routine t r).first x) (sym fits.first_statement_lem) h));
  }

  -- ---- the greatest

  module _ (other : ℕ → ℕ → ℕ → Type 0) (rules : HeldRules (copies_of fits) mode (FlowHas k flow) (GivesHas given) other) where
    record At (p x : ℕ) : Type 0 where
      there : p < k.statements
      held : other (k.statement_copy p) (k.statement_at p) x

    of_pair : (c s x : ℕ) → Place (copies_of fits) c s → other c s x → At (k.statement_place c s) x
    of_pair c s x v a =
        let u : StatementPlaced k c s = placed t k fits c s v in
        record {
          there = u.there;
          held = subst (λ (d : ℕ). other d (k.statement_at (k.statement_place c s)) x) (sym u.copy) (subst (λ (z : ℕ). other c z x) (sym u.same) a);
        }

    to_pair : (c s x : ℕ) → Place (copies_of fits) c s → At (k.statement_place c s) x → other c s x
    to_pair c s x v a =
        let u : StatementPlaced k c s = placed t k fits c s v in
        subst (λ (z : ℕ). other c z x) u.same (subst (λ (d : ℕ). other d (k.statement_at (k.statement_place c s)) x) u.copy a.held)

    is_lock : (c s x : ℕ) → Place (copies_of fits) c s → other c s x → has (all_locks t) x ≡ true
    is_lock c s x v a = has_firsts t.locks x locks_64 ∙ lt-ltb x t.locks (rules.locks c s x v a)

    -- the first statement of a copy is one of its statements
    first_place : (c : ℕ) → c < k.copies → Place (copies_of fits) c (routine t (k.routine_of c)).first
    first_place c l =
        let h : 1 ≤ (routine t (k.routine_of c)).count = (acc.routine_facts (k.routine_of c) (fits.of_there c l)).some_statement in
        record { there = l; inside = record { low = le_refl _; high = omega arith } }

    module _ (H : ℕ → ℕ) (sub : (p x : ℕ) → At p x → has (H p) x ≡ true) where
      here : (c s x : ℕ) → Place (copies_of fits) c s → other c s x → has (H (k.statement_place c s)) x ≡ true
      here c s x v a = sub (k.statement_place c s) x (of_pair c s x v a)

      at_returns_lem : (c x : ℕ) → c < k.copies → has (all_locks t) x ≡ true → AtReturns (copies_of fits) mode (FlowHas k flow) (GivesHas given) other c x
          → has (at_returns t k H c) x ≡ true
      unfolding at_returns
      at_returns_lem c x l a f =
          inter_has (all_locks t) _ _ _ x a
          (λ z w. go z (record { there = l; inside = record { low = w.low; high = w.high } }) (view (statement t z)).ends refl)
        where
          go : (z : ℕ) → Place (copies_of fits) c z → (b : Bool) → (view (statement t z)).ends ≡ b → has (cond b (H (k.statement_place c z)) (all_locks t)) x ≡ true
          go z v true e = here c z x v (f z v e)
          go z v false e = a

      gains_has : (c s : ℕ) → Place (copies_of fits) c s → (x : ℕ) → has (all_locks t) x ≡ true
          → Gains (copies_of fits) mode (FlowHas k flow) (GivesHas given) other c s x (statement t s) → has (gained t k mode flow H c s (statement t s)) x ≡ true
      unfolding gained taken_in
      gains_has c s v x l (inl (h, e, a)) =
          has_union_left (taken_in k mode flow c (statement t s)) _ x
          (set_has (takes_in mode (view (statement t s))) (λ h. only_lock (flow_at k flow c h)) x e (only_has (flow_at k flow c h) (below (k.handle_place c h)) x a))
      gains_has c s v x l (inr (q, e, a)) =
          has_union_right (taken_in k mode flow c (statement t s)) _ x
          (set_has (calls (view (statement t s))) (λ q. at_returns t k H (k.leads c s)) x e
          (at_returns_lem (k.leads c s) x (fits.leads_there c s q v.there v.inside (calls_names (view (statement t s)) e)) l a))

      after_has : (c s : ℕ) → Place (copies_of fits) c s → (x : ℕ) → has (all_locks t) x ≡ true
          → After (copies_of fits) mode (FlowHas k flow) (GivesHas given) other c s x (statement t s) → has (held_after t k mode flow given H c s (statement t s)) x ≡ true
      unfolding held_after
      after_has c s v x l (inl g) = has_union_left (gained t k mode flow H c s (statement t s)) _ x (gains_has c s v x l g)
      after_has c s v x l (inr (a, keeps)) =
          has_union_right (gained t k mode flow H c s (statement t s)) _ x
          (minus_has (H (k.statement_place c s)) (lost k flow given c s (statement t s)) x (here c s x v a) (λ m. keeps (lost_loses other c s (statement t s) x m)))

      at_entry : (c s q x : ℕ) → Place (copies_of fits) c s → Names (statement t s) q → At (entry t k (k.leads c s)) x → other (k.leads c s) (routine t q).first x
      unfolding entry
      at_entry c s q x v n a =
          subst (λ (r : ℕ). other (k.leads c s) (routine t r).first x) (fits.leads_of c s q v.there v.inside n)
          (to_pair (k.leads c s) _ x (first_place (k.leads c s) (fits.leads_there c s q v.there v.inside n)) a)

      first_has : (x : ℕ) → At (entry t k k.first) x → has 0 x ≡ true
      unfolding entry
      first_has x a =
          absurd (rules.by_main x (subst (λ (r : ℕ). other k.first (routine t r).first x) fits.first_statement_lem
          (to_pair k.first _ x (first_place k.first fits.first_there) a)))

      brings_has : (w : Way) → Memᴰ w (all_ways t k mode flow given) → (x : ℕ) → At w.to x → has (w.brings H) x ≡ true
      brings_has =
          ways_cases (λ w. (x : ℕ) → At w.to x → has (w.brings H) x ≡ true) first_has
          (λ c s n v g x a.
          let o : other c n x = to_pair c n x (goes_placed t k acc fits c s n v g) a in
          after_has c s v x (is_lock c n x (goes_placed t k acc fits c s n v g) o) (rules.way c s n x v g o))
          (λ c s q v e x a. here c s x v (rules.by_call c s x q v e (at_entry c s q x v (calls_names (view (statement t s)) e) a)))
          (λ c s q v e x a. absurd (rules.by_start c s x q v e (at_entry c s q x v (starts_names (view (statement t s)) e) a)))

    -- any sets that satisfy the rules are inside
    pub held_greatest : (c s x : ℕ) → Place (copies_of fits) c s → other c s x → HeldHas k (held_sets t k mode flow given) c s x
    unfolding held_sets
    held_greatest c s x v a =
        greatest_contains (all_locks t) small k.statements (all_ways t k mode flow given) monotone At
        (λ p y b. is_lock (k.statement_copy p) (k.statement_at p) y (place_at t k fits p b.there) b.held)
        (λ w m H sub y l b. brings_has H sub w m y b)
        (k.statement_place c s) x (placed t k fits c s v).there (of_pair c s x v a)

  -- ---- where ways meet, they intersect: a lock that every way in brings is held

  -- lock x comes by every way into statement s of copy c
  pub record EveryWay (c s x : ℕ) : Type 0 where
    pub before : (z : ℕ) → Place (copies_of fits) c z → Goes z (statement t z) s → After (copies_of fits) mode (FlowHas k flow) (GivesHas given) Held c z x (statement t z)
    pub by_main : s ≡ (routine t (k.routine_of c)).first → c ≡ k.first → ⊥
    pub by_call : s ≡ (routine t (k.routine_of c)).first → (d z q : ℕ) → Place (copies_of fits) d z → calls (view (statement t z)) ≡ Some q → k.leads d z ≡ c → Held d z x
    pub by_start : s ≡ (routine t (k.routine_of c)).first → (d z q : ℕ) → Place (copies_of fits) d z → starts (view (statement t z)) ≡ Some q → k.leads d z ≡ c → ⊥

  -- two places are the same only where copy and statement are
  same_place : (c s d z : ℕ) → Place (copies_of fits) c s → Place (copies_of fits) d z → k.statement_place d z ≡ k.statement_place c s → (d ≡ c) × (z ≡ s)
  same_place c s d z v u e =
      let a : StatementPlaced k c s = placed t k fits c s v in
      let b : StatementPlaced k d z = placed t k fits d z u in
      (sym b.copy ∙ ap k.statement_copy e ∙ a.copy, sym b.same ∙ ap k.statement_at e ∙ a.same)

  module _ (c s x : ℕ) (v : Place (copies_of fits) c s) (lock : has (all_locks t) x ≡ true) (ways : EveryWay c s x) where
    at_left : (p y : ℕ) → At Held held_rules p y → has (left p) y ≡ true
    unfolding held_sets
    at_left p y a =
        ap (λ (z : ℕ). has z y) (sym (greatest_is (all_locks t) small k.statements (all_ways t k mode flow given) monotone p a.there))
        ∙ subst (λ (q : ℕ). has (get_or (held_sets t k mode flow given) q 0) y ≡ true) (fits.statement_there p a.there).back a.held

    -- the first statement of a copy stands at the place: it is this one
    entered : (d : ℕ) → d < k.copies → entry t k d ≡ k.statement_place c s → (d ≡ c) × (s ≡ (routine t (k.routine_of c)).first)
    unfolding entry
    entered d l e =
        let r = same_place c s d (routine t (k.routine_of d)).first v (first_place Held held_rules d l) e in
        (r.0, sym r.1 ∙ ap (λ (b : ℕ). (routine t (k.routine_of b)).first) r.0)

    -- the copy that a CALL or START leads to, if the way into it comes here
    entered_from : (d z q : ℕ) → Place (copies_of fits) d z → Names (statement t z) q → entry t k (k.leads d z) ≡ k.statement_place c s
        → (k.leads d z ≡ c) × (s ≡ (routine t (k.routine_of c)).first)
    entered_from d z q u n i = entered (k.leads d z) (fits.leads_there d z q u.there u.inside n) i

    brings : (w : Way) → Memᴰ w (all_ways t k mode flow given) → w.to ≡ k.statement_place c s → has (w.brings left) x ≡ true
    brings =
        ways_cases (λ w. w.to ≡ k.statement_place c s → has (w.brings left) x ≡ true)
        (λ e. let r = entered k.first fits.first_there e in absurd (ways.by_main r.1 (sym r.0)))
        (λ d z n u g e.
        let r : (d ≡ c) × (n ≡ s) = same_place c s d n v (goes_placed t k acc fits d z n u g) e in
        after_has Held held_rules left at_left d z u x lock
        (subst (λ (b : ℕ). After (copies_of fits) mode (FlowHas k flow) (GivesHas given) Held b z x (statement t z)) (sym r.0)
        (ways.before z (subst (λ (b : ℕ). Place (copies_of fits) b z) r.0 u) (subst (Goes z (statement t z)) r.1 g))))
        (λ d z q u e i.
        let r = entered_from d z q u (calls_names (view (statement t z)) e) i in
        at_left (k.statement_place d z) x (of_pair Held held_rules d z x u (ways.by_call r.1 d z q u e r.0)))
        (λ d z q u e i.
        let r = entered_from d z q u (starts_names (view (statement t z)) e) i in
        absurd (ways.by_start r.1 d z q u e r.0))

  -- so held sets are exactly the intersections
  pub held_meets : (c s x : ℕ) → Place (copies_of fits) c s → x < t.locks → EveryWay c s x → HeldHas k (held_sets t k mode flow given) c s x
  unfolding held_sets
  held_meets c s x v l ways =
      let lock : has (all_locks t) x ≡ true = has_firsts t.locks x locks_64 ∙ lt-ltb x t.locks l in
      greatest_meets (all_locks t) small k.statements (all_ways t k mode flow given) monotone (k.statement_place c s) x (placed t k fits c s v).there lock
      (brings c s x v lock ways)
