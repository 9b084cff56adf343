-- What is left out of the held sets is what goes along the edges: what the edges leave satisfies document 01's rules, and every edge puts only what is
-- not held. Assumes nothing.
use Rattle.std.specs.Prelude.{ℕ, ◌^◌, ◌≤◌, ◌<◌, ◌≡◌, Bool, true, false, ◌⊎◌, length, get_or, Option, Some, None}
use Rattle.std.proofs.Math.Path.{refl, subst}
use Rattle.std.proofs.Common.{sym, ap, ◌∙◌, inl, inr, arith}
use Rattle.std.proofs.Math.Logic.{⊎_elim}
use mathlib.Core.List.Memᴰ
use mathlib.Core.List.{List, [], ◌∷◌, ◌++◌, map, Memᴰ}
use borrow.Author.Tests.{ltb-true, lt-ltb}
use Rattle.sets.specs.Set.{has}
use Rattle.sets.proofs.SetLaws.{has_firsts, inside_both}
use Rattle.sets.specs.Least.{SetList, Edge, plain}
use Rattle.sets.proofs.LeastLaws.{least_sets, least_holds_start, least_edge, least_induction}
use Rattle.table.specs.Table.{Table, routine, statement}
use Rattle.table.specs.Tabulate.{tabulate}
use Rattle.table.proofs.TabulateLaws.{length_tabulate, is_tabulate}
use Rattle.table.specs.View.{view, On, on_or, set_on, list_on, when, calls, starts, takes_in}
use Rattle.table.proofs.ViewLaws.{nothing_to, set_from, set_has, list_has, list_from, when_has, when_from, calls_names, starts_names, taken_takes}
use Rattle.table.specs.Accepted.{Accepted, Names}
use Rattle.table.specs.declared.Statement.{Statement}
use Rattle.report.proofs.OverLaws.{never, none_in, tabulate_sets, tabulate_has, tabulate_from_lem}
use Rattle.report.specs.Greatest.{leaving, greatest}
use Rattle.report.proofs.GreatestLaws.{minus_has, minus_from}
use Rattle.report.specs.Layout.{Layout}
use Rattle.report.specs.Fits.{Fits, copies_of}
use Rattle.report.specs.Operations.{nexts}
use Rattle.report.specs.Flow.{flow_at}
use Rattle.report.proofs.FlowLaws.{FlowHas}
use Rattle.report.proofs.EffectLaws.{GivesHas}
use Rattle.report.specs.Held.{all_locks, entry, only_lock, held_sets}
use Rattle.report.proofs.HeldLaws.{HeldHas, only_from, only_has, held_rules, held_greatest}
use Rattle.report.proofs.NextLaws.{goes_next, next_goes, goes_placed, map_has, map_from}
use Rattle.report.proofs.PlaceLaws.{place_at, among_all, of_some}
use Rattle.report.specs.Rules.{Copies, Place, Goes, After, AtReturns, HeldRules}
use Rattle.held_edges.specs.HeldEdges.{back_place, given_place, flow_place, other_place, every_place, place_count, start_at, met_place, edges_at, held_edges, held_out}
use Rattle.held_edges.specs.StartLaws.{start_early, start_given, start_flow, start_other, start_every, start_below}
use Rattle.held_edges.specs.AloneLaws.{alone}
use Rattle.held_edges.specs.EdgePlaceLaws.{place_there, entry_there, handle_there, next_there, leads_there, enters}

module _ (t : Table) (k : Layout) (acc : Accepted t) (fits : Fits t k) (mode : Bool) (flow : List ℕ) (below : (i : ℕ) → get_or flow i 0 < 2 ^ 64)
    (given : List ℕ) (Given_below : (i : ℕ) → get_or given i 0 < 2 ^ 64) where
  abbrev copies : Copies t
  copies = copies_of fits

  abbrev start : List ℕ
  start = tabulate (place_count k) (start_at t k flow given)

  start_sets : SetList (place_count k) start
  start_sets = tabulate_sets (place_count k) (start_at t k flow given) (start_below t k flow given below Given_below)

  -- lock x is left out at place p
  abbrev Out : ℕ → ℕ → Type 0
  Out p x = has (get_or (held_out t k mode flow given) p 0) x ≡ true

  start_out : (p x : ℕ) → p < place_count k → has (start_at t k flow given p) x ≡ true → Out p x
  unfolding held_out
  start_out p x l h =
      (least_holds_start (place_count k) (held_edges t k mode) start start_sets).at p x (tabulate_has (place_count k) (start_at t k flow given) p x l h)

  pub out_length : length (held_out t k mode flow given) ≡ place_count k
  unfolding held_out
  out_length = (least_sets (place_count k) (held_edges t k mode) start start_sets).places

  carries : (e : Edge) → Memᴰ e (held_edges t k mode) → e.to < place_count k → (x : ℕ) → Out e.from x → Out e.also x → Out e.to x
  unfolding held_out
  carries e m l x = least_edge (place_count k) (held_edges t k mode) start start_sets e m l x

  -- ---- places

  locks_64 : t.locks ≤ 64
  locks_64 = omega (arith, acc.locks_most)

  is_lock : (x : ℕ) → x < t.locks → has (all_locks t) x ≡ true
  is_lock x l = has_firsts t.locks x locks_64 ∙ lt-ltb x t.locks l

  -- ---- what a statement's edges carry

  module _ (c s : ℕ) (v : Place copies c s) where
    abbrev p : ℕ
    p = k.statement_place c s

    abbrev σ : Statement
    σ = statement t s

    abbrev d : ℕ
    d = k.leads c s

    abbrev call_edges : List Edge
    call_edges =
        list_on (calls (view σ))
        (λ q.
        plain p (entry t k d) ∷ map (λ (n : ℕ). record { from = back_place k d; also = given_place k d; to = k.statement_place c n }) (nexts s σ))

    abbrev kept_edges : List Edge
    kept_edges = map (λ (n : ℕ). record { from = p; also = met_place k mode p c s σ; to = k.statement_place c n }) (nexts s σ)

    abbrev give_edges : List Edge
    give_edges = list_on (view σ).gives (λ h. map (λ (n : ℕ). plain (flow_place k (k.handle_place c h)) (k.statement_place c n)) (nexts s σ))

    abbrev start_edges : List Edge
    start_edges = list_on (starts (view σ)) (λ q. plain (every_place k) (entry t k d) ∷ [])

    abbrev end_edges : List Edge
    end_edges = when (view σ).ends (plain p (back_place k c) ∷ [])

    along : (e : Edge) → Memᴰ e (call_edges ++ (kept_edges ++ (give_edges ++ (start_edges ++ end_edges)))) → e.to < place_count k → (x : ℕ)
        → Out e.from x → Out e.also x → Out e.to x
    unfolding held_edges edges_at
    along e m = carries e (Memᴰ.tail (among_all t k fits (edges_at t k mode) e c s v σ refl m))

    call_out : (q : ℕ) → calls (view σ) ≡ Some q → (x : ℕ) → Out p x → Out (entry t k d) x
    call_out q e x o =
        let l : entry t k d < k.statements = entry_there t k acc fits d (leads_there t k acc fits c s v q (calls_names (view σ) e)) in
        along (plain p (entry t k d)) (Memᴰ.append_left _ (list_has (calls (view σ)) _ _ e (Memᴰ.head refl))) (omega arith) x o o

    give_up_out : (q : ℕ) → calls (view σ) ≡ Some q → (n : ℕ) → Goes s σ n → (x : ℕ) → Out (back_place k d) x → Out (given_place k d) x → Out (k.statement_place c n) x
    give_up_out q e n g x =
        along (record { from = back_place k d; also = given_place k d; to = k.statement_place c n })
        (Memᴰ.append_left _
        (list_has (calls (view σ)) _ _ e
        (Memᴰ.tail (map_has (λ (n : ℕ). record { from = back_place k d; also = given_place k d; to = k.statement_place c n }) _ n (goes_next s σ n g)))))
        (next_there t k acc fits c s v n g) x

    kept_out : (n : ℕ) → Goes s σ n → (x : ℕ) → Out p x → Out (met_place k mode p c s σ) x → Out (k.statement_place c n) x
    kept_out n g x =
        along (record { from = p; also = met_place k mode p c s σ; to = k.statement_place c n })
        (Memᴰ.append_right call_edges
        (Memᴰ.append_left _ (map_has (λ (n : ℕ). record { from = p; also = met_place k mode p c s σ; to = k.statement_place c n }) _ n (goes_next s σ n g))))
        (next_there t k acc fits c s v n g) x

    give_out : (h : ℕ) → (view σ).gives ≡ Some h → (n : ℕ) → Goes s σ n → (x : ℕ) → FlowHas k flow c h x → Out (k.statement_place c n) x
    give_out h e n g x m =
        let l : k.handle_place c h < k.handles =
        handle_there t k acc fits c h v.there ((acc.operands (k.routine_of c) s (fits.of_there c v.there) v.inside).gives h e).own in
        let o : Out (flow_place k (k.handle_place c h)) x =
        start_out (flow_place k (k.handle_place c h)) x (omega arith) (ap (λ (y : ℕ). has y x) (start_flow t k flow given (k.handle_place c h) l) ∙ m) in
        along (plain (flow_place k (k.handle_place c h)) (k.statement_place c n))
        (Memᴰ.append_right call_edges
        (Memᴰ.append_right kept_edges
        (Memᴰ.append_left _
        (list_has (view σ).gives _ _ e (map_has (λ (n : ℕ). plain (flow_place k (k.handle_place c h)) (k.statement_place c n)) _ n (goes_next s σ n g))))))
        (next_there t k acc fits c s v n g) x o o

    every_out : (x : ℕ) → x < t.locks → Out (every_place k) x
    every_out x l = start_out (every_place k) x (omega arith) (ap (λ (y : ℕ). has y x) (start_every t k flow given) ∙ is_lock x l)

    started_out : (q : ℕ) → starts (view σ) ≡ Some q → (x : ℕ) → x < t.locks → Out (entry t k d) x
    started_out q e x l =
        let b : entry t k d < k.statements = entry_there t k acc fits d (leads_there t k acc fits c s v q (starts_names (view σ) e)) in
        along (plain (every_place k) (entry t k d))
        (Memᴰ.append_right call_edges
        (Memᴰ.append_right kept_edges (Memᴰ.append_right give_edges (Memᴰ.append_left _ (list_has (starts (view σ)) _ _ e (Memᴰ.head refl))))))
        (omega arith) x (every_out x l) (every_out x l)

    end_out : (view σ).ends ≡ true → (x : ℕ) → Out p x → Out (back_place k c) x
    end_out e x o =
        let l : c < k.copies = v.there in
        along (plain p (back_place k c))
        (Memᴰ.append_right call_edges
        (Memᴰ.append_right kept_edges
        (Memᴰ.append_right give_edges (Memᴰ.append_right start_edges (when_has (view σ).ends _ _ e (Memᴰ.head refl))))))
        (omega arith) x o o

    -- what is not added is met
    met_out : (x : ℕ) → x < t.locks → ((h : ℕ) → takes_in mode (view σ) ≡ Some h → has (only_lock (flow_at k flow c h)) x ≡ true → ⊥)
        → ((q : ℕ) → calls (view σ) ≡ Some q → Out (back_place k d) x) → Out p x → Out (met_place k mode p c s σ) x
    unfolding met_place
    met_out x l f b o = go (takes_in mode (view σ)) refl (calls (view σ)) refl
      where
        go : (r : Option ℕ) → takes_in mode (view σ) ≡ r → (u : Option ℕ) → calls (view σ) ≡ u
            → Out (on_or r (λ h. other_place k (k.handle_place c h)) (on_or u (λ q. back_place k (k.leads c s)) p)) x
        go (Some h) e u i =
            let j : k.handle_place c h < k.handles =
            handle_there t k acc fits c h v.there ((acc.operands (k.routine_of c) s (fits.of_there c v.there) v.inside).takes h (taken_takes mode (view σ) e)).own in
            start_out (other_place k (k.handle_place c h)) x (omega arith)
            (ap (λ (y : ℕ). has y x) (start_other t k flow given (k.handle_place c h) j) ∙ minus_has (all_locks t) _ x (is_lock x l) (f h e))
        go None e (Some q) i = b q i
        go None e None i = o

  -- ---- what the edges leave satisfies the rules

  abbrev Left : ℕ → ℕ → ℕ → Type 0
  Left c s x = (x < t.locks) × (Out (k.statement_place c s) x → ⊥)

  module _ (c s n x : ℕ) (v : Place copies c s) (g : Goes s (statement t s) n) (a : Left c n x) where
    -- what is not added was there, and is not given up
    left_kept : ((h : ℕ) → takes_in mode (view (statement t s)) ≡ Some h → has (only_lock (flow_at k flow c h)) x ≡ true → ⊥)
        → ((q : ℕ) → calls (view (statement t s)) ≡ Some q → Out (back_place k (k.leads c s)) x)
        → After copies mode (FlowHas k flow) (GivesHas given) Left c s x (statement t s)
    left_kept f b = inr ((a.0, λ o. a.1 (kept_out c s v n g x o (met_out c s v x a.0 f b o))), lose)
      where
        lose : On (view (statement t s)).gives (λ h. FlowHas k flow c h x) ⊎ On (calls (view (statement t s))) (λ q. GivesHas given (k.leads c s) x) → ⊥
        lose (inl (h, e, m)) = a.1 (give_out c s v h e n g x m)
        lose (inr (q, e, m)) =
            let l : k.leads c s < k.copies = leads_there t k acc fits c s v q (calls_names (view (statement t s)) e) in
            a.1 (give_up_out c s v q e n g x (b q e)
            (start_out (given_place k (k.leads c s)) x (omega arith) (ap (λ (y : ℕ). has y x) (start_given t k flow given (k.leads c s) l) ∙ m)))

    left_way : After copies mode (FlowHas k flow) (GivesHas given) Left c s x (statement t s)
    left_way = by_take (has (set_on (takes_in mode (view (statement t s))) (λ h. only_lock (flow_at k flow c h))) x) refl
      where
        by_call : ((h : ℕ) → takes_in mode (view (statement t s)) ≡ Some h → has (only_lock (flow_at k flow c h)) x ≡ true → ⊥)
            → (b : Bool) → has (get_or (held_out t k mode flow given) (back_place k (k.leads c s)) 0) x ≡ b → (r : Option ℕ) → calls (view (statement t s)) ≡ r
            → After copies mode (FlowHas k flow) (GivesHas given) Left c s x (statement t s)
        by_call f true e r i = left_kept f (λ q j. e)
        by_call f false e (Some q) i = inl (inr (q, i, λ z u y. (a.0, λ o. never (sym (end_out (k.leads c s) z u y x o) ∙ e))))
        by_call f false e None i = left_kept f (λ q j. nothing_to (sym i ∙ j))

        by_take : (b : Bool) → has (set_on (takes_in mode (view (statement t s))) (λ h. only_lock (flow_at k flow c h))) x ≡ b
            → After copies mode (FlowHas k flow) (GivesHas given) Left c s x (statement t s)
        by_take true e =
            let o = set_from (takes_in mode (view (statement t s))) (λ h. only_lock (flow_at k flow c h)) x e in
            inl (inl (o.0, o.1, only_from _ (below (k.handle_place c o.0)) x o.2))
        by_take false e =
            by_call (λ h i m. never (sym (set_has (takes_in mode (view (statement t s))) (λ h. only_lock (flow_at k flow c h)) x i m) ∙ e))
            (has (get_or (held_out t k mode flow given) (back_place k (k.leads c s)) 0) x) refl (calls (view (statement t s))) refl

  main_out : (x : ℕ) → x < t.locks → Out (entry t k k.first) x
  unfolding held_edges
  main_out x l =
      let o : Out (every_place k) x = start_out (every_place k) x (omega arith) (ap (λ (y : ℕ). has y x) (start_every t k flow given) ∙ is_lock x l) in
      let b : entry t k k.first < k.statements = entry_there t k acc fits k.first fits.first_there in
      carries (plain (every_place k) (entry t k k.first)) (Memᴰ.head refl) (omega arith) x o o

  left_rules : HeldRules copies mode (FlowHas k flow) (GivesHas given) Left
  unfolding entry
  left_rules = record {
    locks = λ c s x v a. a.0;
    way = λ c s n x v g a. left_way c s n x v g a;
    by_call = λ c s x q v e a.
        (a.0, λ o. a.1 (subst (λ (y : ℕ). Out y x) (sym (enters t k acc fits c s v q (calls_names (view (statement t s)) e))) (call_out c s v q e x o)));
    by_start = λ c s x q v e a.
        a.1 (subst (λ (y : ℕ). Out y x) (sym (enters t k acc fits c s v q (starts_names (view (statement t s)) e))) (started_out c s v q e x a.0));
    by_main = λ x a. a.1 (subst (λ (r : ℕ). Out (k.statement_place k.first (routine t r).first) x) fits.first_statement_lem (main_out x a.0));
  }

  -- ---- every edge puts only what is not held

  abbrev Held : ℕ → ℕ → ℕ → Type 0
  Held = HeldHas k (held_sets t k mode flow given)

  rules : HeldRules copies mode (FlowHas k flow) (GivesHas given) Held
  rules = held_rules t k acc fits mode flow below given

  -- what x may stand for at place p
  record Off (p x : ℕ) : Type 0 where
    before : p < k.statements → has (get_or (held_sets t k mode flow given) p 0) x ≡ true → ⊥
    back : (c : ℕ) → c < k.copies → p ≡ back_place k c → AtReturns copies mode (FlowHas k flow) (GivesHas given) Held c x → ⊥
    gives : (c : ℕ) → c < k.copies → p ≡ given_place k c → has (get_or given c 0) x ≡ true
    flows : (h : ℕ) → h < k.handles → p ≡ flow_place k h → has (get_or flow h 0) x ≡ true
    other : (h : ℕ) → h < k.handles → p ≡ other_place k h → has (only_lock (get_or flow h 0)) x ≡ true → ⊥

  off_before : (p x : ℕ) → p < k.statements → (has (get_or (held_sets t k mode flow given) p 0) x ≡ true → ⊥) → Off p x
  off_before p x l f = record {
    before = λ b h. f h;
    back = λ c b e. absurd (omega arith);
    gives = λ c b e. absurd (omega arith);
    flows = λ h b e. absurd (omega arith);
    other = λ h b e. absurd (omega arith);
  }

  off_back : (c x : ℕ) → c < k.copies → (AtReturns copies mode (FlowHas k flow) (GivesHas given) Held c x → ⊥) → Off (back_place k c) x
  off_back c x l f = record {
    before = λ b h. absurd (omega arith);
    back = λ d b e a.
        let i : d ≡ c = omega arith in
        f (subst (λ (y : ℕ). AtReturns copies mode (FlowHas k flow) (GivesHas given) Held y x) i a);
    gives = λ d b e. absurd (omega arith);
    flows = λ h b e. absurd (omega arith);
    other = λ h b e. absurd (omega arith);
  }

  start_off : (p x : ℕ) → has (start_at t k flow given p) x ≡ true → Off p x
  start_off p x h = record {
    before = λ b g. early (omega arith);
    back = λ c b e a. early (omega arith);
    gives = λ c b e. ap (λ (y : ℕ). has y x) (sym (start_given t k flow given c b)) ∙ at (given_place k c) e;
    flows = λ i b e. ap (λ (y : ℕ). has y x) (sym (start_flow t k flow given i b)) ∙ at (flow_place k i) e;
    other = λ i b e. (minus_from (all_locks t) _ x (ap (λ (y : ℕ). has y x) (sym (start_other t k flow given i b)) ∙ at (other_place k i) e)).1;
  }
    where
      at : (q : ℕ) → p ≡ q → has (start_at t k flow given q) x ≡ true
      at q e = ap (λ (y : ℕ). has (start_at t k flow given y) x) (sym e) ∙ h

      early : p < given_place k 0 → ⊥
      early l = none_in x (ap (λ (y : ℕ). has y x) (sym (start_early t k flow given p l)) ∙ h)

  -- the first statement of the copy that a statement names
  entered : (c s q x : ℕ) (v : Place copies c s) → Names (statement t s) q → (Held (k.leads c s) (routine t q).first x → ⊥) → Off (entry t k (k.leads c s)) x
  entered c s q x v n f =
      off_before (entry t k (k.leads c s)) x (entry_there t k acc fits (k.leads c s) (leads_there t k acc fits c s v q n))
      (λ h. f (subst (λ (y : ℕ). has (get_or (held_sets t k mode flow given) y 0) x ≡ true) (sym (enters t k acc fits c s v q n)) h))

  module _ (c s x : ℕ) (v : Place copies c s) where
    abbrev σ' : Statement
    σ' = statement t s

    abbrev p' : ℕ
    p' = k.statement_place c s

    -- what comes next holds nothing that is not held behind the statement
    off_next : (n : ℕ) → Goes s σ' n → (After copies mode (FlowHas k flow) (GivesHas given) Held c s x σ' → ⊥) → Off (k.statement_place c n) x
    off_next n g f = off_before (k.statement_place c n) x (place_there t k acc fits c n (goes_placed t k acc fits c s n v g)) (λ h. f (rules.way c s n x v g h))

    not_held : Off p' x → Held c s x → ⊥
    not_held o h = o.before (place_there t k acc fits c s v) h

    off_call : (q : ℕ) → calls (view σ') ≡ Some q → (e : Edge)
        → Memᴰ e (plain p' (entry t k (k.leads c s)) ∷ map (λ (n : ℕ). record { from = back_place k (k.leads c s); also = given_place k (k.leads c s); to = k.statement_place c n }) (nexts s σ'))
        → Off e.from x → Off e.also x → Off e.to x
    off_call q i e (Memᴰ.head j) o b =
        subst (λ (y : Edge). Off y.to x) (sym j)
        (entered c s q x v (calls_names (view σ') i) (λ h. not_held (subst (λ (y : Edge). Off y.from x) j o) (rules.by_call c s x q v i h)))
    off_call q i e (Memᴰ.tail m) o b =
        let r = map_from (λ (n : ℕ). record { from = back_place k (k.leads c s); also = given_place k (k.leads c s); to = k.statement_place c n }) (nexts s σ') e m in
        let l : k.leads c s < k.copies = leads_there t k acc fits c s v q (calls_names (view σ') i) in
        let ob : Off (back_place k (k.leads c s)) x = subst (λ (y : Edge). Off y.from x) r.2 o in
        let og : Off (given_place k (k.leads c s)) x = subst (λ (y : Edge). Off y.also x) r.2 b in
        subst (λ (y : Edge). Off y.to x) (sym r.2) (off_next r.0 (next_goes s σ' r.0 r.1) (go l ob og))
      where
        go : k.leads c s < k.copies → Off (back_place k (k.leads c s)) x → Off (given_place k (k.leads c s)) x
            → After copies mode (FlowHas k flow) (GivesHas given) Held c s x σ' → ⊥
        go l ob og (inl (inl (h, j, a))) = (alone σ').takes_calls h q (taken_takes mode (view σ') j) i
        go l ob og (inl (inr (u, j, a))) = ob.back (k.leads c s) l refl a
        go l ob og (inr (a, f)) = f (inr (q, i, og.gives (k.leads c s) l refl))

    -- the set that is met, by what the statement does
    met_take : (h : ℕ) → takes_in mode (view σ') ≡ Some h → met_place k mode p' c s σ' ≡ other_place k (k.handle_place c h)
    unfolding met_place
    met_take h e = rw e

    met_call : (q : ℕ) → calls (view σ') ≡ Some q → met_place k mode p' c s σ' ≡ back_place k (k.leads c s)
    unfolding met_place
    met_call q e = go (takes_in mode (view σ')) refl
      where
        go : (r : Option ℕ) → takes_in mode (view σ') ≡ r
            → on_or r (λ h. other_place k (k.handle_place c h)) (on_or (calls (view σ')) (λ q. back_place k (k.leads c s)) p') ≡ back_place k (k.leads c s)
        go (Some h) i = absurd ((alone σ').takes_calls h q (taken_takes mode (view σ') i) e)
        go None i = rw e

    off_kept : (e : Edge) → Memᴰ e (map (λ (n : ℕ). record { from = p'; also = met_place k mode p' c s σ'; to = k.statement_place c n }) (nexts s σ'))
        → Off e.from x → Off e.also x → Off e.to x
    off_kept e m o b =
        let r = map_from (λ (n : ℕ). record { from = p'; also = met_place k mode p' c s σ'; to = k.statement_place c n }) (nexts s σ') e m in
        let op : Off p' x = subst (λ (y : Edge). Off y.from x) r.2 o in
        let om : Off (met_place k mode p' c s σ') x = subst (λ (y : Edge). Off y.also x) r.2 b in
        subst (λ (y : Edge). Off y.to x) (sym r.2) (off_next r.0 (next_goes s σ' r.0 r.1) (go op om))
      where
        go : Off p' x → Off (met_place k mode p' c s σ') x → After copies mode (FlowHas k flow) (GivesHas given) Held c s x σ' → ⊥
        go op om (inl (inl (h, j, a))) =
            let l : k.handle_place c h < k.handles =
            handle_there t k acc fits c h v.there ((acc.operands (k.routine_of c) s (fits.of_there c v.there) v.inside).takes h (taken_takes mode (view σ') j)).own in
            om.other (k.handle_place c h) l (met_take h j) (only_has _ (below (k.handle_place c h)) x a)
        go op om (inl (inr (q, j, a))) = om.back (k.leads c s) (leads_there t k acc fits c s v q (calls_names (view σ') j)) (met_call q j) a
        go op om (inr (a, f)) = not_held op a

    off_give : (h : ℕ) → (view σ').gives ≡ Some h → (e : Edge)
        → Memᴰ e (map (λ (n : ℕ). plain (flow_place k (k.handle_place c h)) (k.statement_place c n)) (nexts s σ')) → Off e.from x → Off e.to x
    off_give h i e m o =
        let r = map_from (λ (n : ℕ). plain (flow_place k (k.handle_place c h)) (k.statement_place c n)) (nexts s σ') e m in
        let l : k.handle_place c h < k.handles =
        handle_there t k acc fits c h v.there ((acc.operands (k.routine_of c) s (fits.of_there c v.there) v.inside).gives h i).own in
        let f : FlowHas k flow c h x = (subst (λ (y : Edge). Off y.from x) r.2 o).flows (k.handle_place c h) l refl in
        subst (λ (y : Edge). Off y.to x) (sym r.2) (off_next r.0 (next_goes s σ' r.0 r.1) (go f))
      where
        go : FlowHas k flow c h x → After copies mode (FlowHas k flow) (GivesHas given) Held c s x σ' → ⊥
        go f (inl (inl (g, j, a))) = (alone σ').gives_takes h g i (taken_takes mode (view σ') j)
        go f (inl (inr (q, j, a))) = (alone σ').gives_calls h q i j
        go f (inr (a, d)) = d (inl (h, i, f))

    off_start : (q : ℕ) → starts (view σ') ≡ Some q → (e : Edge) → Memᴰ e (plain (every_place k) (entry t k (k.leads c s)) ∷ []) → Off e.to x
    off_start q i e m =
        subst (λ (y : Edge). Off y.to x) (sym (Memᴰ.eq_of_singleton m))
        (entered c s q x v (starts_names (view σ') i) (λ h. rules.by_start c s x q v i h))

    off_end : (view σ').ends ≡ true → (e : Edge) → Memᴰ e (plain p' (back_place k c) ∷ []) → Off e.from x → Off e.to x
    off_end i e m o =
        let j = Memᴰ.eq_of_singleton m in
        subst (λ (y : Edge). Off y.to x) (sym j) (off_back c x v.there (λ a. not_held (subst (λ (y : Edge). Off y.from x) j o) (a s v i)))

    off_edge : (e : Edge) → Memᴰ e (edges_at t k mode p' c s σ') → Off e.from x → Off e.also x → Off e.to x
    unfolding edges_at
    off_edge e m o b =
        ⊎_elim (λ y. let i = list_from (calls (view σ')) _ e y in off_call i.0 i.1 e i.2 o b)
        (λ y. ⊎_elim (λ z. off_kept e z o b) (λ z. last (Memᴰ.append_cases (give_edges c s v) z)) (Memᴰ.append_cases (kept_edges c s v) y))
        (Memᴰ.append_cases (call_edges c s v) m)
      where
        last : Memᴰ e (give_edges c s v) ⊎ Memᴰ e (start_edges c s v ++ end_edges c s v) → Off e.to x
        last (inl y) = let i = list_from (view σ').gives _ e y in off_give i.0 i.1 e i.2 o
        last (inr y) =
            ⊎_elim (λ z. let i = list_from (starts (view σ')) _ e z in off_start i.0 i.1 e i.2)
            (λ z. let i = when_from (view σ').ends _ e z in off_end i.0 e i.1 o)
            (Memᴰ.append_cases (start_edges c s v) y)

  off_first : (x : ℕ) → Off (entry t k k.first) x
  unfolding entry
  off_first x =
      off_before (entry t k k.first) x (entry_there t k acc fits k.first fits.first_there)
      (λ h. rules.by_main x (subst (λ (r : ℕ). Held k.first (routine t r).first x) fits.first_statement_lem h))

  off_every : (e : Edge) → Memᴰ e (held_edges t k mode) → (x : ℕ) → Off e.from x → Off e.also x → Off e.to x
  unfolding held_edges
  off_every e (Memᴰ.head j) x o b = subst (λ (y : Edge). Off y.to x) (sym j) (off_first x)
  off_every e (Memᴰ.tail m) x o b =
      let r = of_some t k fits (edges_at t k mode) e m in
      let i : k.statement_place (k.statement_copy r.0) (k.statement_at r.0) ≡ r.0 = (fits.statement_there r.0 r.1).back in
      off_edge (k.statement_copy r.0) (k.statement_at r.0) x (place_at t k fits r.0 r.1) e
      (subst (λ (q : ℕ). Memᴰ e (edges_at t k mode q (k.statement_copy r.0) (k.statement_at r.0) (statement t (k.statement_at r.0)))) (sym i) r.2) o b

  out_off : (p x : ℕ) → Out p x → Off p x
  unfolding held_out
  out_off =
      least_induction (place_count k) (held_edges t k mode) start start_sets Off (λ e m l x o b. off_every e m x o b)
      (λ p x h. start_off p x (tabulate_from_lem (place_count k) (start_at t k flow given) p x h).1)

  -- ---- so what is left is held

  module _ (p : ℕ) (l : p < k.statements) where
    abbrev c : ℕ
    c = k.statement_copy p

    abbrev s : ℕ
    s = k.statement_at p

    at_place : Place copies c s
    at_place = place_at t k fits p l

    back_at : k.statement_place c s ≡ p
    back_at = (fits.statement_there p l).back

    held_left : (x : ℕ) → has (get_or (held_sets t k mode flow given) p 0) x ≡ true → has (leaving (all_locks t) (held_out t k mode flow given) p) x ≡ true
    unfolding leaving
    held_left x h =
        let b : x < t.locks = rules.locks c s x at_place (subst (λ (q : ℕ). has (get_or (held_sets t k mode flow given) q 0) x ≡ true) (sym back_at) h) in
        minus_has (all_locks t) (get_or (held_out t k mode flow given) p 0) x (is_lock x b) (λ o. (out_off p x o).before l h)

    left_held : (x : ℕ) → has (leaving (all_locks t) (held_out t k mode flow given) p) x ≡ true → has (get_or (held_sets t k mode flow given) p 0) x ≡ true
    unfolding leaving
    left_held x h =
        let m : (has (all_locks t) x ≡ true) × (Out p x → ⊥) = minus_from (all_locks t) (get_or (held_out t k mode flow given) p 0) x h in
        let b : x < t.locks = ltb-true x t.locks (sym (has_firsts t.locks x locks_64) ∙ m.0) in
        subst (λ (q : ℕ). has (get_or (held_sets t k mode flow given) q 0) x ≡ true) back_at
        (held_greatest t k acc fits mode flow below given Left left_rules c s x at_place (b, λ o. m.1 (subst (λ (q : ℕ). Out q x) back_at o)))

    same_at : get_or (held_sets t k mode flow given) p 0 ≡ leaving (all_locks t) (held_out t k mode flow given) p
    same_at = inside_both _ _ held_left left_held

  held_long : length (held_sets t k mode flow given) ≡ k.statements
  unfolding held_sets greatest
  held_long = length_tabulate k.statements _

  -- the held sets are all locks but what goes along the edges
  pub held_is_left : held_sets t k mode flow given ≡ tabulate k.statements (leaving (all_locks t) (held_out t k mode flow given))
  held_is_left = is_tabulate k.statements (leaving (all_locks t) (held_out t k mode flow given)) (held_sets t k mode flow given) 0 held_long same_at
