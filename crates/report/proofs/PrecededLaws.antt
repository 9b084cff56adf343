-- The copies that reach a START, and the statements that a START can precede, satisfy their rules, and are inside any that do; and these are document 02's
-- sentence. Assumes nothing.
use Rattle.std.proofs.lemmas.Bool.{or_cases, or_left, or_right}
use Prim.Native.Nat.{ℕ, ◌+◌, ◌^◌, ◌<◌}
use Rattle.std.specs.Prelude.{◌≡◌, Bool, cond, ◌⊎◌, ◌↔◌, get_or, Option, Some, None}
use Rattle.std.proofs.Math.Path.{refl, subst}
use Rattle.std.proofs.Common.{sym, ap, ◌∙◌}
use Rattle.std.proofs.Math.Bool.{true, false}
use Rattle.std.proofs.Math.Logic.{inl, inr, ⊎_elim}
use mathlib.Core.List.Memᴰ
use mathlib.Core.List.{List, [], ◌∷◌, ◌++◌, map, Memᴰ}
use native.Mathlib.Omega.{arith}
use Rattle.std.proofs.Math.Dec.{eqb}
use borrow.Author.Tests.{eqb-true, eq-eqb}
use Rattle.sets.specs.Set.{has}
use Rattle.sets.specs.Least.{SetList, Edge, plain, least}
use Rattle.sets.proofs.LeastLaws.{least_holds_start, least_edge, least_induction}
use Rattle.table.specs.Table.{Table, statement}
use Rattle.table.specs.View.{view, On, test_on, list_on, calls, starts}
use Rattle.table.proofs.ViewLaws.{list_has, list_from, test_is, calls_names}
use Rattle.table.specs.Accepted.{Accepted}
use Rattle.table.specs.declared.Statement.{Statement}
use Rattle.report.proofs.OverLaws.{never, none_in, tabulate_sets, tabulate_has, tabulate_from_lem}
use Rattle.report.specs.Layout.{Layout}
use Rattle.report.specs.Fits.{Fits, copies_of}
use Rattle.report.specs.Operations.{nexts}
use Rattle.report.specs.Preceded.{marked, is_marked, reach_edges, reach_sets, brings_start, entered, preceding_edges, preceded_sets, is_preceded}
use Rattle.report.proofs.NextLaws.{goes_next, next_goes, goes_placed, map_has, map_from}
use Rattle.report.proofs.PlaceLaws.{placed, place_at, at_placed, from_placed, among_all, of_some}
use Rattle.report.specs.Rules.{Copies, Place, Goes, ReachRules, Brings, PrecededRules}

-- ---- the sets that the edges begin with

module _ (n : ℕ) where
  abbrev mark_at : ℕ → ℕ
  mark_at p = cond (eqb p n) 1 0

  mark_at_below : (p : ℕ) → mark_at p < 2 ^ 64
  mark_at_below p = go (eqb p n)
    where
      go : (b : Bool) → cond b 1 0 < 2 ^ 64
      go true = omega arith
      go false = omega arith

  pub marked_sets : SetList (n + 1) (marked n)
  unfolding marked
  marked_sets = tabulate_sets (n + 1) mark_at mark_at_below

  mark_there : has (get_or (marked n) n 0) 0 ≡ true
  unfolding marked has
  mark_there = tabulate_has (n + 1) mark_at n 0 (omega arith) (ap (λ (b : Bool). has (cond b 1 0) 0) (eq-eqb n n refl))

  mark_alone : (p x : ℕ) → has (get_or (marked n) p 0) x ≡ true → p ≡ n
  unfolding marked
  mark_alone p x h = go (eqb p n) refl (tabulate_from_lem (n + 1) mark_at p x h).1
    where
      go : (b : Bool) → eqb p n ≡ b → has (cond b 1 0) x ≡ true → p ≡ n
      go true e h = eqb-true p n e
      go false e h = none_in x h

  -- what is so along edges: at the mark, and wherever an edge leads to from a place where it is so
  module _ (es : List Edge) where
    pub mark_so : is_marked (least es (marked n)) n ≡ true
    unfolding is_marked
    mark_so = (least_holds_start (n + 1) es (marked n) marked_sets).at n 0 mark_there

    pub so_along : (f t : ℕ) → Memᴰ (plain f t) es → t < n + 1 → is_marked (least es (marked n)) f ≡ true → is_marked (least es (marked n)) t ≡ true
    unfolding is_marked
    so_along f t m l h = least_edge (n + 1) es (marked n) marked_sets (plain f t) m l 0 h h

    -- and nowhere else
    pub so_induction : (P : ℕ → Type 0) → P n → ((e : Edge) → Memᴰ e es → P e.from → P e.to) → (p : ℕ) → is_marked (least es (marked n)) p ≡ true
        → P p
    unfolding is_marked
    so_induction P here f p h =
        least_induction (n + 1) es (marked n) marked_sets (λ q x. P q) (λ e m l x a b. f e m a)
        (λ q x g. subst P (sym (mark_alone q x g)) here) p 0 h

-- ---- copies that hold a START, or reach one by CALLs

abbrev pub Reaches : List ℕ → ℕ → Type 0
Reaches reach c = is_marked reach c ≡ true

module _ (t : Table) (k : Layout) (fits : Fits t k) where
  abbrev reach_at : ℕ → ℕ → ℕ → Statement → List Edge
  reach_at p c s σ = reach_edges k c s σ

  pub reach_rules : ReachRules (copies_of fits) (Reaches (reach_sets t k))
  unfolding reach_sets reach_edges
  reach_rules = record {
    by_start = λ c s q v e.
        so_along k.copies _ k.copies c
        (among_all t k fits reach_at _ c s v (statement t s) refl
        (Memᴰ.append_left _ (list_has (starts (view (statement t s))) (λ r. plain k.copies c ∷ []) _ e (Memᴰ.head refl))))
        (let l : c < k.copies = v.there in omega arith) (mark_so k.copies _);
    by_call = λ c s q v e h.
        so_along k.copies _ (k.leads c s) c
        (among_all t k fits reach_at _ c s v (statement t s) refl
        (Memᴰ.append_right (list_on (starts (view (statement t s))) (λ r. plain k.copies c ∷ [])) (list_has (calls (view (statement t s))) (λ r. plain (k.leads c s) c ∷ []) _ e (Memᴰ.head refl))))
        (let l : c < k.copies = v.there in omega arith) h;
  }

  module _ (other : ℕ → Type 0) (rules : ReachRules (copies_of fits) other) where
    reach_edge : (p : ℕ) → p < k.statements → (e : Edge) → Memᴰ e (reach_edges k (k.statement_copy p) (k.statement_at p) (statement t (k.statement_at p)))
        → (e.from < k.copies → other e.from) → e.to < k.copies → other e.to
    unfolding reach_edges
    reach_edge p l e m a b = go (Memᴰ.append_cases (list_on (starts (view σ)) (λ r. plain k.copies c ∷ [])) m)
      where
        c : ℕ
        c = k.statement_copy p

        s : ℕ
        s = k.statement_at p

        σ : Statement
        σ = statement t s

        v : Place (copies_of fits) c s
        v = place_at t k fits p l

        go : Memᴰ e (list_on (starts (view σ)) (λ r. plain k.copies c ∷ [])) ⊎ Memᴰ e (list_on (calls (view σ)) (λ r. plain (k.leads c s) c ∷ []))
            → other e.to
        go (inl m) =
            let o = list_from (starts (view σ)) (λ r. plain k.copies c ∷ []) e m in
            subst (λ (d : Edge). other d.to) (sym (Memᴰ.eq_of_singleton o.2)) (rules.by_start c s o.0 v o.1)
        go (inr m) =
            let o = list_from (calls (view σ)) (λ r. plain (k.leads c s) c ∷ []) e m in
            let i : e ≡ plain (k.leads c s) c = Memᴰ.eq_of_singleton o.2 in
            let there : k.leads c s < k.copies = fits.leads_there c s o.0 v.there v.inside (calls_names (view σ) o.1) in
            subst (λ (d : Edge). other d.to) (sym i)
            (rules.by_call c s o.0 v o.1 (subst (λ (d : Edge). d.from < k.copies → other d.from) i a there))

    -- inside any that satisfy the rules
    pub reach_least : (c : ℕ) → c < k.copies → Reaches (reach_sets t k) c → other c
    unfolding reach_sets
    reach_least c l h =
        so_induction k.copies _ (λ p. p < k.copies → other p) (λ b. absurd (omega arith))
        (λ e m a b. let r = of_some t k fits reach_at e m in reach_edge r.0 r.1 e r.2 a b) c h l

-- ---- statements that a START can precede

-- a START can precede statement s of copy c
abbrev pub Preceded : Layout → List ℕ → ℕ → ℕ → Type 0
Preceded k preceded c s = is_preceded k preceded (k.statement_place c s) ≡ true

test_from : (r : Option ℕ) (f : ℕ → Bool) → test_on r f ≡ true → On r (λ n. f n ≡ true)
test_from (Some n) f h = (n, refl, h)
test_from None f h = never (sym h)

module _ (t : Table) (k : Layout) (acc : Accepted t) (fits : Fits t k) (reach : List ℕ) where
  -- ---- a START, or a CALL that reaches one, as a test and by the rule

  brings_is : (c s : ℕ) (σ : Statement) → Brings (copies_of fits) (Reaches reach) c s σ → brings_start k reach c s σ ≡ true
  unfolding brings_start
  brings_is c s σ (inl (q, e, u)) = or_left _ (test_on (calls (view σ)) (λ r. is_marked reach (k.leads c s))) (test_is (starts (view σ)) (λ r. true) e)
  brings_is c s σ (inr (q, e, h)) = or_right (test_on (starts (view σ)) (λ r. true)) _ (test_is (calls (view σ)) (λ r. is_marked reach (k.leads c s)) e ∙ h)

  is_brings : (c s : ℕ) (σ : Statement) → brings_start k reach c s σ ≡ true → Brings (copies_of fits) (Reaches reach) c s σ
  unfolding brings_start
  is_brings c s σ h =
      ⊎_elim (λ a. inl (let o = test_from (starts (view σ)) (λ r. true) a in (o.0, o.1, tt)))
      (λ b. inr (test_from (calls (view σ)) (λ r. is_marked reach (k.leads c s)) b))
      (or_cases (test_on (starts (view σ)) (λ r. true)) (test_on (calls (view σ)) (λ r. is_marked reach (k.leads c s))) h)

  -- ---- the edges of a statement, in three parts

  abbrev origin : ℕ → ℕ → ℕ → Statement → ℕ
  origin p c s σ = cond (brings_start k reach c s σ) (entered k k.copies) p

  abbrev onward : ℕ → ℕ → ℕ → Statement → List Edge
  onward p c s σ = map (λ (n : ℕ). plain (origin p c s σ) (k.statement_place c n)) (nexts s σ)

  abbrev edges_by_start : ℕ → ℕ → Statement → List Edge
  edges_by_start c s σ = list_on (starts (view σ)) (λ q. plain (entered k k.copies) (entered k (k.leads c s)) ∷ [])

  abbrev edges_by_call : ℕ → ℕ → ℕ → Statement → List Edge
  edges_by_call p c s σ = list_on (calls (view σ)) (λ q. plain p (entered k (k.leads c s)) ∷ plain (entered k c) (entered k (k.leads c s)) ∷ [])

  abbrev sets : List ℕ
  sets = preceded_sets t k reach

  along : (c s : ℕ) → Place (copies_of fits) c s → (f g : ℕ)
      → Memᴰ (plain f g) (onward (k.statement_place c s) c s (statement t s) ++ (edges_by_start c s (statement t s) ++ edges_by_call (k.statement_place c s) c s (statement t s)))
      → g < k.statements + k.copies → is_marked sets f ≡ true → is_marked sets g ≡ true
  unfolding preceded_sets preceding_edges
  along c s v f g m l h =
      so_along (k.statements + k.copies) _ f g
      (among_all t k fits (λ p d z τ. onward p d z τ ++ (edges_by_start d z τ ++ edges_by_call p d z τ)) (plain f g) c s v (statement t s) refl m) (omega arith) h

  start_so : is_marked sets (entered k k.copies) ≡ true
  unfolding preceded_sets entered
  start_so = mark_so (k.statements + k.copies) _

  -- ---- at the place of a statement, or at that of its copy

  of_own : (c s : ℕ) → is_marked sets (k.statement_place c s) ≡ true → Preceded k sets c s
  unfolding is_preceded
  of_own c s h = or_left _ (is_marked sets (entered k (k.statement_copy (k.statement_place c s)))) h

  of_entered : (c s : ℕ) → Place (copies_of fits) c s → is_marked sets (entered k c) ≡ true → Preceded k sets c s
  unfolding is_preceded
  of_entered c s v h =
      or_right (is_marked sets (k.statement_place c s)) _ (ap (λ (d : ℕ). is_marked sets (entered k d)) (placed t k fits c s v).copy ∙ h)

  own_or_entered : (c s : ℕ) → Place (copies_of fits) c s → Preceded k sets c s
      → (is_marked sets (k.statement_place c s) ≡ true) ⊎ (is_marked sets (entered k c) ≡ true)
  unfolding is_preceded
  own_or_entered c s v h =
      ⊎_elim (λ a. inl a) (λ b. inr (ap (λ (d : ℕ). is_marked sets (entered k d)) (sym (placed t k fits c s v).copy) ∙ b))
      (or_cases (is_marked sets (k.statement_place c s)) (is_marked sets (entered k (k.statement_copy (k.statement_place c s)))) h)

  -- ---- the rules

  entered_below : (c : ℕ) → c < k.copies → entered k c < k.statements + k.copies
  unfolding entered
  entered_below c l = omega arith

  -- what may follow a statement
  goes_so : (c s n : ℕ) → Place (copies_of fits) c s → Goes s (statement t s) n → is_marked sets (origin (k.statement_place c s) c s (statement t s)) ≡ true
      → Preceded k sets c n
  goes_so c s n v g h =
      let p : ℕ = k.statement_place c s in
      let there : k.statement_place c n < k.statements = (placed t k fits c n (goes_placed t k acc fits c s n v g)).there in
      of_own c n
      (along c s v (origin p c s (statement t s)) (k.statement_place c n)
      (Memᴰ.append_left (edges_by_start c s (statement t s) ++ edges_by_call p c s (statement t s)) (map_has (λ (m : ℕ). plain (origin p c s (statement t s)) (k.statement_place c m)) _ n (goes_next s (statement t s) n g)))
      (omega arith) h)

  -- the copy that a START leads to
  start_enters : (c s q : ℕ) → Place (copies_of fits) c s → starts (view (statement t s)) ≡ Some q → k.leads c s < k.copies
      → is_marked sets (entered k (k.leads c s)) ≡ true
  start_enters c s q v e l =
      along c s v (entered k k.copies) (entered k (k.leads c s))
      (Memᴰ.append_right (onward (k.statement_place c s) c s (statement t s))
      (Memᴰ.append_left (edges_by_call (k.statement_place c s) c s (statement t s)) (list_has (starts (view (statement t s))) (λ r. plain (entered k k.copies) (entered k (k.leads c s)) ∷ []) _ e (Memᴰ.head refl))))
      (entered_below (k.leads c s) l) start_so

  -- and a CALL that a START can precede
  call_enters : (c s q : ℕ) → Place (copies_of fits) c s → calls (view (statement t s)) ≡ Some q → k.leads c s < k.copies → Preceded k sets c s
      → is_marked sets (entered k (k.leads c s)) ≡ true
  call_enters c s q v e l h =
      ⊎_elim (λ a. from (k.statement_place c s) (Memᴰ.head refl) a) (λ b. from (entered k c) (Memᴰ.tail (Memᴰ.head refl)) b) (own_or_entered c s v h)
    where
      d : ℕ
      d = k.leads c s

      both : List Edge
      both = plain (k.statement_place c s) (entered k d) ∷ plain (entered k c) (entered k d) ∷ []

      from : (f : ℕ) → Memᴰ (plain f (entered k d)) both → is_marked sets f ≡ true → is_marked sets (entered k d) ≡ true
      from f m h =
          along c s v f (entered k d)
          (Memᴰ.append_right (onward (k.statement_place c s) c s (statement t s))
          (Memᴰ.append_right (edges_by_start c s (statement t s)) (list_has (calls (view (statement t s))) (λ r. both) _ e m)))
          (entered_below d l) h

  pub preceded_rules : PrecededRules (copies_of fits) (Reaches reach) (Preceded k sets)
  preceded_rules = record {
    by_start = λ c s z q v e u. of_entered (k.leads c s) z u (start_enters c s q v e u.there);
    by_call = λ c s z q v e u h. of_entered (k.leads c s) z u (call_enters c s q v e u.there h);
    next = λ c s n v u g b.
        goes_so c s n v g
        (ap (λ (x : Bool). is_marked sets (cond x (entered k k.copies) (k.statement_place c s))) (brings_is c s (statement t s) b) ∙ start_so);
    later = λ c s n v u g h.
        ⊎_elim (λ a. goes_so c s n v g (either_way (brings_start k reach c s (statement t s)) (k.statement_place c s) a)) (λ b. of_entered c n u b)
        (own_or_entered c s v h);
  }
    where
      either_way : (x : Bool) (p : ℕ) → is_marked sets p ≡ true → is_marked sets (cond x (entered k k.copies) p) ≡ true
      either_way true p h = start_so
      either_way false p h = h

  -- ---- the least

  module _ (other : ℕ → ℕ → Type 0) (rules : PrecededRules (copies_of fits) (Reaches reach) other) where
    -- what a place says: of its statement, or of every statement of its copy
    record So (p : ℕ) : Type 0 where
      here : p < k.statements → other (k.statement_copy p) (k.statement_at p)
      every : (c z : ℕ) → p ≡ entered k c → Place (copies_of fits) c z → other c z

    so_start : So (entered k k.copies)
    unfolding entered
    so_start = record { here = λ l. absurd (omega arith); every = λ c z e v. let l : c < k.copies = v.there in absurd (omega arith) }

    so_statement : (p : ℕ) → p < k.statements → other (k.statement_copy p) (k.statement_at p) → So p
    unfolding entered
    so_statement p l a = record { here = λ m. a; every = λ c z e v. absurd (omega arith) }

    so_placed : (c s : ℕ) → Place (copies_of fits) c s → other c s → So (k.statement_place c s)
    so_placed c s v a = so_statement (k.statement_place c s) (placed t k fits c s v).there (at_placed t k fits (λ p d z τ. other d z) c s v (statement t s) refl a)

    so_copy : (d : ℕ) → ((z : ℕ) → Place (copies_of fits) d z → other d z) → So (entered k d)
    unfolding entered
    so_copy d f = record {
      here = λ l. absurd (omega arith);
      every = λ c z e v. let i : d ≡ c = omega arith in subst (λ (b : ℕ). other b z) i (f z (subst (λ (b : ℕ). Place (copies_of fits) b z) (sym i) v));
    }

    module _ (p : ℕ) (l : p < k.statements) where
      c : ℕ
      c = k.statement_copy p

      s : ℕ
      s = k.statement_at p

      σ : Statement
      unfolding s
      σ = statement t s

      v : Place (copies_of fits) c s
      unfolding c s
      v = place_at t k fits p l

      follow : (n : ℕ) → Goes s σ n → So (origin p c s σ) → So (k.statement_place c n)
      unfolding c s σ
      follow n g a = go (brings_start k reach c s σ) refl a
        where
          u : Place (copies_of fits) c n
          u = goes_placed t k acc fits c s n v g

          go : (b : Bool) → brings_start k reach c s σ ≡ b → So (cond b (entered k k.copies) p) → So (k.statement_place c n)
          go true e a = so_placed c n u (rules.next c s n v u g (is_brings c s σ e))
          go false e a = so_placed c n u (rules.later c s n v u g (a.here l))

      enter : (q f : ℕ) → calls (view σ) ≡ Some q → (So f → other c s) → So f → So (entered k (k.leads c s))
      unfolding c s σ
      enter q f e known a = so_copy (k.leads c s) (λ z u. rules.by_call c s z q v e u (known a))

      goes_along : (e : Edge) → Memᴰ e (onward p c s σ ++ (edges_by_start c s σ ++ edges_by_call p c s σ)) → So e.from → So e.to
      unfolding c s σ
      goes_along e m a = go (Memᴰ.append_cases (onward p c s σ) m)
        where
          along_edge : (f g : ℕ) → e ≡ plain f g → (So f → So g) → So e.to
          along_edge f g i h = subst (λ (d : Edge). So d.to) (sym i) (h (subst (λ (d : Edge). So d.from) i a))

          called : (q : ℕ) → calls (view σ) ≡ Some q → Memᴰ e (plain p (entered k (k.leads c s)) ∷ plain (entered k c) (entered k (k.leads c s)) ∷ []) → So e.to
          called q w (Memᴰ.head i) = along_edge p (entered k (k.leads c s)) i (enter q p w (λ b. b.here l))
          called q w (Memᴰ.tail m) =
              along_edge (entered k c) (entered k (k.leads c s)) (Memᴰ.eq_of_singleton m) (enter q (entered k c) w (λ b. b.every c s refl v))

          naming : Memᴰ e (edges_by_start c s σ) ⊎ Memᴰ e (edges_by_call p c s σ) → So e.to
          naming (inl m) =
              let o = list_from (starts (view σ)) (λ q. plain (entered k k.copies) (entered k (k.leads c s)) ∷ []) e m in
              along_edge (entered k k.copies) (entered k (k.leads c s)) (Memᴰ.eq_of_singleton o.2)
              (λ b. so_copy (k.leads c s) (λ z u. rules.by_start c s z o.0 v o.1 u))
          naming (inr m) =
              let o = list_from (calls (view σ)) (λ q. plain p (entered k (k.leads c s)) ∷ plain (entered k c) (entered k (k.leads c s)) ∷ []) e m in
              called o.0 o.1 o.2

          go : Memᴰ e (onward p c s σ) ⊎ Memᴰ e (edges_by_start c s σ ++ edges_by_call p c s σ) → So e.to
          go (inl m) =
              let r = map_from (λ (n : ℕ). plain (origin p c s σ) (k.statement_place c n)) (nexts s σ) e m in
              along_edge (origin p c s σ) (k.statement_place c r.0) r.2 (follow r.0 (next_goes s σ r.0 r.1))
          go (inr m) = naming (Memᴰ.append_cases (edges_by_start c s σ) m)

    everywhere : (p : ℕ) → is_marked sets p ≡ true → So p
    unfolding preceded_sets preceding_edges entered c s σ
    everywhere =
        so_induction (k.statements + k.copies) _ So so_start
        (λ e m a. let r = of_some t k fits (λ p d z τ. onward p d z τ ++ (edges_by_start d z τ ++ edges_by_call p d z τ)) e m in goes_along r.0 r.1 e r.2 a)

    -- inside any sets that satisfy the rules
    pub preceded_least : (c s : ℕ) → Place (copies_of fits) c s → Preceded k sets c s → other c s
    preceded_least c s v h =
        ⊎_elim
        (λ a. from_placed t k fits (λ p d z τ. other d z) c s v (statement t s) refl ((everywhere (k.statement_place c s) a).here (placed t k fits c s v).there))
        (λ b. (everywhere (entered k c) b).every c s refl v) (own_or_entered c s v h)

-- ---- document 02's sentence, word for word

module _ {t : Table} (copies : Copies t) (reaches : ℕ → Type 0) (preceded : ℕ → ℕ → Type 0) where
  -- statement z "may follow", in its routine, statement s of copy c: in one step or more
  pub data Follows (c s : ℕ) : ℕ → Type 0 where
    next : {z : ℕ} → Place copies c z → Goes s (statement t s) z → Follows c s z
    later : {y z : ℕ} → Follows c s y → Place copies c y → Place copies c z → Goes y (statement t y) z → Follows c s z

  -- "its routine is named by a START": statement s of copy d leads to c
  pub record NamedByStart (c : ℕ) : Type 0 where
    pub copy : ℕ
    pub number : ℕ
    pub routine_named : ℕ
    pub place : Place copies copy number
    pub start : starts (view (statement t number)) ≡ Some routine_named
    pub leads_here : copies.leads copy number ≡ c

  -- "a START can precede some CALL of its routine"
  pub record PrecededCall (c : ℕ) : Type 0 where
    pub copy : ℕ
    pub number : ℕ
    pub routine_named : ℕ
    pub place : Place copies copy number
    pub call : calls (view (statement t number)) ≡ Some routine_named
    pub leads_here : copies.leads copy number ≡ c
    pub before : preceded copy number

  -- "it may follow, in its routine, a START or a CALL that reaches one by CALLs"
  pub record FollowsStart (c z : ℕ) : Type 0 where
    pub number : ℕ
    pub place : Place copies c number
    pub brings : Brings copies reaches c number (statement t number)
    pub follows : Follows c number z

  -- "A START can precede a statement if" one of the three
  abbrev pub Sentence : ℕ → ℕ → Type 0
  Sentence c z = NamedByStart c ⊎ (PrecededCall c ⊎ FollowsStart c z)

  -- the three clauses follow from the rules
  module _ (rules : PrecededRules copies reaches preceded) where
    followed : (c s z : ℕ) → Place copies c s → Brings copies reaches c s (statement t s) → Follows c s z → preceded c z
    followed c s z v b (next u g) = rules.next c s z v u g b
    followed c s z v b (later {y} f w u g) = rules.later c y z w u g (followed c s y v b f)

    pub sentence_precedes : (c z : ℕ) → Place copies c z → Sentence c z → preceded c z
    sentence_precedes c z u (inl n) =
        subst (λ (d : ℕ). preceded d z) n.leads_here
        (rules.by_start n.copy n.number z n.routine_named n.place n.start (subst (λ (d : ℕ). Place copies d z) (sym n.leads_here) u))
    sentence_precedes c z u (inr (inl n)) =
        subst (λ (d : ℕ). preceded d z) n.leads_here
        (rules.by_call n.copy n.number z n.routine_named n.place n.call (subst (λ (d : ℕ). Place copies d z) (sym n.leads_here) u) n.before)
    sentence_precedes c z u (inr (inr f)) = followed c f.number z f.place f.brings f.follows

  -- and they are the only ways: what is preceded and by one of the three satisfies the rules
  abbrev Both : ℕ → ℕ → Type 0
  Both c z = preceded c z × Sentence c z

  sentence_rules : PrecededRules copies reaches preceded → PrecededRules copies reaches Both
  sentence_rules rules = record {
    by_start = λ c s z q v e u.
        (rules.by_start c s z q v e u, inl (record { copy = c; number = s; routine_named = q; place = v; start = e; leads_here = refl }));
    by_call = λ c s z q v e u b. (
      rules.by_call c s z q v e u b.0,
      inr (inl (record { copy = c; number = s; routine_named = q; place = v; call = e; leads_here = refl; before = b.0 })),
    );
    next = λ c s z v u g b. (rules.next c s z v u g b, inr (inr (record { number = s; place = v; brings = b; follows = next u g })));
    later = λ c s z v u g b. (rules.later c s z v u g b.0, on c s z v u g b.1);
  }
    where
      on : (c s z : ℕ) → Place copies c s → Place copies c z → Goes s (statement t s) z → Sentence c s → Sentence c z
      on c s z v u g (inl n) = inl n
      on c s z v u g (inr (inl n)) = inr (inl n)
      on c s z v u g (inr (inr f)) = inr (inr (record { number = f.number; place = f.place; brings = f.brings; follows = later f.follows v u g }))

-- a START can precede a statement exactly if document 02's sentence says so
pub preceded_exactly : (t : Table) (k : Layout) (acc : Accepted t) (fits : Fits t k) (reach : List ℕ) (c z : ℕ) → Place (copies_of fits) c z
    → Preceded k (preceded_sets t k reach) c z ↔ Sentence (copies_of fits) (Reaches reach) (Preceded k (preceded_sets t k reach)) c z
preceded_exactly t k acc fits reach c z v =
    let rules = preceded_rules t k acc fits reach in (
      λ h. (preceded_least t k acc fits reach _ (sentence_rules (copies_of fits) (Reaches reach) (Preceded k (preceded_sets t k reach)) rules) c z v h).1,
      sentence_precedes (copies_of fits) (Reaches reach) (Preceded k (preceded_sets t k reach)) rules c z v,
    )
