-- What the report says of a cell and of a GIVE, by the rules: common locks, unguarded, stray. Assumes nothing.
use Prim.Native.Nat.{ℕ, ◌^◌, ◌<◌}
use Rattle.std.specs.Prelude.{◌≡◌, Bool, not, ◌&&◌, ◌||◌, ◌⊎◌, ◌↔◌, length, Option, Some, None}
use Rattle.std.proofs.Math.Path.{refl, sym, ap, subst}
use Rattle.std.proofs.Common.{◌∙◌, eqb-true, eq-eqb}
use Rattle.std.proofs.Math.Bool.{true, false, cond}
use Rattle.std.proofs.Math.Logic.{inl, inr}
use mathlib.Core.List.{Memᴰ}
use Rattle.std.specs.Int.Count.{count_trailing_zeros}
use Rattle.std.proofs.Math.ListN.{get_or}
use Rattle.std.proofs.lemmas.Bool.{not-false, and_parts, or_cases, and_from, or_left, or_right}
use Rattle.sets.specs.Set.{has, subset, is_empty, is_single, count}
use Rattle.sets.proofs.SetLaws.{has_beyond, below_of_has, firsts_below, subset_has, has_subset, single_is_one, has_one, lowest_some, lowest_is}
use Rattle.table.specs.Table.{Table, statement}
use Rattle.table.specs.View.{view, on_or, test_on}
use Rattle.table.proofs.ViewLaws.{nothing_to, write_alone, test_is}
use Rattle.table.specs.Accepted.{Accepted}
use Rattle.table.specs.declared.Statement.{Statement}
use Rattle.report.specs.Over.{union_at}
use Rattle.report.proofs.OverLaws.{never, none_in, not_has, inter_at, inter_inside, inter_has, union_at_has, union_at_from, below_within, within_below}
use Rattle.report.specs.Layout.{Layout}
use Rattle.report.specs.Fits.{Fits, StatementPlaced, copies_of}
use Rattle.report.specs.Operations.{accessed, reading, writing}
use Rattle.report.specs.Flow.{flow_at}
use Rattle.report.proofs.FlowLaws.{flow_sets_lem}
use Rattle.report.proofs.EffectLaws.{accessed_accesses, accesses_accessed}
use Rattle.report.specs.Held.{all_locks}
use Rattle.report.proofs.HeldLaws.{single_only, only_single}
use Rattle.report.specs.Findings.{Sets, sets_of, shared_cells, own_access, touches_at, counted_at, own_held, common_locks, is_unguarded, stray_by, stray_at, is_stray}
use Rattle.report.specs.Preceded.{is_preceded}
use Rattle.report.proofs.PlaceLaws.{placed, place_at, at_placed, from_placed}
use Rattle.report.proofs.ReportRules.{held_list, families}
use Rattle.report.specs.Rules.{Place, Accesses, Common, Sound}

-- ---- a mark, and a set that is not empty

pub mark : (b : Bool) → has (cond b 1 0) 0 ≡ b
unfolding has
mark true = refl
mark false = refl

pub some_element : (s : ℕ) → s < 2 ^ 64 → is_empty s ≡ false → (i : ℕ) × (has s i ≡ true)
some_element s l e = (count_trailing_zeros 64 s, (lowest_is s (count_trailing_zeros 64 s) l (lowest_some s e)).0)

single_has : (s : ℕ) → s < 2 ^ 64 → is_single s ≡ true → (i : ℕ) × (has s i ≡ true)
unfolding is_single
single_has s l e =
    let r = single_is_one s l (eqb-true (count s) 1 e) in
    (count_trailing_zeros 64 s, ap (λ (x : ℕ). has x (count_trailing_zeros 64 s)) r.1 ∙ has_one (count_trailing_zeros 64 s) (count_trailing_zeros 64 s) r.0 ∙ eq-eqb (count_trailing_zeros 64 s) (count_trailing_zeros 64 s) refl)

pub empty_has {ℓ} : {C : Type ℓ} (s i : ℕ) → is_empty s ≡ true → has s i ≡ true → C
unfolding is_empty
empty_has s i e h = none_in i (ap (λ (x : ℕ). has x i) (sym (eqb-true s 0 e)) ∙ h)

-- a GIVE is no WRITE: what is held in the way of a statement's access is, at a GIVE, what is held in either way
pub stray_own : (flow : ℕ → ℕ) (to_write either_way : ℕ) (σ : Statement) → stray_by flow (on_or (view σ).writes (λ h. to_write) either_way) σ ≡ stray_by flow either_way σ
unfolding stray_by
stray_own flow to_write either_way σ = go (view σ).writes refl
  where
    go : (r : Option ℕ) → (view σ).writes ≡ r
        → test_on (view σ).gives (λ h. not (is_single (flow h) && subset (flow h) (on_or r (λ h. to_write) either_way)))
        ≡ test_on (view σ).gives (λ h. not (is_single (flow h) && subset (flow h) either_way))
    go (Some x) e = rw (write_alone σ e).1
    go None e = refl

module _ (t : Table) (k : Layout) (acc : Accepted t) (fits : Fits t k) where
  abbrev the_sets : Sets
  the_sets = sets_of t k

  flow_below : (i : ℕ) → get_or the_sets.flow i 0 < 2 ^ 64
  unfolding sets_of
  flow_below = (flow_sets_lem t k acc fits).below

  -- ---- accesses

  accesses_touch : (c s : ℕ) (w : Bool) (x : ℕ) → Place (copies_of fits) c s → Accesses (copies_of fits) (families t k).flow c (statement t s) w x
      → touches_at t k the_sets x (k.statement_place c s) ≡ true
  unfolding touches_at own_access
  accesses_touch c s w x v a =
      at_placed t k fits
      (λ p d z τ. (has (accessed reading (flow_at k the_sets.flow d) τ) x || has (accessed writing (flow_at k the_sets.flow d) τ) x) ≡ true)
      c s v (statement t s) refl (go w (accesses_accessed t k fits the_sets.flow flow_below c w x (statement t s) a))
    where
      go : (w : Bool) → has (accessed w (flow_at k the_sets.flow c) (statement t s)) x ≡ true
          → (has (accessed reading (flow_at k the_sets.flow c) (statement t s)) x || has (accessed writing (flow_at k the_sets.flow c) (statement t s)) x) ≡ true
      go true h = or_right (has (accessed reading (flow_at k the_sets.flow c) (statement t s)) x) _ h
      go false h = or_left _ (has (accessed writing (flow_at k the_sets.flow c) (statement t s)) x) h

  touch_accesses : (p x : ℕ) → touches_at t k the_sets x p ≡ true
      → (w : Bool) × Accesses (copies_of fits) (families t k).flow (k.statement_copy p) (statement t (k.statement_at p)) w x
  unfolding touches_at own_access
  touch_accesses p x h = go (or_cases _ _ h)
    where
      go : (has (own_access t k the_sets reading p) x ≡ true) ⊎ (has (own_access t k the_sets writing p) x ≡ true)
          → (w : Bool) × Accesses (copies_of fits) (families t k).flow (k.statement_copy p) (statement t (k.statement_at p)) w x
      go (inl a) = (false, accessed_accesses t k fits the_sets.flow flow_below (k.statement_copy p) false x (statement t (k.statement_at p)) a)
      go (inr a) = (true, accessed_accesses t k fits the_sets.flow flow_below (k.statement_copy p) true x (statement t (k.statement_at p)) a)

  -- ---- common locks: exactly the locks that are held, in the way of each, at all accesses that a START can precede

  -- what is held at a place, in the way of an access there
  held_by_way : (p : ℕ) (w : Bool) (x : ℕ) → Accesses (copies_of fits) (families t k).flow (k.statement_copy p) (statement t (k.statement_at p)) w x
      → own_held t k the_sets p ≡ get_or (held_list the_sets w) p 0
  unfolding own_held
  held_by_way p true x (h, e, a) = rw e
  held_by_way p false x (h, e, a) = go (view (statement t (k.statement_at p))).writes refl
    where
      go : (r : Option ℕ) → (view (statement t (k.statement_at p))).writes ≡ r
          → on_or r (λ h. get_or the_sets.held_to_write p 0) (get_or the_sets.held p 0) ≡ get_or the_sets.held p 0
      go (Some y) i = nothing_to (sym (write_alone (statement t (k.statement_at p)) i).0 ∙ e)
      go None i = refl

  pub common_has : (x l : ℕ) → has (all_locks t) l ≡ true → Common (copies_of fits) (families t k).flow (families t k).held (families t k).preceded x l
      → has (common_locks t k the_sets x) l ≡ true
  unfolding common_locks counted_at
  common_has x l a f =
      inter_has (all_locks t) 0 k.statements _ l a (λ p w. go p (within_below w) (counted_at t k the_sets x p) refl)
    where
      go : (p : ℕ) → p < k.statements → (b : Bool) → counted_at t k the_sets x p ≡ b → has (cond b (own_held t k the_sets p) (all_locks t)) l ≡ true
      go p m true e =
          let b = and_parts (touches_at t k the_sets x p) (is_preceded k the_sets.preceded p) e in
          let r = touch_accesses p x b.0 in
          let back : k.statement_place (k.statement_copy p) (k.statement_at p) ≡ p = (fits.statement_there p m).back in
          ap (λ (y : ℕ). has y l) (held_by_way p r.0 x r.1)
          ∙ subst (λ (z : ℕ). has (get_or (held_list the_sets r.0) z 0) l ≡ true) back
          (f (k.statement_copy p) (k.statement_at p) r.0 (place_at t k fits p m) r.1 (ap (is_preceded k the_sets.preceded) back ∙ b.1))
      go p m false e = a

  pub common_from : (x l : ℕ) → has (common_locks t k the_sets x) l ≡ true
      → (has (all_locks t) l ≡ true) × Common (copies_of fits) (families t k).flow (families t k).held (families t k).preceded x l
  unfolding common_locks counted_at
  common_from x l h = (
    inter_inside (all_locks t) 0 k.statements _ l h,
    λ c s w v a g.
        ap (λ (y : ℕ). has y l) (sym (held_by_way (k.statement_place c s) w x (here c s w v a)))
        ∙ ap (λ (b : Bool). has (cond b (own_held t k the_sets (k.statement_place c s)) (all_locks t)) l) (sym (and_from _ _ (accesses_touch c s w x v a) g))
        ∙ inter_at (all_locks t) 0 k.statements _ (k.statement_place c s) l (below_within (placed t k fits c s v).there) h,
  )
    where
      here : (c s : ℕ) (w : Bool) → Place (copies_of fits) c s → Accesses (copies_of fits) (families t k).flow c (statement t s) w x
          → Accesses (copies_of fits) (families t k).flow (k.statement_copy (k.statement_place c s)) (statement t (k.statement_at (k.statement_place c s))) w x
      here c s w v = at_placed t k fits (λ p d z τ. Accesses (copies_of fits) (families t k).flow d τ w x) c s v (statement t s) refl

  common_below : (x : ℕ) → common_locks t k the_sets x < 2 ^ 64
  unfolding common_locks
  common_below x =
      below_of_has 64 (common_locks t k the_sets x)
      (λ i l. not_has (common_locks t k the_sets x) i (λ h. never (sym (common_from x i h).0 ∙ has_beyond 64 i (firsts_below t.locks) l)))

  -- ---- unguarded: exactly if shared and no lock is common

  pub unguarded_is : (x : ℕ) → is_unguarded (shared_cells t k the_sets) (common_locks t k the_sets x) x ≡ true
      → (families t k).shared x × ((l : ℕ) → has (all_locks t) l ≡ true → Common (copies_of fits) (families t k).flow (families t k).held (families t k).preceded x l → ⊥)
  unfolding is_unguarded
  unguarded_is x h =
      let b = and_parts (has (shared_cells t k the_sets) x) (is_empty (common_locks t k the_sets x)) h in
      (b.0, λ l a c. empty_has (common_locks t k the_sets x) l b.1 (common_has x l a c))

  pub unguarded_if : (x : ℕ) → (families t k).shared x
      → ((l : ℕ) → has (all_locks t) l ≡ true → Common (copies_of fits) (families t k).flow (families t k).held (families t k).preceded x l → ⊥)
      → is_unguarded (shared_cells t k the_sets) (common_locks t k the_sets x) x ≡ true
  unfolding is_unguarded
  unguarded_if x s n = and_from _ _ s (go (is_empty (common_locks t k the_sets x)) refl)
    where
      go : (b : Bool) → is_empty (common_locks t k the_sets x) ≡ b → is_empty (common_locks t k the_sets x) ≡ true
      go true e = e
      go false e =
          let r = some_element (common_locks t k the_sets x) (common_below x) e in
          let c = common_from x r.0 r.1 in
          absurd (n r.0 c.0 c.1)

  -- a cell that is not unguarded is not shared or has a common lock
  pub guarded_is : (x : ℕ) → is_unguarded (shared_cells t k the_sets) (common_locks t k the_sets x) x ≡ false
      → ((families t k).shared x → ⊥) ⊎ ((l : ℕ) × Common (copies_of fits) (families t k).flow (families t k).held (families t k).preceded x l)
  unfolding is_unguarded
  guarded_is x h = go (is_empty (common_locks t k the_sets x)) refl
    where
      go : (b : Bool) → is_empty (common_locks t k the_sets x) ≡ b
          → ((families t k).shared x → ⊥) ⊎ ((l : ℕ) × Common (copies_of fits) (families t k).flow (families t k).held (families t k).preceded x l)
      go true e = inl (λ s. never (sym (and_from _ _ s e) ∙ h))
      go false e =
          let r = some_element (common_locks t k the_sets x) (common_below x) e in
          inr (r.0, (common_from x r.0 r.1).1)

  -- ---- stray: exactly the GIVEs that are not sound

  not_both : (a b : Bool) → not (a && b) ≡ false → (a ≡ true) × (b ≡ true)
  not_both a b h = and_parts a b (not-false (a && b) h)

  -- the test of a GIVE through handle h, where `locks` are held
  abbrev stray_through : ℕ → ℕ → ℕ → Bool
  stray_through c locks h = let F : ℕ = flow_at k the_sets.flow c h in not (is_single F && subset F locks)

  pub sound_if : (c s h : ℕ) → Place (copies_of fits) c s → (view (statement t s)).gives ≡ Some h → stray_at t k the_sets (k.statement_place c s) ≡ false
      → Sound (families t k).flow ((families t k).held false) c s h
  unfolding stray_at stray_by is_single
  sound_if c s h v e f =
      let F : ℕ = flow_at k the_sets.flow c h in
      let H : ℕ = get_or the_sets.held (k.statement_place c s) 0 in
      let b : (is_single F ≡ true) × (subset F H ≡ true) =
      not_both (is_single F) (subset F H)
      (sym (test_is (view (statement t s)).gives (stray_through c H) e)
      ∙ from_placed t k fits (λ p d z τ. stray_by (flow_at k the_sets.flow d) (get_or the_sets.held p 0) τ ≡ false) c s v (statement t s) refl f) in
      let i = single_has F (flow_below (k.handle_place c h)) b.0 in
      record {
        lock = i.0;
        one = single_only F (flow_below (k.handle_place c h)) b.0 i.0 i.1;
        before = subset_has F H b.1 i.0 i.1;
      }

  pub sound_is : (c s h : ℕ) → Place (copies_of fits) c s → (view (statement t s)).gives ≡ Some h → Sound (families t k).flow ((families t k).held false) c s h
      → stray_at t k the_sets (k.statement_place c s) ≡ false
  unfolding stray_at stray_by
  sound_is c s h v e o =
      let H : ℕ = get_or the_sets.held (k.statement_place c s) 0 in
      let sound : stray_through c H h ≡ false =
      rw (
        only_single (flow_at k the_sets.flow c h) o.lock (flow_below (k.handle_place c h)) o.one,
        has_subset (flow_at k the_sets.flow c h) H (λ y g. ap (has H) (o.one.alone y g) ∙ o.before),
      ) in
      at_placed t k fits (λ p d z τ. stray_by (flow_at k the_sets.flow d) (get_or the_sets.held p 0) τ ≡ false) c s v (statement t s) refl
      (test_is (view (statement t s)).gives (stray_through c H) e ∙ sound)

  -- a statement is a stray GIVE if it is one at some place

  pub stray_has : (s p : ℕ) → Memᴰ p (k.places_of s) → stray_at t k the_sets p ≡ true → is_stray t k the_sets s ≡ true
  unfolding is_stray
  stray_has s p m h = union_at_has (k.places_of s) (λ q. cond (stray_at t k the_sets q) 1 0) p 0 m (mark (stray_at t k the_sets p) ∙ h)

  pub stray_from : (s : ℕ) → is_stray t k the_sets s ≡ true → (p : ℕ) × Memᴰ p (k.places_of s) × (stray_at t k the_sets p ≡ true)
  unfolding is_stray
  stray_from s h =
      let r = union_at_from (k.places_of s) (λ q. cond (stray_at t k the_sets q) 1 0) 0 h in
      (r.0, r.1, sym (mark (stray_at t k the_sets r.0)) ∙ r.2)

  -- ---- a statement is counted exactly if it is an access in some copy

  counted_if : (c s : ℕ) (w : Bool) (x : ℕ) → Place (copies_of fits) c s → Accesses (copies_of fits) (families t k).flow c (statement t s) w x
      → has (union_at (k.places_of s) (own_access t k the_sets w)) x ≡ true
  unfolding own_access
  counted_if c s w x v a =
      let u : StatementPlaced k c s = placed t k fits c s v in
      union_at_has (k.places_of s) (own_access t k the_sets w) (k.statement_place c s) x
      (subst (λ (z : ℕ). Memᴰ (k.statement_place c s) (k.places_of z)) u.same (fits.statement_there (k.statement_place c s) u.there).among)
      (at_placed t k fits (λ p d z τ. has (accessed w (flow_at k the_sets.flow d) τ) x ≡ true) c s v (statement t s) refl (accesses_accessed t k fits the_sets.flow flow_below c w x (statement t s) a))

  counted_is : (s : ℕ) (w : Bool) (x : ℕ) → s < length t.statements → has (union_at (k.places_of s) (own_access t k the_sets w)) x ≡ true
      → (c : ℕ) × Place (copies_of fits) c s × Accesses (copies_of fits) (families t k).flow c (statement t s) w x
  unfolding own_access
  counted_is s w x l h =
      let r = union_at_from (k.places_of s) (own_access t k the_sets w) x h in
      let q : (r.0 < k.statements) × (k.statement_at r.0 ≡ s) = fits.places_of_lem s r.0 l r.1 in (
        k.statement_copy r.0,
        subst (Place (copies_of fits) (k.statement_copy r.0)) q.1 (place_at t k fits r.0 q.0),
        subst (λ (z : ℕ). Accesses (copies_of fits) (families t k).flow (k.statement_copy r.0) (statement t z) w x) q.1
            (accessed_accesses t k fits the_sets.flow flow_below (k.statement_copy r.0) w x (statement t (k.statement_at r.0)) r.2),
      )

  pub counted_exactly : (s : ℕ) (w : Bool) (x : ℕ) → s < length t.statements
      → (has (union_at (k.places_of s) (own_access t k the_sets w)) x ≡ true)
      ↔ ((c : ℕ) × Place (copies_of fits) c s × Accesses (copies_of fits) (families t k).flow c (statement t s) w x)
  counted_exactly s w x l = (counted_is s w x l, λ (c, v, a). counted_if c s w x v a)
