-- What the walk down the named routines reaches: a set that is closed under naming, and the least such. So where no routine reaches itself, the number of
-- routines reached falls along naming, and is below the number of routines. Assumes nothing.
use Rattle.std.proofs.lemmas.Bool.{and_parts}
use Rattle.std.specs.Prelude.{Option, Some, None, ◌≡◌, List, Bool, true, false, not, ◌||◌, eqb, ltb, get_or}
use Rattle.std.proofs.Math.Path.{refl}
use Rattle.std.proofs.Common.{sym, ◌∙◌, subst}
use Prim.Native.Nat.{ℕ, zero, suc, ◌+◌, ◌^◌, ◌≤◌, ◌<◌}
use native.Mathlib.Omega.{arith}
use borrow.Author.Tests.{ltb-true, ltb-false, lt-ltb, le-ltb, eqb-true, not-true}
use Rattle.sets.specs.Set.{has, firsts, union, minus, with, lowest, count}
use Rattle.sets.proofs.SetLaws.{has_union_left, has_union_right, union_cases, has_minus, has_with, has_empty, has_beyond, has_firsts, below_of_has, union_below, minus_below, count_with, count_below, count_inside_less, lowest_is, lowest_nothing}
use Rattle.table.specs.Naming.{walk, reached, is_acyclic, on_which}

-- i is in the set s
abbrev pub In : ℕ → ℕ → Type 0
In s i = has s i ≡ true

-- all of a is in b
abbrev pub Inside : ℕ → ℕ → Type 0
Inside a b = (i : ℕ) → In a i → In b i

-- a set of the first 32 has no other element
in_below : (s i : ℕ) → s < 2 ^ 32 → In s i → i < 32
in_below s i b h = go (ltb i 32) refl
  where
    go : (t : Bool) → ltb i 32 ≡ t → i < 32
    go true e = ltb-true i 32 e
    go false e =
        let z : true ≡ false = sym h ∙ has_beyond 32 i b (ltb-false i 32 e) in
        let w : ◌≡◌ {A = ℕ} 0 1 = cc in
        absurd (omega arith)

pub in_empty : {C : Type 0} (i : ℕ) → In 0 i → C
in_empty i h = let z : true ≡ false = sym h ∙ has_empty i in let w : ◌≡◌ {A = ℕ} 0 1 = cc in absurd (omega arith)

-- ---- a set with one element more

with_old : (s i j : ℕ) → i < 32 → In s j → In (with s i) j
with_old s i j b h = has_with s i j (omega arith) ∙ rw h

with_cases : {C : Type 0} (s i j : ℕ) → i < 32 → In (with s i) j → (In s j → C) → (j ≡ i → C) → C
with_cases {C} s i j b h old new = go (has s j) refl (sym (has_with s i j (omega arith)) ∙ h)
  where
    go : (t : Bool) → has s j ≡ t → (t || eqb j i) ≡ true → C
    go true e k = old e
    go false e k = new (eqb-true j i k)

with_bound : (s i : ℕ) → s < 2 ^ 32 → i < 32 → with s i < 2 ^ 32
with_bound s i b l = below_of_has 32 (with s i) (λ j k. go j k (has (with s i) j) refl)
  where
    go : (j : ℕ) → 32 ≤ j → (t : Bool) → has (with s i) j ≡ t → has (with s i) j ≡ false
    go j k true e = with_cases s i j l e (λ o. absurd (let q = in_below s j b o in omega arith)) (λ n. absurd (omega arith))
    go j k false e = e

-- ---- one call of the walk: `seen` gets one more, and what is left to do is what was, with what the one names, and not what is seen

minus_in : (a b i : ℕ) → In a i → has b i ≡ false → In (minus a b) i
minus_in a b i h k = has_minus a b i ∙ rw (h, k)

minus_out : (a b i : ℕ) → In (minus a b) i → (In a i) × (has b i ≡ false)
minus_out a b i h = let p = and_parts (has a i) (not (has b i)) (sym (has_minus a b i) ∙ h) in (p.0, not-true (has b i) p.1)

-- what is in a is in b or in what is left of a without b
parted : (a b i : ℕ) → In a i → In (union b (minus a b)) i
parted a b i h = go (has b i) refl
  where
    go : (t : Bool) → has b i ≡ t → In (union b (minus a b)) i
    go true e = has_union_left b (minus a b) i e
    go false e = has_union_right b (minus a b) i (minus_in a b i h e)

module _ (names : List ℕ) (small : (i : ℕ) → get_or names i 0 < 2 ^ 32) where
  -- the state of a walk: what is seen and what is to do are apart, and what a seen one names is one of both
  record Walking (worklist seen : ℕ) : Type 0 where
    worklist_small : worklist < 2 ^ 32
    seen_small : seen < 2 ^ 32
    apart : (i : ℕ) → In worklist i → has seen i ≡ false
    named : (i j : ℕ) → In seen i → In (get_or names i 0) j → In (union seen worklist) j

  -- a set that holds both and is closed under naming
  record Covers (worklist seen all : ℕ) : Type 0 where
    holds : Inside (union seen worklist) all
    closed : (i : ℕ) → In all i → Inside (get_or names i 0) all

  after : ℕ → ℕ → ℕ → ℕ
  after worklist seen i = minus (union worklist (get_or names i 0)) (with seen i)

  -- nothing that is seen or to do is lost
  kept : (worklist seen i j : ℕ) → i < 32 → In (union seen worklist) j → In (union (with seen i) (after worklist seen i)) j
  unfolding after
  kept worklist seen i j b h =
      union_cases seen worklist j
      (λ o. has_union_left (with seen i) (after worklist seen i) j (with_old seen i j b o))
      (λ o. parted (union worklist (get_or names i 0)) (with seen i) j (has_union_left worklist (get_or names i 0) j o))
      h

  walking_next : (worklist seen i : ℕ) → Walking worklist seen → In worklist i → i < 32 → Walking (after worklist seen i) (with seen i)
  unfolding after
  walking_next worklist seen i w h b =
      record {
        worklist_small = minus_below 32 (with seen i) (union_below 32 w.worklist_small (small i));
        seen_small = with_bound seen i w.seen_small b;
        apart = λ j k. (minus_out (union worklist (get_or names i 0)) (with seen i) j k).1;
        named = λ k j p q. with_cases seen i k b p
            (λ o. kept worklist seen i j b (w.named k j o q))
            (λ e. parted (union worklist (get_or names i 0)) (with seen i) j
            (has_union_right worklist (get_or names i 0) j (subst (λ (x : ℕ). In (get_or names x 0) j) e q)));
      }

  -- with all 32 seen there is nothing to do
  full : (worklist seen i : ℕ) → Walking worklist seen → 32 ≤ count seen → In worklist i → ⊥
  full worklist seen i w c h =
      let l = in_below worklist i w.worklist_small h in
      let more = count_with seen i (omega arith) (w.apart i h) in
      let most = count_below 32 (with seen i) (with_bound seen i w.seen_small l) in
      omega arith

  -- the walk ends with nothing to do
  done : (worklist seen : ℕ) → Walking worklist seen → ((i : ℕ) → In worklist i → ⊥) → Covers worklist seen seen
  done worklist seen w none =
      record {
        holds = λ i h. union_cases seen worklist i (λ o. o) (λ o. absurd (none i o)) h;
        closed = λ i h j k. union_cases seen worklist j (λ o. o) (λ o. absurd (none j o)) (w.named i j h k);
      }

  walk_covers : (left worklist seen : ℕ) → Walking worklist seen → 32 ≤ count seen + left → Covers worklist seen (walk names worklist seen left)
  unfolding walk after
  walk_covers zero worklist seen w c = done worklist seen w (λ i h. full worklist seen i w (omega arith) h)
  walk_covers (suc left) worklist seen w c = go (lowest worklist) refl (walk_covers left)
    where
      next : ℕ → ℕ
      next i = walk names (after worklist seen i) (with seen i) left

      go : (o : Option ℕ) → lowest worklist ≡ o → ((a b : ℕ) → Walking a b → 32 ≤ count b + left → Covers a b (walk names a b left)) → Covers worklist seen (on_which o seen next)
      go None e ih = done worklist seen w (λ i h. in_empty i (subst (λ (x : ℕ). In x i) (lowest_nothing worklist e) h))
      go (Some i) e ih =
          let small_worklist : worklist < 2 ^ 32 = w.worklist_small in
          let h : In worklist i = (lowest_is worklist i (omega arith) e).0 in
          let l : i < 32 = in_below worklist i small_worklist h in
          let more = count_with seen i (omega arith) (w.apart i h) in
          let r = ih (after worklist seen i) (with seen i) (walking_next worklist seen i w h l) (omega arith) in
          record { holds = λ j k. r.holds j (kept worklist seen i j l k); closed = r.closed }

  -- ---- the walk reaches nothing but what a closed set that holds its start holds

  walk_least : (all : ℕ) → ((i : ℕ) → In all i → Inside (get_or names i 0) all) → (left worklist seen : ℕ) → worklist < 2 ^ 32 → Inside worklist all → Inside seen all
      → Inside (walk names worklist seen left) all
  unfolding walk after
  walk_least all closed zero worklist seen b t s = s
  walk_least all closed (suc left) worklist seen b t s = go (lowest worklist) refl (walk_least all closed left)
    where
      next : ℕ → ℕ
      next i = walk names (after worklist seen i) (with seen i) left

      go : (o : Option ℕ) → lowest worklist ≡ o → ((a b : ℕ) → a < 2 ^ 32 → Inside a all → Inside b all → Inside (walk names a b left) all)
          → Inside (on_which o seen next) all
      go None e ih = s
      go (Some i) e ih =
          let h : In worklist i = (lowest_is worklist i (omega arith) e).0 in
          let l : i < 32 = in_below worklist i b h in
          ih (after worklist seen i) (with seen i) (minus_below 32 (with seen i) (union_below 32 b (small i)))
          (λ j k. union_cases worklist (get_or names i 0) j (t j) (closed i (t i h) j) (minus_out (union worklist (get_or names i 0)) (with seen i) j k).0)
          (λ j k. with_cases seen i j l k (s j) (λ e'. subst (In all) (sym e') (t i h)))

  -- ---- what a routine reaches

  reached_covers : (r : ℕ) → Covers (get_or names r 0) 0 (reached names r)
  unfolding reached
  reached_covers r =
      let start : Walking (get_or names r 0) 0 =
      record { worklist_small = small r; seen_small = omega arith; apart = λ i h. has_empty i; named = λ i j h k. in_empty i h } in
      walk_covers 32 (get_or names r 0) 0 start (omega arith)

  pub reached_named : (r : ℕ) → Inside (get_or names r 0) (reached names r)
  reached_named r q h = (reached_covers r).holds q (has_union_right 0 (get_or names r 0) q h)

  pub reached_closed : (r i : ℕ) → In (reached names r) i → Inside (get_or names i 0) (reached names r)
  reached_closed r = (reached_covers r).closed

  -- nothing but what a closed set that holds what it names holds
  reached_least : (all r : ℕ) → ((i : ℕ) → In all i → Inside (get_or names i 0) all) → Inside (get_or names r 0) all → Inside (reached names r) all
  unfolding reached
  reached_least all r closed holds = walk_least all closed 32 (get_or names r 0) 0 (small r) holds (λ j k. in_empty j k)

  -- what a named routine reaches, the naming one reaches
  pub reached_inside : (r q : ℕ) → In (get_or names r 0) q → Inside (reached names q) (reached names r)
  reached_inside r q h = reached_least (reached names r) q (reached_closed r) (reached_closed r q (reached_named r q h))

  -- the number of routines reached falls along naming, to a routine that does not reach itself
  pub reached_falls : (r q : ℕ) → In (get_or names r 0) q → is_acyclic names q ≡ true → count (reached names q) < count (reached names r)
  unfolding is_acyclic
  reached_falls r q h a =
      let l = in_below (get_or names r 0) q (small r) h in
      let out = not-true (has (reached names q) q) a in
      count_inside_less (reached names q) (reached names r) q (reached_inside r q h) (omega arith) out (reached_named r q h)

  -- where all that is named is below n, a routine below n that does not reach itself reaches fewer than n
  pub reached_fewer : (n r : ℕ) → n ≤ 32 → ((i q : ℕ) → In (get_or names i 0) q → q < n) → r < n → is_acyclic names r ≡ true → count (reached names r) < n
  unfolding is_acyclic
  reached_fewer n r few there low a =
      let less = count_inside_less (reached names r) (firsts n) r (reached_least (firsts n) r (λ i h q k. first q (there i q k)) (λ q k. first q (there r q k)))
      (omega arith) (not-true (has (reached names r) r) a) (first r low) in
      let most = count_below n (firsts n) (below_of_has n (firsts n) (λ i b. has_firsts n i (omega arith) ∙ le-ltb i n b)) in
      omega arith
    where
      first : (q : ℕ) → q < n → In (firsts n) q
      first q b = has_firsts n q (omega arith) ∙ lt-ltb q n b
