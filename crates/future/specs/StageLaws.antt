-- Least lists in two stages. Places stand in groups: edges go within a group (inner), from a group's own place to each of its places, and from the place
-- of a call to the group that is called. The inner edges first, then what comes to the groups, then once from each group to its places. Assumes nothing.
use Rattle.std.specs.Prelude.{◌≡◌, Bool, ◌⊎◌, ℕ, ◌+◌, ◌^◌, ◌<◌, get_or}
use Rattle.std.proofs.Math.Path.{refl, subst}
use Rattle.std.proofs.Common.{sym, ltb-true, lt-ltb}
use Rattle.std.proofs.Math.Bool.{true, false, cond}
use Rattle.std.proofs.Math.Logic.{inl, inr}
use mathlib.Core.List.{List, Memᴰ}
use native.Mathlib.Omega.{arith}
use Rattle.std.proofs.Math.Dec.{ltb}
use Rattle.sets.specs.Set.{has, union}
use Rattle.sets.proofs.SetLaws.{has_union_left, has_union_right, union_cases, union_below}
use Rattle.sets.specs.Least.{SetList, Inside, Edge, plain, least, Held}
use Rattle.sets.proofs.InsideLaws.{inside_trans}
use Rattle.sets.proofs.LeastLaws.{least_sets, least_holds_start, least_closed, least_edge, least_inside, least_is, least_induction}
use Rattle.table.specs.Tabulate.{tabulate}
use Rattle.report.proofs.OverLaws.{has_place, tabulate_sets, tabulate_has, tabulate_from_lem}

-- n places in m groups, whose own places stand behind them; a call is from a place to a group
pub record Groups (n m : ℕ) (owner : ℕ → ℕ) (call : ℕ → ℕ → Type 0) (all inner outer : List Edge) : Type 0 where
  pub owner_there : (p : ℕ) → p < n → owner p < m
  pub call_there : (p g : ℕ) → call p g → (p < n) × (g < m)
  -- the edges are the inner ones, one from each place's group, and one for each call
  pub cases : (e : Edge) → Memᴰ e all
      → Memᴰ e inner ⊎ (((p : ℕ) × (p < n) × (e ≡ plain (n + owner p) p)) ⊎ ((p : ℕ) × (g : ℕ) × call p g × (e ≡ plain p (n + g))))
  pub has_inner : (e : Edge) → Memᴰ e inner → Memᴰ e all
  pub has_owner : (p : ℕ) → p < n → Memᴰ (plain (n + owner p) p) all
  pub has_call : (p g : ℕ) → call p g → Memᴰ (plain p (n + g)) all
  -- inner edges stay in a group
  pub within : (e : Edge) → Memᴰ e inner → (f : ℕ) × (t : ℕ) × (e ≡ plain f t) × (f < n) × (t < n) × (owner f ≡ owner t)
  -- the second stage: from the place of a call and from its group
  pub outer_cases : (e : Edge) → Memᴰ e outer → (p : ℕ) × (g : ℕ) × call p g × ((e ≡ plain p (n + g)) ⊎ (e ≡ plain (n + owner p) (n + g)))
  pub outer_place : (p g : ℕ) → call p g → Memᴰ (plain p (n + g)) outer
  pub outer_group : (p g : ℕ) → call p g → Memᴰ (plain (n + owner p) (n + g)) outer

-- what is at place p when each of the n places gets what its group has
abbrev pub with_group : ℕ → (ℕ → ℕ) → List ℕ → ℕ → ℕ
with_group n owner s p = cond (ltb p n) (union (get_or s p 0) (get_or s (n + owner p) 0)) (get_or s p 0)

-- each of the n places gets what its group has
unfoldable pub spread : ℕ → ℕ → (ℕ → ℕ) → List ℕ → List ℕ
spread n m owner s = tabulate (n + m) (with_group n owner s)

-- the two stages
unfoldable pub staged : ℕ → ℕ → (ℕ → ℕ) → List Edge → List Edge → List ℕ → List ℕ
staged n m owner inner outer s = spread n m owner (least outer (least inner s))

-- a law along an edge that is plain
along_plain {ℓ} : {e : Edge} {f t : ℕ} (P : ℕ → ℕ → ℕ → Type ℓ) → e ≡ plain f t → P f f t → P e.from e.also e.to
along_plain {e} {f} {t} P q h = subst (λ (d : Edge). P d.from d.also d.to) (sym q) h

module _ (n m : ℕ) (owner : ℕ → ℕ) (call : ℕ → ℕ → Type 0) (all inner outer : List Edge) (g : Groups n m owner call all inner outer)
    (s : List ℕ) (h : SetList (n + m) s) where
  first : List ℕ
  first = least inner s

  first_sets : SetList (n + m) first
  unfolding first
  first_sets = least_sets (n + m) inner s h

  second : List ℕ
  second = least outer first

  second_sets : SetList (n + m) second
  unfolding second
  second_sets = least_sets (n + m) outer first first_sets

  whole : List ℕ
  whole = least all s

  whole_sets : SetList (n + m) whole
  unfolding whole
  whole_sets = least_sets (n + m) all s h

  whole_edge : (f t : ℕ) → Memᴰ (plain f t) all → t < n + m → (x : ℕ) → has (get_or whole f 0) x ≡ true → has (get_or whole t 0) x ≡ true
  unfolding whole
  whole_edge f t e l x a = least_edge (n + m) all s h (plain f t) e l x a a

  second_edge : (f t : ℕ) → Memᴰ (plain f t) outer → t < n + m → (x : ℕ) → has (get_or second f 0) x ≡ true → has (get_or second t 0) x ≡ true
  unfolding second
  second_edge f t e l x a = least_edge (n + m) outer first first_sets (plain f t) e l x a a

  -- ---- the stages stay inside

  first_inside : Inside first whole
  unfolding first whole
  first_inside =
      least_inside (n + m) inner s h whole whole_sets (least_holds_start (n + m) all s h)
      (record { edge = λ e i. (least_closed (n + m) all s h).edge e (g.has_inner e i) })

  outer_held : (e : Edge) → Memᴰ e outer → Held whole e
  outer_held e i = record { carried = λ l x a b. go (g.outer_cases e i) x a }
    where
      go : (p : ℕ) × (q : ℕ) × call p q × ((e ≡ plain p (n + q)) ⊎ (e ≡ plain (n + owner p) (n + q))) → (x : ℕ)
          → has (get_or whole e.from 0) x ≡ true → has (get_or whole e.to 0) x ≡ true
      go (p, q, c, inl r) x =
          let there = g.call_there p q c in
          along_plain (λ f a t. has (get_or whole f 0) x ≡ true → has (get_or whole t 0) x ≡ true) r
          (whole_edge p (n + q) (g.has_call p q c) (omega arith) x)
      go (p, q, c, inr r) x =
          let there = g.call_there p q c in
          let own = g.owner_there p there.0 in
          along_plain (λ f a t. has (get_or whole f 0) x ≡ true → has (get_or whole t 0) x ≡ true) r
          (λ a. whole_edge p (n + q) (g.has_call p q c) (omega arith) x (whole_edge (n + owner p) p (g.has_owner p there.0) (omega arith) x a))

  second_inside : Inside second whole
  unfolding second
  second_inside = least_inside (n + m) outer first first_sets whole whole_sets first_inside (record { edge = outer_held })

  -- ---- the second stage leaves the places as they are

  second_from : (p x : ℕ) → p < n → has (get_or second p 0) x ≡ true → has (get_or first p 0) x ≡ true
  unfolding second
  second_from p x l a =
      least_induction (n + m) outer first first_sets (λ i y. i < n → has (get_or first i 0) y ≡ true)
      (λ e i to y b c low. absurd (past e (g.outer_cases e i) low))
      (λ i y b low. b) p x a l
    where
      past : (e : Edge) → (p : ℕ) × (q : ℕ) × call p q × ((e ≡ plain p (n + q)) ⊎ (e ≡ plain (n + owner p) (n + q))) → e.to < n → ⊥
      past e (p, q, c, inl r) low = let z : n + q < n = subst (λ (d : Edge). d.to < n) r low in omega arith
      past e (p, q, c, inr r) low = let z : n + q < n = subst (λ (d : Edge). d.to < n) r low in omega arith

  second_holds : Inside first second
  unfolding second
  second_holds = least_holds_start (n + m) outer first first_sets

  -- an inner edge carries what the second stage has
  second_inner : (f t : ℕ) → Memᴰ (plain f t) inner → f < n → t < n → (x : ℕ) → has (get_or second f 0) x ≡ true → has (get_or second t 0) x ≡ true
  unfolding first
  second_inner f t e l k x a =
      let b = second_from f x l a in second_holds.at t x (least_edge (n + m) inner s h (plain f t) e (omega arith) x b b)

  -- ---- what each place has in the end

  result : List ℕ
  result = spread n m owner second

  result_sets : SetList (n + m) result
  unfolding result spread
  result_sets = tabulate_sets (n + m) (with_group n owner second) (λ p. go p (ltb p n))
    where
      go : (p : ℕ) (b : Bool) → cond b (union (get_or second p 0) (get_or second (n + owner p) 0)) (get_or second p 0) < 2 ^ 64
      go p true = union_below 64 (second_sets.below p) (second_sets.below (n + owner p))
      go p false = second_sets.below p

  -- a place has what it had and what its group has; a group has what it had
  place_own : (p x : ℕ) → p < n + m → has (get_or second p 0) x ≡ true → has (get_or result p 0) x ≡ true
  unfolding result spread
  place_own p x l a = tabulate_has (n + m) (with_group n owner second) p x l (go (ltb p n))
    where
      go : (b : Bool) → has (cond b (union (get_or second p 0) (get_or second (n + owner p) 0)) (get_or second p 0)) x ≡ true
      go true = has_union_left (get_or second p 0) (get_or second (n + owner p) 0) x a
      go false = a

  place_group : (p x : ℕ) → p < n → has (get_or second (n + owner p) 0) x ≡ true → has (get_or result p 0) x ≡ true
  unfolding result spread
  place_group p x l a =
      tabulate_has (n + m) (with_group n owner second) p x (omega arith)
      (rw (lt-ltb p n l) (has_union_right (get_or second p 0) (get_or second (n + owner p) 0) x a))

  place_from {ℓ} : {C : Type ℓ} (p x : ℕ) → (has (get_or second p 0) x ≡ true → C) → (p < n → has (get_or second (n + owner p) 0) x ≡ true → C)
      → has (get_or result p 0) x ≡ true → C
  unfolding result spread
  place_from {C = C} p x f k a = go (ltb p n) refl (tabulate_from_lem (n + m) (with_group n owner second) p x a).1
    where
      go : (b : Bool) → ltb p n ≡ b → has (cond b (union (get_or second p 0) (get_or second (n + owner p) 0)) (get_or second p 0)) x ≡ true → C
      go true e c = union_cases (get_or second p 0) (get_or second (n + owner p) 0) x f (k (ltb-true p n e)) c
      go false e c = f c

  -- ---- it holds the start, is inside the least list, and is closed

  second_result : Inside second result
  second_result = record { at = λ p x a. place_own p x (subst (λ (l : ℕ). p < l) second_sets.places (has_place p x second a)) a }

  result_inside : Inside result whole
  result_inside = record {
    at = λ p x.
        place_from p x (second_inside.at p x)
        (λ l a. let own = g.owner_there p l in whole_edge (n + owner p) p (g.has_owner p l) (omega arith) x (second_inside.at (n + owner p) x a));
  }

  of_group : (c x : ℕ) → has (get_or result (n + c) 0) x ≡ true → has (get_or second (n + c) 0) x ≡ true
  of_group c x = place_from (n + c) x (λ a. a) (λ l. absurd (omega arith))

  inner_held : (f t : ℕ) → Memᴰ (plain f t) inner → f < n → t < n → owner f ≡ owner t → (x : ℕ)
      → has (get_or result f 0) x ≡ true → has (get_or result t 0) x ≡ true
  inner_held f t e l k o x =
      place_from f x (λ a. place_own t x (omega arith) (second_inner f t e l k x a))
      (λ b a. place_group t x k (subst (λ (c : ℕ). has (get_or second (n + c) 0) x ≡ true) o a))

  call_held : (p q : ℕ) → call p q → (x : ℕ) → has (get_or result p 0) x ≡ true → has (get_or result (n + q) 0) x ≡ true
  call_held p q c x =
      let there = g.call_there p q c in
      place_from p x (λ a. place_own (n + q) x (omega arith) (second_edge p (n + q) (g.outer_place p q c) (omega arith) x a))
      (λ b a. place_own (n + q) x (omega arith) (second_edge (n + owner p) (n + q) (g.outer_group p q c) (omega arith) x a))

  result_held : (e : Edge) → Memᴰ e all → Held result e
  result_held e i = record { carried = λ l x a b. go (g.cases e i) x a }
    where
      go : Memᴰ e inner ⊎ (((p : ℕ) × (p < n) × (e ≡ plain (n + owner p) p)) ⊎ ((p : ℕ) × (q : ℕ) × call p q × (e ≡ plain p (n + q))))
          → (x : ℕ) → has (get_or result e.from 0) x ≡ true → has (get_or result e.to 0) x ≡ true
      go (inl j) x =
          let r = g.within e j in
          let k : Memᴰ (plain r.0 r.1) inner = subst (λ (d : Edge). Memᴰ d inner) r.2 j in
          along_plain (λ f a t. has (get_or result f 0) x ≡ true → has (get_or result t 0) x ≡ true) r.2 (inner_held r.0 r.1 k r.3 r.4 r.5 x)
      go (inr (inl (p, l, r))) x =
          along_plain (λ f a t. has (get_or result f 0) x ≡ true → has (get_or result t 0) x ≡ true) r (λ a. place_group p x l (of_group (owner p) x a))
      go (inr (inr (p, q, c, r))) x =
          along_plain (λ f a t. has (get_or result f 0) x ≡ true → has (get_or result t 0) x ≡ true) r (call_held p q c x)

  pub staged_least : staged n m owner inner outer s ≡ least all s
  unfolding staged first second result whole
  staged_least =
      least_is (n + m) all s h result result_sets
      (inside_trans (least_holds_start (n + m) inner s h) (inside_trans second_holds second_result))
      result_inside (record { edge = result_held })
