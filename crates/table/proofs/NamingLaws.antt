-- Which routines name which, in an accepted text's numbers: the sets say what the statements do, and a number for each routine falls along naming, so no
-- statement names routine 0. Assumes nothing.
use Rattle.std.specs.Prelude.{◌≡◌, List, Bool, cond, ℤ}
use Rattle.std.proofs.Math.Path.{refl}
use Rattle.std.proofs.Common.{sym, subst}
use Rattle.std.proofs.Math.Bool.{true, false}
use Prim.Native.Nat.{ℕ, zero, suc, ◌+◌, ◌-◌, ◌/◌, ◌^◌, ◌≤◌, ◌<◌, zero-le}
use native.Mathlib.Omega.{arith}
use Rattle.std.proofs.Math.Decide.{dec_lt}
use Rattle.std.proofs.Math.Dec.{ltb}
use Rattle.std.proofs.Math.ListN.{get_or, length, get_or-eq_default}
use Rattle.std.specs.Int.Count.{ones_in}
use borrow.Author.Tests.{ltb-true, lt-ltb}
use Rattle.sets.specs.Set.{has, union, count}
use Rattle.sets.proofs.SetLaws.{has_union_left, has_union_right, union_cases, below_of_has}
use Rattle.table.specs.Header.{routines}
use Rattle.table.specs.Routines.{first_statement}
use Rattle.table.specs.Naming.{named_by, gather, names_of, names_in, is_named, reached}
use Rattle.table.specs.Tabulate.{tabulate}
use Rattle.table.proofs.TabulateLaws.{length_tabulate, get_d_tabulate}
use Rattle.table.proofs.CheckLaws.{Passed}
use Rattle.table.proofs.ReachLaws.{In, in_empty, reached_falls, reached_fewer}
use Rattle.table.proofs.RoutineLaws.{statement_good}
use Rattle.table.proofs.StatementLaws.{names_there, names_has, has_names}
use Rattle.table.specs.Table.{statement_of}
use Rattle.table.specs.Accepted.{Names}

-- ---- what is gathered

gather_old : (g : ℕ → ℕ) (n acc i q : ℕ) → In acc q → In (gather g acc i n) q
unfolding gather
gather_old g zero acc i q h = h
gather_old g (suc n) acc i q h = gather_old g n (union acc (g i)) (i + 1) q (has_union_left acc (g i) q h)

pub gather_has : (g : ℕ → ℕ) (n acc i q k : ℕ) → i ≤ k → k < i + n → In (g k) q → In (gather g acc i n) q
unfolding gather
gather_has g zero acc i q k a b h = absurd (omega arith)
gather_has g (suc n) acc i q k a b h = go (dec_lt i k) (gather_has g n (union acc (g i)) (i + 1) q k)
  where
    go : Dec (i < k) → (i + 1 ≤ k → k < i + 1 + n → In (g k) q → In (gather g (union acc (g i)) (i + 1) n) q) → In (gather g (union acc (g i)) (i + 1) n) q
    go (yes p) ih = ih (omega arith) (omega arith) h
    go (no p) ih =
        let e : k ≡ i = omega arith in
        gather_old g n (union acc (g i)) (i + 1) q (has_union_right acc (g i) q (subst (λ (x : ℕ). In (g x) q) e h))

-- what is gathered from nothing comes from one of the places
pub gather_from : {C : Type 0} (g : ℕ → ℕ) (n acc i q : ℕ) → (In acc q → C) → ((k : ℕ) → i ≤ k → k < i + n → In (g k) q → C) → In (gather g acc i n) q → C
unfolding gather
gather_from g zero acc i q old new h = old h
gather_from g (suc n) acc i q old new h =
    gather_from g n (union acc (g i)) (i + 1) q
    (λ u. union_cases acc (g i) q old (λ o. new i (omega arith) (omega arith) o) u)
    (λ k a b o. new k (omega arith) (omega arith) o) h

-- no set has more than 64 elements

ones_most : (k s : ℕ) → ones_in k s ≤ k
unfolding ones_in
ones_most zero s = zero-le
ones_most (suc k) s = let ih = ones_most k (s / 2) in omega arith

count_most : (s : ℕ) → count s ≤ 64
unfolding count
count_most s = ones_most 64 s

-- ---- what a routine names

-- a statement of routine r that names q
pub record Naming (f : List ℤ) (r q : ℕ) : Type 0 where
  pub routine_there : r < routines f
  pub at : ℕ
  pub low : first_statement f r ≤ at
  pub high : at < first_statement f (r + 1)
  pub names : Names (statement_of f at) q

module _ (f : List ℤ) (p : Passed f) where
  few : routines f ≤ 32
  few = p.sized.routines_most

  names_naming : (r q : ℕ) → In (names_of f r) q → Naming f r q
  unfolding names_of
  names_naming r q h = go (ltb r (routines f)) refl h
    where
      go : (t : Bool) → ltb r (routines f) ≡ t → In (cond t (gather (named_by f) 0 (first_statement f r) (first_statement f (r + 1) - first_statement f r)) 0) q → Naming f r q
      go false e k = in_empty q k
      go true e k =
          let b = ltb-true r (routines f) e in
          gather_from (named_by f) (first_statement f (r + 1) - first_statement f r) 0 (first_statement f r) q (λ o. in_empty q o)
          (λ s low high o.
          let high' : s < first_statement f (r + 1) = omega arith in
          record { routine_there = b; at = s; low = low; high = high'; names = has_names f r s q few (statement_good f p r s b low high') o })
          k

  naming_names : (r q : ℕ) → Naming f r q → In (names_of f r) q
  unfolding names_of
  naming_names r q n =
      let s = n.at in
      let b = n.routine_there in
      let low = n.low in
      let high = n.high in
      rw (lt-ltb r (routines f) b)
      (gather_has (named_by f) (first_statement f (r + 1) - first_statement f r) 0 (first_statement f r) q s low (omega arith) (names_has f r s q few (statement_good f p r s b low high) n.names))

  entry_is : (r : ℕ) → r < 32 → get_or (names_in f) r 0 ≡ names_of f r
  unfolding names_in
  entry_is r b = get_d_tabulate 32 (names_of f) r 0 b

  entry_none : (r : ℕ) → 32 ≤ r → get_or (names_in f) r 0 ≡ 0
  unfolding names_in
  entry_none r b =
      let l = length_tabulate 32 (names_of f) in
      let past : length (tabulate 32 (names_of f)) ≤ r = omega arith in
      get_or-eq_default (tabulate 32 (names_of f)) 0 past

  pub entry_naming : (r q : ℕ) → In (get_or (names_in f) r 0) q → Naming f r q
  entry_naming r q h = go (dec_lt r 32)
    where
      go : Dec (r < 32) → Naming f r q
      go (yes b) = names_naming r q (subst (λ (x : ℕ). In x q) (entry_is r b) h)
      go (no b) = in_empty q (subst (λ (x : ℕ). In x q) (entry_none r (omega arith)) h)

  pub naming_entry : (r q : ℕ) → Naming f r q → In (get_or (names_in f) r 0) q
  naming_entry r q n =
      let b = n.routine_there in
      let l = few in
      subst (λ (x : ℕ). In x q) (sym (entry_is r (omega arith))) (naming_names r q n)

  -- what is named is a routine
  pub naming_there : (r q : ℕ) → Naming f r q → q < routines f
  naming_there r q n = names_there f r n.at q (statement_good f p r n.at n.routine_there n.low n.high) n.names

  names_small : (r : ℕ) → get_or (names_in f) r 0 < 2 ^ 32
  names_small r = below_of_has 32 (get_or (names_in f) r 0) (λ q b. go q b (has (get_or (names_in f) r 0) q) refl)
    where
      go : (q : ℕ) → 32 ≤ q → (t : Bool) → has (get_or (names_in f) r 0) q ≡ t → has (get_or (names_in f) r 0) q ≡ false
      go q b true e = let l = naming_there r q (entry_naming r q e) in let m = few in absurd (omega arith)
      go q b false e = e

  -- ---- "each routine but 0 is named"

  pub named_by_lem : (q : ℕ) → 1 ≤ q → q < routines f → (r : ℕ) × Naming f r q
  unfolding is_named
  named_by_lem q a b = gather_from (λ (k : ℕ). get_or (names_in f) k 0) 32 0 0 q (λ o. in_empty q o) (λ r low high o. (r, entry_naming r q o)) (p.named_ok q a b)

  -- ---- no routine reaches itself

  -- how many routines routine r reaches
  pub rank_of : ℕ → ℕ
  rank_of r = count (reached (names_in f) r)

  pub naming_falls : (r q : ℕ) → Naming f r q → rank_of q < rank_of r
  unfolding rank_of
  naming_falls r q n = reached_falls (names_in f) names_small r q (naming_entry r q n) (p.acyclic_ok q (naming_there r q n))

  pub rank_below : (r : ℕ) → r < routines f → rank_of r < routines f
  unfolding rank_of
  rank_below r b = reached_fewer (names_in f) names_small (routines f) r few (λ i q h. naming_there i q (entry_naming i q h)) b (p.acyclic_ok r b)

  -- from a routine that reaches more than routine 0 does, the way up along "is named by" never ends; but no routine reaches more than 64
  no_way_up : (n r : ℕ) → r < routines f → rank_of 0 < rank_of r → 64 < rank_of r + n → ⊥
  unfolding rank_of
  no_way_up zero r b h l = let most = count_most (reached (names_in f) r) in omega arith
  no_way_up (suc n) zero b h l = omega arith
  no_way_up (suc n) (suc r) b h l =
      let up = named_by_lem (suc r) (omega arith) b in
      let falls = naming_falls up.0 (suc r) up.1 in
      no_way_up n up.0 up.1.routine_there (omega arith) (omega arith)

  pub first_unnamed : (r : ℕ) → Naming f r 0 → ⊥
  first_unnamed r n = no_way_up 65 r n.routine_there (naming_falls r 0 n) (omega arith)
