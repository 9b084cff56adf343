-- What a search for the lowest failing place finds is `until`, below its end. Assumes nothing.
use Rattle.std.specs.Prelude.{◌≡◌, refl, ℕ, zero, suc, ◌+◌, ◌-◌, ◌≤◌, ◌<◌, Bool, true, false, cond, ltb, max, Option, Some, None, is_some, unwrap_or, leb, not}
use Rattle.std.proofs.Common.{sym, ap, ◌∙◌, arith, le_refl, add-zero, lt-ltb, le-ltb, ltb-true, ltb-false}
use Rattle.std.proofs.lemmas.Bool.{le-leb, lt-leb}
use Rattle.std.proofs.Math.Nat.{sub-zero}
use Rattle.table.specs.Until.{until}
use Rattle.table.specs.Found.{below, FirstFailing}
use Rattle.table.proofs.UntilLaws.{Looking, looking_start, looking_next, looking_stop, looking_done, until_none, until_range}

-- ---- a place and an end

pub below_is : (i end : ℕ) → i < end → below i end ≡ Some i
below_is i end h = rw (lt-ltb i end h)

pub below_not : (i end : ℕ) → end ≤ i → below i end ≡ None
below_not i end h = rw (le-ltb i end h)

pub found_at : (i u end : ℕ) → i ≡ u → i < end → Some i ≡ below u end
found_at i u end e h = rw (← e) (sym (below_is i end h))

pub found_nowhere : (i u end : ℕ) → i ≡ u → end ≤ i → None ≡ below u end
found_nowhere i u end e h = rw (← e) (sym (below_not i end h))

-- what the two answers say
pub below_some : (u end i : ℕ) → Some i ≡ below u end → (ltb u end ≡ true) × (u ≡ i)
below_some u end i e = go (ltb u end) refl e
  where
    go : (b : Bool) → ltb u end ≡ b → Some i ≡ cond b (Some u) None → (ltb u end ≡ true) × (u ≡ i)
    go true t e = (t, cc)
    go false t e = let z : ◌≡◌ {A = ℕ} 0 1 = cc in absurd (omega arith)

pub below_none : (u end : ℕ) → None ≡ below u end → ltb u end ≡ false
below_none u end e = go (ltb u end) refl e
  where
    go : (b : Bool) → ltb u end ≡ b → None ≡ cond b (Some u) None → ltb u end ≡ false
    go true t e = let z : ◌≡◌ {A = ℕ} 0 1 = cc in absurd (omega arith)
    go false t e = t

pub none_found : (u end : ℕ) (o : Option ℕ) → o ≡ below u end → false ≡ is_some o → None ≡ below u end
none_found u end None e i = e
none_found u end (Some x) e i = let z : ◌≡◌ {A = ℕ} 0 1 = cc in absurd (omega arith)

-- a search that finds nothing has gone past the end
pub none_below : (u end : ℕ) {o : Option ℕ} (b : Bool) → o ≡ below u end → is_some o ≡ not b → b ≡ leb end u
none_below u end b e n = go (ltb u end) refl b (sym n ∙ ap is_some e)
  where
    go : (c : Bool) → ltb u end ≡ c → (b : Bool) → not b ≡ is_some (cond c (Some u) None) → b ≡ leb end u
    go true t false n = sym (lt-leb end u (ltb-true u end t))
    go false t true n = sym (le-leb end u (ltb-false u end t))
    go true t true n = let z : ◌≡◌ {A = ℕ} 0 1 = cc in absurd (omega arith)
    go false t false n = let z : ◌≡◌ {A = ℕ} 0 1 = cc in absurd (omega arith)

-- ---- the search

module _ (good : ℕ → Bool) (from end : ℕ) where
  -- the places from `from` on, n of them, are good
  passing : (n : ℕ) → from + n ≤ end → ((k : ℕ) → from ≤ k → k < from + n → good k ≡ true) → Looking good end from (from + n)
  passing zero h all = rw add-zero (looking_start good end from)
  passing (suc n) h all =
      let e : from + suc n ≡ from + n + 1 = omega arith in
      rw e (looking_next good end from (from + n) (passing n (omega arith) (λ k a b. all k a (omega arith))) (omega arith) (all (from + n) (omega arith) (omega arith)))

  passed : (i : ℕ) → from ≤ i → i ≤ end → ((k : ℕ) → from ≤ k → k < i → good k ≡ true) → Looking good end from i
  passed i a b all =
      let e : from + (i - from) ≡ i = omega arith in
      rw e at (passing (i - from) (omega arith) (λ k p q. all k p (omega arith)))

  module _ (said : ℕ → Bool → Type 0) (told : (k : ℕ) (b : Bool) → from ≤ k → k < end → said k b → b ≡ good k) where
    pub failing_is : (r : Option ℕ) → FirstFailing said from end r → r ≡ below (until good from (end - from)) end
    failing_is (Some i) f =
        let at = f.stopped i refl in
        let l = passed i at.0 (omega (arith, at.1)) (λ k a b. sym (told k true a (omega (arith, at.1)) (f.passed k a b))) in
        let e = looking_stop good end from i l at.1 (sym (told i false at.0 at.1 at.2)) in
        rw (← e) (sym (below_is i end at.1))
    failing_is None f = go (ltb end from) refl
      where
        go : (b : Bool) → ltb end from ≡ b → None ≡ below (until good from (end - from)) end
        go true e =
            let past : end < from = ltb-true end from e in
            let empty : end - from ≡ 0 = omega arith in
            rw (empty, until_none) (sym (below_not from end (omega arith)))
        go false e =
            let more : from ≤ end = ltb-false end from e in
            let done = looking_done good end from end (passed end more (le_refl end) (λ k a b. sym (told k true a b (f.passed k a b)))) (le_refl end) in
            rw (← done) (sym (below_not end end (le_refl end)))

-- from 0 on
pub failing_from_zero : (good : ℕ → Bool) (end : ℕ) (said : ℕ → Bool → Type 0) → ((k : ℕ) (b : Bool) → k < end → said k b → b ≡ good k)
    → (r : Option ℕ) → FirstFailing said 0 end r → r ≡ below (until good 0 end) end
failing_from_zero good end said told r f =
    failing_is good 0 end said (λ k b a h s. told k b h s) r f ∙ ap (λ (n : ℕ). below (until good 0 n) end) (sub-zero end)

-- the place in every case: `until` itself
pub found_or_past : (good : ℕ → Bool) (from end past : ℕ) (r : Option ℕ) → r ≡ below (until good from (end - from)) end → past ≡ max from end
    → unwrap_or r past ≡ until good from (end - from)
found_or_past good from end past (Some i) e m = sym (below_some (until good from (end - from)) end i e).1
found_or_past good from end past None e m =
    let least = (until_range good from (end - from)).0 in
    let most = (until_range good from (end - from)).1 in
    omega (arith, ltb-false (until good from (end - from)) end (below_none (until good from (end - from)) end e))
