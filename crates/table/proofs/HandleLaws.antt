-- Where the handles of a routine stand, when every handle line keeps its rule: together, parameters first, at most eight and at most four. Assumes nothing.
use Rattle.std.proofs.lemmas.Bool.{and_parts, or_cases}
use Rattle.std.specs.Prelude.{◌≡◌, refl, List, ◌⊎◌, Bool, true, false, not, ◌&&◌, ◌||◌, eqb, leb, ltb, ℤ}
use Rattle.std.proofs.Common.{sym, ◌∙◌, subst, inl, inr, arith}
use Prim.Native.Nat.{ℕ, zero, suc, ◌+◌, ◌-◌, ◌≤◌, ◌<◌, zero-le}
use Rattle.std.proofs.Math.Decide.{dec_lt}
use borrow.Author.Tests.{ltb-true, leb-true, le-leb, eqb-true, eqb-false, eq-eqb, not-true}
use Rattle.table.specs.Until.{until}
use Rattle.table.specs.Fields.{unused}
use Rattle.table.proofs.UntilLaws.{until_range}
use Rattle.table.proofs.CheckLaws.{until_before, until_at}
use Rattle.table.specs.Header.{handles, routines, within, handle_line}
use Rattle.table.proofs.HeaderLaws.{between}
use Rattle.table.specs.Handles.{routine_of, kind_of, origin_of, start_of, things, handle_fields_ok, same_above, handle_order_ok, parameter_ok, handle_ok, handles_from, parameters}
use Rattle.table.proofs.ExtentLaws.{handles_next, handles_from_most}

-- ---- the rule of one handle line, in its parts

pub record HandleRule (f : List ℤ) (h : ℕ) : Type 0 where
  pub routine_there : routine_of f h < routines f
  pub kind_low : 1 ≤ kind_of f h
  pub kind_high : kind_of f h ≤ 2
  pub origin_known : (origin_of f h ≡ 0) ⊎ (origin_of f h ≡ 1)
  pub start_there : origin_of f h ≡ 1 → start_of f h < things f (kind_of f h)
  pub order : routine_of f (h - 1) ≤ routine_of f h
  pub not_ninth : 8 ≤ h → routine_of f (h - 8) ≡ routine_of f h → ⊥
  pub no_parameter_of_first : origin_of f h ≡ 0 → routine_of f h ≡ 0 → ⊥
  pub not_behind_local : origin_of f h ≡ 0 → 1 ≤ h → routine_of f (h - 1) ≡ routine_of f h → origin_of f (h - 1) ≡ 1 → ⊥
  pub not_fifth : origin_of f h ≡ 0 → 4 ≤ h → routine_of f (h - 4) ≡ routine_of f h → ⊥

clash : {C : Type 0} (b : Bool) → b ≡ true → b ≡ false → C
clash b e d = let z : true ≡ false = sym e ∙ d in let w : ◌≡◌ {A = ℕ} 0 1 = cc in absurd (omega arith)

same_above_lem : (f : List ℤ) (h k : ℕ) → k ≤ h → routine_of f (h - k) ≡ routine_of f h → same_above f h k ≡ true
unfolding same_above
same_above_lem f h k l e = rw (le-leb k h l) (eq-eqb (routine_of f (h - k)) (routine_of f h) e)

-- the three tests that a parameter passes
record ParameterRule (f : List ℤ) (h : ℕ) : Type 0 where
  not_first : eqb (routine_of f h) 0 ≡ false
  not_behind : (same_above f h 1 && eqb (origin_of f (h - 1)) 1) ≡ false
  not_fifth : same_above f h 4 ≡ false

parameter_rule : (f : List ℤ) (h : ℕ) → parameter_ok f h ≡ true → origin_of f h ≡ 0 → ParameterRule f h
unfolding parameter_ok
parameter_rule f h e o = go (or_cases (eqb (origin_of f h) 1) _ e)
  where
    first : Bool
    first = eqb (routine_of f h) 0

    behind : Bool
    behind = same_above f h 1 && eqb (origin_of f (h - 1)) 1

    go : (eqb (origin_of f h) 1 ≡ true) ⊎ ((not first && not behind && not (same_above f h 4)) ≡ true) → ParameterRule f h
    go (inl p) = let q = eqb-true (origin_of f h) 1 p in absurd (omega arith)
    go (inr p) =
        let q = and_parts (not first && not behind) (not (same_above f h 4)) p in
        let r = and_parts (not first) (not behind) q.0 in
        record { not_first = not-true first r.0; not_behind = not-true behind r.1; not_fifth = not-true (same_above f h 4) q.1 }

-- the origin, with the start that it allows
record OriginRule (f : List ℤ) (h : ℕ) : Type 0 where
  known : (origin_of f h ≡ 0) ⊎ (origin_of f h ≡ 1)
  start : origin_of f h ≡ 1 → start_of f h < things f (kind_of f h)

origin_rule : (f : List ℤ) (h : ℕ)
    → (eqb (origin_of f h) 0 && eqb (start_of f h) 0 || eqb (origin_of f h) 1 && ltb (start_of f h) (things f (kind_of f h))) ≡ true → OriginRule f h
origin_rule f h e = go (or_cases (eqb (origin_of f h) 0 && eqb (start_of f h) 0) _ e)
  where
    go : ((eqb (origin_of f h) 0 && eqb (start_of f h) 0) ≡ true) ⊎ ((eqb (origin_of f h) 1 && ltb (start_of f h) (things f (kind_of f h))) ≡ true) → OriginRule f h
    go (inl p) =
        let o = eqb-true (origin_of f h) 0 (and_parts (eqb (origin_of f h) 0) (eqb (start_of f h) 0) p).0 in
        record { known = inl o; start = λ l. absurd (omega arith) }
    go (inr p) =
        let q = and_parts (eqb (origin_of f h) 1) (ltb (start_of f h) (things f (kind_of f h))) p in
        record { known = inr (eqb-true (origin_of f h) 1 q.0); start = λ l. ltb-true (start_of f h) (things f (kind_of f h)) q.1 }

pub handle_rule : (f : List ℤ) (h : ℕ) → handle_ok f h ≡ true → HandleRule f h
unfolding handle_ok handle_fields_ok handle_order_ok
handle_rule f h e =
    let ok = and_parts (handle_fields_ok f h && handle_order_ok f h) (parameter_ok f h) e in
    let two = and_parts (handle_fields_ok f h) (handle_order_ok f h) ok.0 in
    let there = ltb (routine_of f h) (routines f) in
    let kind = within 1 2 (kind_of f h) in
    let start = eqb (origin_of f h) 0 && eqb (start_of f h) 0 || eqb (origin_of f h) 1 && ltb (start_of f h) (things f (kind_of f h)) in
    let p = and_parts (there && kind && start) (unused f (handle_line h) 5) two.0 in
    let q = and_parts (there && kind) start p.0 in
    let s = and_parts there kind q.0 in
    let k = between 1 2 (kind_of f h) s.1 in
    let o = origin_rule f h q.1 in
    let d = and_parts (leb (routine_of f (h - 1)) (routine_of f h)) (not (same_above f h 8)) two.1 in
    let rule = parameter_rule f h ok.1 in
    record {
      routine_there = ltb-true (routine_of f h) (routines f) s.0;
      kind_low = k.0;
      kind_high = k.1;
      origin_known = o.known;
      start_there = o.start;
      order = leb-true (routine_of f (h - 1)) (routine_of f h) d.0;
      not_ninth = λ l r. clash (same_above f h 8) (same_above_lem f h 8 l r) (not-true (same_above f h 8) d.1);
      no_parameter_of_first = λ z r. eqb-false (routine_of f h) 0 (rule z).not_first r;
      not_behind_local = λ z l r a. clash (same_above f h 1 && eqb (origin_of f (h - 1)) 1) (rw (same_above_lem f h 1 l r) (eq-eqb (origin_of f (h - 1)) 1 a)) (rule z).not_behind;
      not_fifth = λ z l r. clash (same_above f h 4) (same_above_lem f h 4 l r) (rule z).not_fifth;
    }

-- ---- where a routine's handles stand

module _ (f : List ℤ) (rules : (h : ℕ) → h < handles f → HandleRule f h) where
  -- "Routine numbers never fall"
  pub never_fall : (h n : ℕ) → h + n < handles f → routine_of f h ≤ routine_of f (h + n)
  never_fall h zero b = let e : h + 0 ≡ h = omega arith in rw e (omega arith)
  never_fall h (suc n) b =
      let before = never_fall h n (omega arith) in
      let step = (rules (h + suc n) b).order in
      let e : h + suc n - 1 ≡ h + n = omega arith in
      let step' : routine_of f (h + n) ≤ routine_of f (h + suc n) = subst (λ (x : ℕ). routine_of f x ≤ routine_of f (h + suc n)) e step in
      omega arith

  abbrev own : ℕ → ℕ → Bool
  own r h = eqb (routine_of f h) r

  -- one routine's handles end behind where they begin
  pub from_grows : (r : ℕ) → handles_from f r ≤ handles_from f (r + 1)
  from_grows r = let range = (until_range (own r) (handles_from f r) (handles f - handles_from f r)).0 in rw (handles_next f r) range

  -- a handle stands before those of routine r just if its routine is lower
  record Parts (r h : ℕ) : Type 0 where
    below : h < handles_from f r → routine_of f h < r
    above : handles_from f r ≤ h → r ≤ routine_of f h

  parts : (r h : ℕ) → h < handles f → Parts r h
  unfolding handles_from
  parts zero h b = record { below = λ l. absurd (omega arith); above = λ l. zero-le }
  parts (suc r) h b = record { below = λ l. low l (parts r h b); above = λ l. high l (parts r end) }
    where
      end : ℕ
      end = until (own r) (handles_from f r) (handles f - handles_from f r)

      low : h < end → Parts r h → routine_of f h < suc r
      low l ih = go (dec_lt h (handles_from f r))
        where
          go : Dec (h < handles_from f r) → routine_of f h < suc r
          go (yes p) = let q = ih.below p in omega arith
          go (no p) = let q = eqb-true (routine_of f h) r (until_before (own r) (handles_from f r) (handles f - handles_from f r) h (omega arith) l) in omega arith

      high : end ≤ h → (end < handles f → Parts r end) → suc r ≤ routine_of f h
      high l ih =
          let most = handles_from_most f r in
          let range = (until_range (own r) (handles_from f r) (handles f - handles_from f r)).0 in
          let inside : end < handles f = omega arith in
          let bad = eqb-false (routine_of f end) r (until_at (own r) (handles_from f r) (handles f - handles_from f r) (omega arith)) in
          let up = (ih inside).above range in
          let e : end + (h - end) ≡ h = omega arith in
          let mono = subst (λ (x : ℕ). routine_of f end ≤ routine_of f x) e (never_fall end (h - end) (omega arith)) in
          omega (arith, bad)

  -- the handles of routine r are those from its first to before the next routine's first
  pub own_from : (h : ℕ) → h < handles f → handles_from f (routine_of f h) ≤ h
  own_from h b = go (dec_lt h (handles_from f (routine_of f h)))
    where
      go : Dec (h < handles_from f (routine_of f h)) → handles_from f (routine_of f h) ≤ h
      go (yes p) = let q = (parts (routine_of f h) h b).below p in absurd (omega arith)
      go (no p) = omega arith

  pub own_upto : (h : ℕ) → h < handles f → h < handles_from f (routine_of f h + 1)
  own_upto h b = go (dec_lt h (handles_from f (routine_of f h + 1)))
    where
      go : Dec (h < handles_from f (routine_of f h + 1)) → h < handles_from f (routine_of f h + 1)
      go (yes p) = p
      go (no p) = let q = (parts (routine_of f h + 1) h b).above (omega arith) in absurd (omega arith)

  pub own_routine : (r h : ℕ) → handles_from f r ≤ h → h < handles_from f (r + 1) → routine_of f h ≡ r
  own_routine r h a b =
      let most = handles_from_most f (r + 1) in
      let low = (parts r h (omega arith)).above a in
      let high = (parts (r + 1) h (omega arith)).below b in
      omega arith

  -- "At most eight handles a routine": a ninth would have one of the same routine eight lines above
  pub few_handles : (r : ℕ) → handles_from f (r + 1) - handles_from f r ≤ 8
  few_handles r = go (dec_lt (handles_from f r + 8) (handles_from f (r + 1)))
    where
      ninth : ℕ
      ninth = handles_from f r + 8

      go : Dec (ninth < handles_from f (r + 1)) → handles_from f (r + 1) - handles_from f r ≤ 8
      go (no p) = omega arith
      go (yes p) =
          let most = handles_from_most f (r + 1) in
          let first = own_routine r (ninth - 8) (omega arith) (omega arith) in
          let last = own_routine r ninth (omega arith) p in
          absurd ((rules ninth (omega arith)).not_ninth (omega arith) (first ∙ sym last))

  -- ---- parameters first

  abbrev is_parameter : ℕ → Bool
  is_parameter h = eqb (origin_of f h) 0

  -- where the parameters of routine r end
  locals_from : ℕ → ℕ
  locals_from r = until is_parameter (handles_from f r) (handles_from f (r + 1) - handles_from f r)

  record Ends (r : ℕ) : Type 0 where
    low : handles_from f r ≤ locals_from r
    high : locals_from r ≤ handles_from f (r + 1)
    is : parameters f r ≡ locals_from r - handles_from f r
    before : (h : ℕ) → handles_from f r ≤ h → h < locals_from r → origin_of f h ≡ 0
    at : locals_from r < handles_from f (r + 1) → origin_of f (locals_from r) ≡ 0 → ⊥

  ends : (r : ℕ) → Ends r
  unfolding locals_from parameters
  ends r =
      let size : ℕ = handles_from f (r + 1) - handles_from f r in
      let range = until_range is_parameter (handles_from f r) size in
      let grows = from_grows r in
      record {
        low = range.0;
        high = omega arith;
        is = refl;
        before = λ h a b. eqb-true (origin_of f h) 0 (until_before is_parameter (handles_from f r) size h a b);
        at = λ b. eqb-false (origin_of f (locals_from r)) 0 (until_at is_parameter (handles_from f r) size (omega arith));
      }

  pub parameters_among : (r : ℕ) → parameters f r ≤ handles_from f (r + 1) - handles_from f r
  parameters_among r = let e = ends r in omega arith

  -- "At most four parameters a routine": a fifth would have a handle of the same routine four lines above
  pub few_parameters : (r : ℕ) → parameters f r ≤ 4
  few_parameters r = go (dec_lt (handles_from f r + 4) (locals_from r)) (ends r)
    where
      fifth : ℕ
      fifth = handles_from f r + 4

      go : Dec (fifth < locals_from r) → Ends r → parameters f r ≤ 4
      go (no p) e = omega arith
      go (yes p) e =
          let most = handles_from_most f (r + 1) in
          let high = e.high in
          let first = own_routine r (fifth - 4) (omega arith) (omega arith) in
          let last = own_routine r fifth (omega arith) (omega arith) in
          absurd ((rules fifth (omega arith)).not_fifth (e.before fifth (omega arith) p) (omega arith) (first ∙ sym last))

  -- "Routine 0 has no parameter"
  pub first_without : parameters f 0 ≡ 0
  first_without = go (dec_lt (handles_from f 0) (locals_from 0)) (ends 0)
    where
      go : Dec (handles_from f 0 < locals_from 0) → Ends 0 → parameters f 0 ≡ 0
      go (no p) e = omega arith
      go (yes p) e =
          let most = handles_from_most f 1 in
          let high : locals_from 0 ≤ handles_from f 1 = e.high in
          let own = own_routine 0 (handles_from f 0) (omega arith) (omega arith) in
          absurd ((rules (handles_from f 0) (omega arith)).no_parameter_of_first (e.before (handles_from f 0) (omega arith) p) own)

  -- from the first local on all are locals
  local_on : (r n : ℕ) → locals_from r + n < handles_from f (r + 1) → origin_of f (locals_from r + n) ≡ 0 → ⊥
  local_on r zero b o =
      let e : locals_from r + 0 ≡ locals_from r = omega arith in
      (ends r).at (omega arith) (subst (λ (x : ℕ). origin_of f x ≡ 0) e o)
  local_on r (suc n) b o = go (local_on r n (omega arith)) (rules (locals_from r + n) (let most = handles_from_most f (r + 1) in omega arith)).origin_known
    where
      here : ℕ
      here = locals_from r + suc n

      above : here - 1 ≡ locals_from r + n
      above = omega arith

      go : (origin_of f (locals_from r + n) ≡ 0 → ⊥) → (origin_of f (locals_from r + n) ≡ 0) ⊎ (origin_of f (locals_from r + n) ≡ 1) → ⊥
      go ih (inl z) = ih z
      go ih (inr l) =
          let most = handles_from_most f (r + 1) in
          let low = (ends r).low in
          let own_here = own_routine r here (omega arith) b in
          let own_above = own_routine r (here - 1) (omega arith) (omega arith) in
          (rules here (omega arith)).not_behind_local o (omega arith) (own_above ∙ sym own_here) (rw above l)

  pub parameter_before : (h : ℕ) → h < handles f → origin_of f h ≡ 0 → h < handles_from f (routine_of f h) + parameters f (routine_of f h)
  parameter_before h b o = go (dec_lt h (locals_from r)) (ends r)
    where
      r : ℕ
      r = routine_of f h

      go : Dec (h < locals_from r) → Ends r → h < handles_from f r + parameters f r
      go (yes p) e = omega arith
      go (no p) e =
          let k : locals_from r + (h - locals_from r) ≡ h = omega arith in
          absurd (local_on r (h - locals_from r) (rw k (own_upto h b)) (rw k o))

  pub local_behind : (h : ℕ) → h < handles f → origin_of f h ≡ 1 → handles_from f (routine_of f h) + parameters f (routine_of f h) ≤ h
  local_behind h b o = go (dec_lt h (locals_from r)) (ends r)
    where
      r : ℕ
      r = routine_of f h

      go : Dec (h < locals_from r) → Ends r → handles_from f r + parameters f r ≤ h
      go (no p) e = omega arith
      go (yes p) e = let q = e.before h (own_from h b) p in absurd (omega arith)
