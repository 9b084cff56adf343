-- The search through the routines for the lowest bad statement, a routine at a time. Assumes nothing.
use Rattle.std.specs.Prelude.{◌≡◌, refl, List, ℕ, suc, ◌+◌, ◌-◌, ◌≤◌, ◌<◌, ℤ, get_or, Option, Some, None}
use Rattle.std.proofs.Common.{sym, ap, ap₂, ◌∙◌, arith, le_refl, lt-ltb, le-ltb, ltb-true, ltb-false}
use Rattle.std.proofs.Math.Nat.{sub-zero}
use Rattle.sets.specs.Set.{has}
use Rattle.table.specs.Naming.{gather, is_named}
use Rattle.table.specs.Until.{until}
use Rattle.table.specs.Found.{below}
use Rattle.table.proofs.FoundLaws.{below_is, below_not, below_some, below_none}
use Rattle.table.specs.Header.{routines, statements}
use Rattle.table.specs.Lists.{StatementsBegin}
use Rattle.table.proofs.Lists.{statements_begin}
use Rattle.table.specs.Routines.{first_statement}
use Rattle.table.proofs.RoutineLaws.{bad_in, bad_step, ends_before}
use Rattle.table.specs.Statements.{statement_ok, bad_statement}

-- the loop's invariant: the routines left give the whole
pub record Searching (f : List ℤ) (count r : ℕ) : Type 0 where
  pub few : r ≤ count
  pub whole : bad_statement f r (count - r) ≡ bad_statement f 0 count

pub searching_start : (f : List ℤ) (count : ℕ) → Searching f count 0
searching_start f count = record { few = omega arith; whole = ap (bad_statement f 0) (sub-zero count) }

left : (count r : ℕ) → r < count → count - r ≡ suc (count - (r + 1))
left count r h = omega arith

pub searching_next : (f : List ℤ) (count r : ℕ) → Searching f count r → r < count → first_statement f (r + 1) ≤ bad_in f r → Searching f count (r + 1)
searching_next f count r s h b =
    record {
      few = omega arith;
      whole = sym (ap (bad_statement f r) (left count r h) ∙ bad_step f r (count - (r + 1)) ∙ rw (le-ltb _ _ b)) ∙ s.whole;
    }

pub searching_stop : (f : List ℤ) (count r : ℕ) → Searching f count r → r < count → bad_in f r < first_statement f (r + 1) → bad_in f r ≡ bad_statement f 0 count
searching_stop f count r s h b =
    sym (ap (bad_statement f r) (left count r h) ∙ bad_step f r (count - (r + 1)) ∙ rw (lt-ltb _ _ b)) ∙ s.whole

none_left : (count r : ℕ) → count ≤ r → count - r ≡ 0
none_left count r h = omega arith

pub searching_done : (f : List ℤ) (count r : ℕ) → Searching f count r → count ≤ r → first_statement f count ≡ bad_statement f 0 count
unfolding bad_statement
searching_done f count r s h =
    let e : count ≡ r = omega (arith, s.few) in ap (first_statement f) e ∙ sym (ap (bad_statement f r) (none_left count r h)) ∙ s.whole

-- what a search of one routine's statements by its two ends gives
pub searched : (f : List ℤ) (r from end s : ℕ) → s ≡ until (statement_ok f r) from (end - from) → from ≡ first_statement f r → end ≡ first_statement f (r + 1) → s ≡ bad_in f r
searched f r from end s e a b = e ∙ ap₂ (λ (p q : ℕ). until (statement_ok f r) p (q - p)) a b

-- "is named" by the set of all that are named
pub named_by_all : (names : List ℕ) (all n : ℕ) → all ≡ gather (λ (k : ℕ). get_or names k 0) 0 0 32 → until (has all) 1 n ≡ until (is_named names) 1 n
unfolding is_named
named_by_all names all n e = ap (λ (s : ℕ). until (has s) 1 n) e

-- ---- what a turn finds, by the list of the first statements

module _ {f : List ℤ} {first : List ℕ} (b : StatementsBegin f first) (count : ℕ) (n : count ≡ routines f) where
  module _ (r from end : ℕ) (inside : r < count) (p : from ≡ get_or first r 0) (q : end ≡ get_or first (r + 1) 0) (s : Searching f count r) where
    end_is : end ≡ first_statement f (r + 1)
    end_is = q ∙ statements_begin b (r + 1) (omega arith)

    place_is : until (statement_ok f r) from (end - from) ≡ bad_in f r
    place_is = searched f r from end _ refl (p ∙ statements_begin b r (omega arith)) end_is

    pub stopped_there : (i : ℕ) → Some i ≡ below (until (statement_ok f r) from (end - from)) end → Some i ≡ below (bad_statement f 0 (routines f)) (statements f)
    stopped_there i e =
        let found = below_some (until (statement_ok f r) from (end - from)) end i e in
        let before : bad_in f r < first_statement f (r + 1) = rw (place_is, end_is) at (ltb-true (until (statement_ok f r) from (end - from)) end found.0) in
        let whole : i ≡ bad_statement f 0 (routines f) =
        sym found.1 ∙ place_is ∙ searching_stop f count r s inside before ∙ ap (bad_statement f 0) n in
        let few : i < statements f =
        omega (arith, b.sum, ends_before f r (routines f) (omega arith), sym found.1 ∙ place_is) in
        sym (below_is i (statements f) few) ∙ ap {B = Option ℕ} (λ (x : ℕ). below x (statements f)) whole

    pub went_on : None ≡ below (until (statement_ok f r) from (end - from)) end → Searching f count (r + 1)
    went_on e =
        searching_next f count r s inside
        (rw (place_is, end_is) at (ltb-false (until (statement_ok f r) from (end - from)) end (below_none (until (statement_ok f r) from (end - from)) end e)))

  pub found_none : (r : ℕ) → Searching f count r → count ≤ r → None ≡ below (bad_statement f 0 (routines f)) (statements f)
  found_none r s h =
      let whole : statements f ≡ bad_statement f 0 (routines f) =
      sym b.sum ∙ ap (first_statement f) (sym n) ∙ searching_done f count r s h ∙ ap (bad_statement f 0) n in
      sym (below_not (statements f) (statements f) (le_refl (statements f))) ∙ ap {B = Option ℕ} (λ (x : ℕ). below x (statements f)) whole
