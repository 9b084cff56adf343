-- What the verdict "accepted" says of each check: it fails nowhere. Assumes nothing.
use Rattle.std.proofs.lemmas.Bool.{and_parts}
use Rattle.std.specs.Prelude.{◌≡◌, refl, List, Bool, true, false, cond, ◌&&◌, ℕ, ◌+◌, ◌-◌, ◌*◌, ◌/◌, ◌%◌, ◌≤◌, ◌<◌, ltb, leb, eqb, length, ℤ, Ok, Err}
use Rattle.std.proofs.Common.{◌∙◌, zero-le, arith, ltb-false, leb-true, eqb-true}
use Rattle.std.proofs.Math.Option.{Option, none, some}
use Rattle.lines.specs.Line.{first_bad, numbers_of}
use Rattle.lines.proofs.LineLoops.{numbers_sized}
use Rattle.lines.specs.Lowest.{lowest}
use Rattle.lines.proofs.LowestLaws.{none_all_good, some_lowest}
use Rattle.table.specs.Until.{until, or_else}
use Rattle.table.specs.Header.{header_ok, length_ok, leading_ok, handles, routines, statements, statement_line}
use Rattle.table.specs.HeaderLaws.{Sized}
use Rattle.table.proofs.HeaderLaws.{header_sized}
use Rattle.table.specs.Handles.{handle_ok}
use Rattle.table.specs.Routines.{routine_ok, sum_ok, first_statement}
use Rattle.table.specs.Statements.{bad_statement, end_ok}
use Rattle.table.specs.Naming.{names_in, is_named, is_acyclic}
use Rattle.table.specs.declared.Refusal.{Refusal}
use Rattle.table.specs.Verdict.{Verdict, verdict, numbers_verdict, declaration_verdict, statement_verdict, naming_verdict, text_ok, unless_bad}

-- ---- the places that `until` passes are good, and the one it stops at is not

pub until_before : (good : ℕ → Bool) (from n i : ℕ) → from ≤ i → i < until good from n → good i ≡ true
unfolding until
until_before good from n i a b = go (lowest good from n) refl b
  where
    go : (o : Option ℕ) → lowest good from n ≡ o → i < or_else o (from + n) → good i ≡ true
    go none e h = none_all_good good from n e i a h
    go (some k) e h = (some_lowest good from n k e).others i a h

pub until_at : (good : ℕ → Bool) (from n : ℕ) → until good from n < from + n → good (until good from n) ≡ false
unfolding until
until_at good from n b = go (lowest good from n) refl b
  where
    go : (o : Option ℕ) → lowest good from n ≡ o → or_else o (from + n) < from + n → good (or_else o (from + n)) ≡ false
    go none e h = absurd (omega arith)
    go (some k) e h = (some_lowest good from n k e).bad

-- a search that does not stop below `end` finds all good below it
pub until_all : (good : ℕ → Bool) (from n end : ℕ) → ltb (until good from n) end ≡ false → (i : ℕ) → from ≤ i → i < end → good i ≡ true
until_all good from n end e i a b = let past = ltb-false (until good from n) end e in until_before good from n i a (omega arith)

-- ---- a verdict by a test

passes : (b : Bool) (v : Verdict) (r : Refusal) → cond b v (Err r) ≡ Ok tt → (b ≡ true) × (v ≡ Ok tt)
passes true v r e = (refl, e)
passes false v r e = let z : ◌≡◌ {A = ℕ} 0 1 = cc in absurd (omega arith)

spared : (b : Bool) (v : Verdict) (r : Refusal) → cond b (Err r) v ≡ Ok tt → (b ≡ false) × (v ≡ Ok tt)
spared true v r e = let z : ◌≡◌ {A = ℕ} 0 1 = cc in absurd (omega arith)
spared false v r e = (refl, e)

-- ---- the checks

pub record Passed (f : List ℤ) : Type 0 where
  pub sized : Sized f
  pub handle_ok_lem : (h : ℕ) → h < handles f → handle_ok f h ≡ true
  pub routine_ok_lem : (r : ℕ) → r < routines f → routine_ok f r ≡ true
  pub sum : first_statement f (routines f) ≡ statements f
  pub no_bad : statements f ≤ bad_statement f 0 (routines f)
  pub end_ok_lem : (r : ℕ) → r < routines f → end_ok f r ≡ true
  pub named_ok : (r : ℕ) → 1 ≤ r → r < routines f → is_named (names_in f) r ≡ true
  pub acyclic_ok : (r : ℕ) → r < routines f → is_acyclic (names_in f) r ≡ true

-- 11 and 12
record NamingPassed (f : List ℤ) (names : List ℕ) : Type 0 where
  named_ok : (r : ℕ) → 1 ≤ r → r < routines f → is_named names r ≡ true
  acyclic_ok : (r : ℕ) → r < routines f → is_acyclic names r ≡ true

naming_passed : (f : List ℤ) (names : List ℕ) → naming_verdict f names ≡ Ok tt → NamingPassed f names
unfolding naming_verdict
naming_passed f names e =
    let p = spared (ltb (until (is_named names) 1 (routines f - 1)) (routines f)) _ _ e in
    let q = spared (ltb (until (is_acyclic names) 0 (routines f)) (routines f)) (Ok tt) _ p.1 in
    record {
      named_ok = until_all (is_named names) 1 (routines f - 1) (routines f) p.0;
      acyclic_ok = λ r h. until_all (is_acyclic names) 0 (routines f) (routines f) q.0 r zero-le h;
    }

-- 9 and 10
record StatementsPassed (f : List ℤ) : Type 0 where
  no_bad : statements f ≤ bad_statement f 0 (routines f)
  end_ok_lem : (r : ℕ) → r < routines f → end_ok f r ≡ true
  naming : NamingPassed f (names_in f)

statements_passed : (f : List ℤ) → statement_verdict f ≡ Ok tt → StatementsPassed f
unfolding statement_verdict
statements_passed f e =
    let p = spared (ltb (bad_statement f 0 (routines f)) (statements f)) _ _ e in
    let q = spared (ltb (until (end_ok f) 0 (routines f)) (routines f)) _ _ p.1 in
    record {
      no_bad = ltb-false (bad_statement f 0 (routines f)) (statements f) p.0;
      end_ok_lem = λ r h. until_all (end_ok f) 0 (routines f) (routines f) q.0 r zero-le h;
      naming = naming_passed f (names_in f) q.1;
    }

-- 6 to 12, with a header that passes
declarations_passed : (f : List ℤ) → Sized f → declaration_verdict f ≡ Ok tt → Passed f
unfolding declaration_verdict sum_ok
declarations_passed f z e =
    let p = spared (ltb (until (handle_ok f) 0 (handles f)) (handles f)) _ _ e in
    let q = spared (ltb (until (routine_ok f) 0 (routines f)) (routines f)) _ _ p.1 in
    let r = passes (sum_ok f) (statement_verdict f) _ q.1 in
    let s = statements_passed f r.1 in
    record {
      sized = z;
      handle_ok_lem = λ h b. until_all (handle_ok f) 0 (handles f) (handles f) p.0 h zero-le b;
      routine_ok_lem = λ h b. until_all (routine_ok f) 0 (routines f) (routines f) q.0 h zero-le b;
      sum = eqb-true (first_statement f (routines f)) (statements f) r.0;
      no_bad = s.no_bad;
      end_ok_lem = s.end_ok_lem;
      named_ok = s.naming.named_ok;
      acyclic_ok = s.naming.acyclic_ok;
    }

-- numbers that are accepted, with any count of lines, pass the checks 3 and 6 to 12
pub numbers_passed : (f : List ℤ) (lines : ℕ) → numbers_verdict f lines ≡ Ok tt → Passed f
unfolding numbers_verdict
numbers_passed f lines e =
    let p = passes (header_ok f) _ _ e in
    let q = passes (length_ok f lines) _ _ p.1 in
    let r = spared (ltb (until (leading_ok f) 1 (lines - 1)) lines) (declaration_verdict f) _ q.1 in
    declarations_passed f (header_sized f p.0) r.1

-- an accepted text's numbers pass them
pub text_passed : (text : List ℕ) → verdict text ≡ Ok tt → Passed (numbers_of text)
unfolding verdict
text_passed text e = go (first_bad text) (passes (text_ok (length text)) _ _ e).1
  where
    go : (b : Option ℕ) → unless_bad b (numbers_verdict (numbers_of text) (length text / 49)) ≡ Ok tt → Passed (numbers_of text)
    go none h = numbers_passed (numbers_of text) (length text / 49) h
    go (some i) h = let z : ◌≡◌ {A = ℕ} 0 1 = cc in absurd (omega arith)

-- an accepted text has as many lines as its header says
lines_are : (f : List ℤ) (lines : ℕ) → numbers_verdict f lines ≡ Ok tt → lines ≡ statement_line f (statements f)
unfolding numbers_verdict length_ok
lines_are f lines e = eqb-true _ _ (passes (length_ok f lines) _ _ (passes (header_ok f) _ _ e).1).0

text_short : (n : ℕ) → text_ok n ≡ true → n ≤ 32977
unfolding text_ok
text_short n e = leb-true n 32977 (and_parts (ltb 0 n && eqb (n % 49) 0) (leb n 32977) e).1

pub text_long : (text : List ℕ) → verdict text ≡ Ok tt → length (numbers_of text) ≡ 8 * statement_line (numbers_of text) (statements (numbers_of text))
unfolding verdict
text_long text e = let p = passes (text_ok (length text)) _ _ e in go (first_bad text) (text_short (length text) p.0) p.1
  where
    go : (b : Option ℕ) → length text ≤ 32977 → unless_bad b (numbers_verdict (numbers_of text) (length text / 49)) ≡ Ok tt
        → length (numbers_of text) ≡ 8 * statement_line (numbers_of text) (statements (numbers_of text))
    go none l h = numbers_sized text ∙ omega (arith, lines_are (numbers_of text) (length text / 49) h)
    go (some i) l h = let z : ◌≡◌ {A = ℕ} 0 1 = cc in absurd (omega arith)
