-- Where the statements of a routine stand, when every routine line keeps its rule and the counts add up: each statement in exactly one routine; and
-- that each keeps its rule there, when none is found bad. Assumes nothing.
use Rattle.std.proofs.lemmas.Bool.{and_parts, or_cases}
use Rattle.std.specs.Prelude.{◌≡◌, refl, List, ◌⊎◌, Bool, true, false, cond, ◌||◌, ℕ, zero, suc, ◌+◌, ◌-◌, ◌≤◌, ◌<◌, eqb, ltb, ℤ}
use Rattle.std.proofs.Common.{subst, inl, inr, zero-le, arith, ltb-true, ltb-false, eqb-true}
use Rattle.std.proofs.Math.Decide.{dec_lt}
use Rattle.table.specs.Fields.{unused}
use Rattle.table.specs.Header.{routines, statements, routine_line, within}
use Rattle.table.proofs.HeaderLaws.{between}
use Rattle.table.specs.Routines.{count_of, routine_ok, first_statement}
use Rattle.table.proofs.ExtentLaws.{first_next}
use Rattle.table.specs.Statements.{operation, statement_ok, bad_statement, end_ok, last_of}
use Rattle.table.specs.Until.{until}
use Rattle.table.proofs.CheckLaws.{Passed, until_before}

pub some_statement : (f : List ℤ) (r : ℕ) → routine_ok f r ≡ true → 1 ≤ count_of f r
unfolding routine_ok
some_statement f r e =
    (between 1 (statements f) (count_of f r) (and_parts (within 1 (statements f) (count_of f r)) (unused f (routine_line f r) 2) e).0).0

-- a later routine's statements begin no earlier
pub first_grows : (f : List ℤ) (r n : ℕ) → first_statement f r ≤ first_statement f (r + n)
first_grows f r zero = let e : r + 0 ≡ r = omega arith in rw e (omega arith)
first_grows f r (suc n) =
    let e : r + suc n ≡ r + n + 1 = omega arith in
    let before = first_grows f r n in
    let step = first_next f (r + n) in
    rw e (omega arith)

-- a routine whose number is lower has all its statements before
pub ends_before : (f : List ℤ) (r q : ℕ) → r < q → first_statement f (r + 1) ≤ first_statement f q
ends_before f r q h =
    let e : r + 1 + (q - (r + 1)) ≡ q = omega arith in
    subst (λ (x : ℕ). first_statement f (r + 1) ≤ first_statement f x) e (first_grows f (r + 1) (q - (r + 1)))

-- a statement of the first n routines is in one of them
pub some_owner : (f : List ℤ) (n s : ℕ) → s < first_statement f n → (r : ℕ) × (r < n) × (first_statement f r ≤ s) × (s < first_statement f (r + 1))
unfolding first_statement
some_owner f zero s h = absurd (omega arith)
some_owner f (suc n) s h = go (dec_lt s (first_statement f n)) (some_owner f n s)
  where
    go : Dec (s < first_statement f n) → (s < first_statement f n → (r : ℕ) × (r < n) × (first_statement f r ≤ s) × (s < first_statement f (r + 1)))
        → (r : ℕ) × (r < suc n) × (first_statement f r ≤ s) × (s < first_statement f (r + 1))
    go (yes p) ih = let o = ih p in (o.0, omega arith, o.2, o.3)
    go (no p) ih = let e = first_next f n in (n, omega arith, omega arith, omega arith)

pub one_owner : (f : List ℤ) (r q s : ℕ) → first_statement f r ≤ s → s < first_statement f (r + 1) → first_statement f q ≤ s → s < first_statement f (q + 1) → r ≡ q
one_owner f r q s a b c d = go (dec_lt r q) (dec_lt q r)
  where
    go : Dec (r < q) → Dec (q < r) → r ≡ q
    go (yes p) k = let e = ends_before f r q p in absurd (omega arith)
    go (no p) (yes k) = let e = ends_before f q r k in absurd (omega arith)
    go (no p) (no k) = omega arith

-- ---- no bad statement is found

-- what routine r's own statements give
abbrev pub bad_in : List ℤ → ℕ → ℕ
bad_in f r = until (statement_ok f r) (first_statement f r) (first_statement f (r + 1) - first_statement f r)

pub bad_step : (f : List ℤ) (r n : ℕ) → bad_statement f r (suc n) ≡ cond (ltb (bad_in f r) (first_statement f (r + 1))) (bad_in f r) (bad_statement f (r + 1) n)
unfolding bad_statement
bad_step f r n = refl

none_bad : (f : List ℤ) (n r : ℕ) → first_statement f (r + n) ≤ bad_statement f r n → (q : ℕ) → r ≤ q → q < r + n → first_statement f (q + 1) ≤ bad_in f q
none_bad f zero r h q a b = absurd (omega arith)
none_bad f (suc n) r h q a b = go (ltb (bad_in f r) (first_statement f (r + 1))) refl (subst (λ (x : ℕ). first_statement f (r + suc n) ≤ x) (bad_step f r n) h) (none_bad f n (r + 1))
  where
    e : r + suc n ≡ r + 1 + n
    e = omega arith

    at : Dec (r < q) → first_statement f (r + 1) ≤ bad_in f r → (r < q → first_statement f (q + 1) ≤ bad_in f q) → first_statement f (q + 1) ≤ bad_in f q
    at (yes p) now later = later p
    at (no p) now later = let k : r ≡ q = omega arith in subst (λ (x : ℕ). first_statement f (x + 1) ≤ bad_in f x) k now

    go : (t : Bool) → ltb (bad_in f r) (first_statement f (r + 1)) ≡ t → first_statement f (r + suc n) ≤ cond t (bad_in f r) (bad_statement f (r + 1) n)
        → (first_statement f (r + 1 + n) ≤ bad_statement f (r + 1) n → (q : ℕ) → r + 1 ≤ q → q < r + 1 + n → first_statement f (q + 1) ≤ bad_in f q)
        → first_statement f (q + 1) ≤ bad_in f q
    go true t k ih =
        let l = ltb-true (bad_in f r) (first_statement f (r + 1)) t in
        let m = ends_before f r (r + suc n) (omega arith) in
        absurd (omega arith)
    go false t k ih =
        at (dec_lt r q) (ltb-false (bad_in f r) (first_statement f (r + 1)) t)
        (λ p. ih (subst (λ (x : ℕ). first_statement f x ≤ bad_statement f (r + 1) n) e k) q (omega arith) (omega arith))

-- each statement of each routine keeps its rule
pub statement_good : (f : List ℤ) → Passed f → (r s : ℕ) → r < routines f → first_statement f r ≤ s → s < first_statement f (r + 1) → statement_ok f r s ≡ true
statement_good f p r s b low high =
    let z : 0 + routines f ≡ routines f = omega arith in
    let all = p.no_bad in
    let sum = p.sum in
    let none : first_statement f (0 + routines f) ≤ bad_statement f 0 (routines f) = rw z (omega arith) in
    let past = none_bad f (routines f) 0 none r zero-le (omega arith) in
    until_before (statement_ok f r) (first_statement f r) (first_statement f (r + 1) - first_statement f r) s low (omega arith)

-- a statement that is not JUMP or RETURN is not the last of its routine
pub not_last : (f : List ℤ) (r s : ℕ) → end_ok f r ≡ true → s < first_statement f (r + 1) → (operation f s ≡ 10 → ⊥) → (operation f s ≡ 12 → ⊥) → s + 1 < first_statement f (r + 1)
unfolding end_ok
not_last f r s e b jump return = go (dec_lt (s + 1) (first_statement f (r + 1)))
  where
    last : last_of f r ≡ s → ⊥
    last k =
        let at = subst (λ (x : ℕ). (eqb (operation f x) 10 || eqb (operation f x) 12) ≡ true) k e in
        by (or_cases (eqb (operation f s) 10) (eqb (operation f s) 12) at)
      where
        by : (eqb (operation f s) 10 ≡ true) ⊎ (eqb (operation f s) 12 ≡ true) → ⊥
        by (inl t) = jump (eqb-true (operation f s) 10 t)
        by (inr t) = return (eqb-true (operation f s) 12 t)

    go : Dec (s + 1 < first_statement f (r + 1)) → s + 1 < first_statement f (r + 1)
    go (yes p) = p
    go (no p) = absurd (last (omega arith))
