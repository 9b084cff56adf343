-- One copy of each routine fits every accepted table. Assumes nothing.
use Rattle.std.specs.Prelude.{ℕ, zero, suc, ◌+◌, ◌≤◌, ◌<◌, ◌≡◌, Bool, true, false, not, cond, leb, ltb}
use Rattle.std.proofs.Math.Path.{refl, subst}
use Rattle.std.proofs.Common.{sym, ap, ◌∙◌, arith, leb-true, ltb-true, le-leb, lt-ltb}
use mathlib.Core.List.Memᴰ
use mathlib.Core.List.{[], ◌∷◌, Memᴰ}
use Rattle.std.proofs.Math.ListN.{length}
use Rattle.std.proofs.lemmas.Bool.{not-false, and_parts, and_from}
use Rattle.table.specs.Table.{Table, routine, statement, InRoutine}
use Rattle.table.specs.View.{view}
use Rattle.table.proofs.ViewLaws.{set_is}
use Rattle.table.specs.Accepted.{Accepted, Names, Operands}
use Rattle.table.proofs.TabulateLaws.{get_d_tabulate}
use Rattle.table.specs.Until.{until}
use Rattle.table.proofs.UntilLaws.{until_step}
use Rattle.table.specs.declared.Statement.{Statement}
use Rattle.report.proofs.OverLaws.{never}
use Rattle.report.specs.Layout.{named, is_in, owner_of, one_each}
use Rattle.report.specs.Fits.{Fits}

names_named : (σ : Statement) (q : ℕ) → Names σ q → named σ ≡ q
unfolding named
names_named σ q n = set_is (view σ).names (λ q. q) n

-- a routine that is named is there
pub names_there : (t : Table) (r : ℕ) (σ : Statement) (q : ℕ) → Operands t r σ → Names σ q → q < length t.routines
names_there t r σ q o n = (o.passes q n).there

-- where the test fails somewhere, `until` finds a place at which it fails
until_finds : (good : ℕ → Bool) (from n i : ℕ) → from ≤ i → i < from + n → good i ≡ false
    → (until good from n < from + n) × (good (until good from n) ≡ false)
until_finds good from zero i l h e = absurd (omega arith)
until_finds good from (suc n) i l h e =
    let ih : from + 1 ≤ i → (until good (from + 1) n < from + 1 + n) × (good (until good (from + 1) n) ≡ false) =
    λ m. until_finds good (from + 1) n i m (omega arith) e in
    rw until_step (go ih (good from) refl)
  where
    go : (from + 1 ≤ i → (until good (from + 1) n < from + 1 + n) × (good (until good (from + 1) n) ≡ false)) → (b : Bool) → good from ≡ b
        → (cond b (until good (from + 1) n) from < from + suc n) × (good (cond b (until good (from + 1) n) from) ≡ false)
    go ih true q =
        let d : from ≡ i → ⊥ = λ p. never (sym q ∙ ap good p ∙ e) in
        let r : (until good (from + 1) n < from + 1 + n) × (good (until good (from + 1) n) ≡ false) = ih (omega arith) in
        (omega arith, r.1)
    go ih false q = (omega arith, q)

in_true : (t : Table) (r s : ℕ) → InRoutine t r s → is_in t s r ≡ true
unfolding is_in
in_true t r s i = and_from _ _ (le-leb _ _ i.low) (lt-ltb _ _ i.high)

true_in : (t : Table) (r s : ℕ) → is_in t s r ≡ true → InRoutine t r s
unfolding is_in
true_in t r s e =
    let b : (leb (routine t r).first s ≡ true) × (ltb s ((routine t r).first + (routine t r).count) ≡ true) =
    and_parts (leb (routine t r).first s) (ltb s ((routine t r).first + (routine t r).count)) e in
    record { low = leb-true _ _ b.0; high = ltb-true _ _ b.1 }

-- the owner that is found is the routine of the statement
owner_is : (t : Table) → Accepted t → (r s : ℕ) → r < length t.routines → InRoutine t r s → owner_of t s ≡ r
unfolding owner_of
owner_is t acc r s l i =
    let f : (owner_of t s < 0 + length t.routines) × (not (is_in t s (owner_of t s)) ≡ false) =
    until_finds (λ q. not (is_in t s q)) 0 (length t.routines) r (omega arith) (omega arith) (ap not (in_true t r s i)) in
    acc.one_owner (owner_of t s) r s (omega arith) l (true_in t (owner_of t s) s (not-false _ f.1)) i

the_one : (s p : ℕ) → Memᴰ p (s ∷ []) → p ≡ s
the_one s p m = Memᴰ.eq_of_singleton m

module _ (t : Table) (acc : Accepted t) where
  pub statement_below : (r s : ℕ) → r < length t.routines → InRoutine t r s → s < length t.statements
  statement_below r s l i =
      let h : (routine t r).first + (routine t r).count ≤ length t.statements = (acc.routine_facts r l).statements_there in
      let g : s < (routine t r).first + (routine t r).count = i.high in
      omega arith

  -- the copy of a statement is the routine that it is dealt out to
  pub copy_is : (r s : ℕ) → r < length t.routines → InRoutine t r s → (one_each t).statement_copy s ≡ r
  unfolding one_each
  copy_is r s l i = get_d_tabulate (length t.statements) (owner_of t) s 0 (statement_below r s l i) ∙ owner_is t acc r s l i

  -- one copy of each routine fits
  pub one_each_fits : Fits t (one_each t)
  unfolding one_each
  one_each_fits = record {
    first_there = acc.routines_some;
    first_statement_lem = refl;
    of_there = λ c l. l;
    leads_there = λ c s q l i n.
        subst (λ (x : ℕ). x < length t.routines) (sym (names_named (statement t s) q n))
        (names_there t c (statement t s) q (acc.operands c s l i) n);
    leads_of = λ c s q l i n. names_named (statement t s) q n;
    handle_placed = λ c h l o. record { there = o.there; copy = o.own; same = refl };
    handle_there = λ p l. record { copy = (acc.handle p l).routine_there; own = record { there = l; own = refl }; back = refl };
    statement_placed = λ c s l i. record { there = statement_below c s l i; copy = copy_is c s l i; same = refl };
    statement_there = λ p l.
        let o : (r : ℕ) × (r < length t.routines) × InRoutine t r p = acc.owner p l in
        let e : (one_each t).statement_copy p ≡ o.0 = copy_is o.0 p o.1 o.2 in
        record {
          copy = subst (λ (c : ℕ). c < length t.routines) (sym e) o.1;
          own = subst (λ (c : ℕ). InRoutine t c p) (sym e) o.2;
          back = refl;
          number = l;
          among = Memᴰ.head refl;
        };
    places_of_lem = λ s p l m. let e : p ≡ s = the_one s p m in (subst (λ (x : ℕ). x < length t.statements) (sym e) l, e);
  }
