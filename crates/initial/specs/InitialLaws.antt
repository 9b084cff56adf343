-- What the view of a statement and the fields of a handle's line say of the sets that each equation begins with. Assumes nothing.
use Rattle.std.specs.Prelude.{ℕ, ◌+◌, ◌≤◌, ◌<◌, ◌≡◌, refl, Bool, true, cond, List, [], ◌∷◌, ◌++◌, ℤ, length, Option, Some, None}
use Rattle.std.proofs.Math.Path.{sym, ap, ap₂}
use Rattle.std.proofs.Common.{◌∙◌, arith}
use Rattle.std.proofs.Math.Bool.{false}
use Rattle.std.specs.Int.Bits.{or_zero_r}
use borrow.Author.Tests.{ne_eqb, lt-ltb, le-ltb}
use Rattle.std.proofs.Math.ListN.{get_or, get_or-eq_default}
use Rattle.sets.specs.Set.{one, union}
use Rattle.table.specs.Fields.{field}
use Rattle.table.specs.Header.{handles, statements}
use Rattle.table.specs.Table.{Table, table_of, statement}
use Rattle.table.proofs.LookupLaws.{statements_length, declaration_says}
use Rattle.table.specs.View.{view, set_on, list_on, when}
use Rattle.table.proofs.ViewLaws.{on_number}
use Rattle.table.specs.declared.View.{View}
use Rattle.table.specs.declared.Statement.TheVariants.{Return}
use Rattle.report.specs.Over.{union_at}
use Rattle.report.specs.Layout.{named}
use Rattle.report.specs.Operations.{nexts}
use Rattle.report.specs.Flow.{start_of}
use Rattle.initial.specs.declared.Act.{Act}
use Rattle.initial.specs.declared.Act.TheVariants.{Gives, Reads, Writes}
use Rattle.initial.specs.InitialSets.{touched, own_set, effect_at, nexts_effect, future_initial}

-- the union over what may come next
next_union : (s : ℕ) (g : ℕ → ℕ) (r : Option ℕ) (b : Bool)
    → union (set_on r g) (cond b (g (s + 1)) 0) ≡ union_at (list_on r (λ n. n ∷ []) ++ when b ((s + 1) ∷ [])) g
unfolding union_at union
next_union s g (Some n) true = ap (union (g n)) (sym (or_zero_r (g (s + 1))))
next_union s g (Some n) false = refl
next_union s g None true = sym (or_zero_r (g (s + 1)))
next_union s g None false = refl

-- ---- what a statement does, by its view

module _ (t : Table) (s : ℕ) {v : View} (is : v ≡ view (statement t s)) where
  -- itself
  pub own_is : (act : Act) (flow : List ℕ) {r : Option ℕ} → r ≡ touched act v
      → set_on r (λ (h : ℕ). get_or flow h 0) ≡ own_set act flow (statement t s)
  unfolding own_set
  own_is act flow e = ap {B = ℕ} (λ r. set_on r (λ (h : ℕ). get_or flow h 0)) (e ∙ ap (touched act) is)

  -- with the routine that it names
  pub effect_is : (act : Act) (flow effect : List ℕ) {own : ℕ} {n : Option ℕ} → own ≡ own_set act flow (statement t s) → n ≡ v.names
      → union own (set_on n (λ (q : ℕ). get_or effect q 0)) ≡ effect_at act flow effect t s
  unfolding effect_at named
  effect_is act flow effect e p =
      ap₂ {C = ℕ} (λ (a b : ℕ). union a b) e
      (ap {B = ℕ} (λ n. set_on n (λ (q : ℕ). get_or effect q 0)) (p ∙ ap (λ (v : View). v.names) is) ∙ sym (on_number (view (statement t s)).names (λ (q : ℕ). get_or effect q 0) 0))

  -- and what may come next
  module _ (act : Act) (flow effect : List ℕ) where
    abbrev g : ℕ → ℕ
    g = effect_at act flow effect t

    later_is : {b : Bool} → v.onward ≡ b → union (set_on v.target g) (cond b (g (s + 1)) 0) ≡ nexts_effect act flow effect t s
    unfolding nexts_effect nexts
    later_is e =
        ap {B = ℕ} (λ b. union (set_on v.target g) (cond b (g (s + 1)) 0)) (sym e)
        ∙ ap {B = ℕ} (λ v. union (set_on v.target g) (cond v.onward (g (s + 1)) 0)) is
        ∙ next_union s g (view (statement t s)).target (view (statement t s)).onward

    module _ {r : Option ℕ} (p : r ≡ v.target) {b : Bool} (q : b ≡ v.onward) where
      pub later_both : b ≡ true → union (set_on r g) (g (s + 1)) ≡ nexts_effect act flow effect t s
      later_both e = ap {B = ℕ} (λ r. union (set_on r g) (g (s + 1))) p ∙ later_is (sym q ∙ e)

      pub later_there : b ≡ false → set_on r g ≡ nexts_effect act flow effect t s
      unfolding union
      later_there e = ap {B = ℕ} (λ r. set_on r g) p ∙ sym (or_zero_r (set_on v.target g)) ∙ later_is (sym q ∙ e)

-- ---- past the last statement

pub effect_past : (f : List ℤ) (act : Act) (flow effect : List ℕ) (s : ℕ) → statements f ≤ s → 0 ≡ effect_at act flow effect (table_of f) s
unfolding effect_at own_set union
effect_past f act flow effect s l =
    let e : statement (table_of f) s ≡ Return = get_or-eq_default (table_of f).statements Return (omega (arith, statements_length f)) in
    rw e (go act)
  where
    go : (act : Act) → 0 ≡ union (set_on (touched act (view Return)) (λ (h : ℕ). get_or flow h 0)) 0
    go Gives = refl
    go Reads = refl
    go Writes = refl

-- ---- what a future begins with

module _ (f : List ℤ) (act : Act) (flow effect : List ℕ) (p : ℕ) where
  pub future_inside : p < statements f → nexts_effect act flow effect (table_of f) p ≡ future_initial act flow effect (table_of f) p
  unfolding future_initial
  future_inside l = rw (lt-ltb p (length (table_of f).statements) (omega (arith, statements_length f)))

  pub future_behind : statements f ≤ p → 0 ≡ future_initial act flow effect (table_of f) p
  unfolding future_initial
  future_behind l = rw (le-ltb p (length (table_of f).statements) (omega (arith, statements_length f)))

-- ---- handles

module _ (f : List ℤ) (h : ℕ) (b : h < handles f) where
  pub start_local : field f (1 + h) 3 ≡ 1 → one (field f (1 + h) 4) ≡ start_of (table_of f) h
  unfolding start_of
  start_local e = let says = declaration_says f h b in rw (says.origin, says.start, e)

  pub start_parameter : (field f (1 + h) 3 ≡ 1 → ⊥) → 0 ≡ start_of (table_of f) h
  unfolding start_of
  start_parameter e = let says = declaration_says f h b in rw (says.origin, ne_eqb (field f (1 + h) 3) 1 e)
