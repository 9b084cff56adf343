-- The parts of a table as its numbers give them, and what the two lists of routines give. Assumes nothing.
use Rattle.std.specs.Prelude.{ℕ, zero, suc, ◌+◌, ◌-◌, ◌*◌, ◌<◌, ◌≤◌, ◌≡◌, refl, Bool, true, false, List, ◌⊎◌, eqb, ltb, ℤ, length, get_or}
use Rattle.std.proofs.Common.{sym, ap, ◌∙◌, inl, inr, arith, ltb-true, ltb-false}
use borrow.Author.Tests.{eq-eqb, ne_eqb}
use Rattle.table.specs.Fields.{field}
use Rattle.table.specs.Header.{handles, routines, statements, statement_line}
use Rattle.table.specs.Handles.{routine_of, handles_from}
use Rattle.table.specs.Routines.{first_statement}
use Rattle.table.specs.Extents.{first_statements, first_handles}
use Rattle.table.proofs.TabulateLaws.{length_tabulate, get_d_tabulate, entry_behind}
use Rattle.table.proofs.ExtentLaws.{handles_next, first_at, handle_at_lem}
use Rattle.table.proofs.LookupLaws.{routines_length}
use Rattle.table.proofs.UntilLaws.{until_range}
use Rattle.table.specs.Table.{table_of, declaration, routine, statement, declaration_of, routine_at, statement_of}
use Rattle.table.specs.Accepted.{Accepted, HandleFacts}
use Rattle.declarations.specs.declared.outline.Extents.{Extents}
use Rattle.declarations.specs.Laid.{Laid}
use Rattle.run_state.specs.Shown.{HandlesThere, value_place, entry_value}

pub declaration_read : (f : List ℤ) (h : ℕ) → h < length (table_of f).handles → declaration (table_of f) h ≡ declaration_of f h
unfolding table_of
declaration_read f h l = get_d_tabulate (handles f) (declaration_of f) h _ (rw length_tabulate at l)

pub statement_read : (f : List ℤ) (s : ℕ) → s < length (table_of f).statements → statement (table_of f) s ≡ statement_of f s
unfolding table_of
statement_read f s l = get_d_tabulate (statements f) (statement_of f) s _ (rw length_tabulate at l)

pub routine_read : (f : List ℤ) (r : ℕ) → r < length (table_of f).routines → routine (table_of f) r ≡ routine_at f r
unfolding table_of
routine_read f r l = get_d_tabulate (routines f) (routine_at f) r _ (rw length_tabulate at l)

-- ---- a new frame's values, by a handle's line

module _ (f : List ℤ) (values : List ℕ) (caller g h : ℕ) (there : h < length (table_of f).handles) where
  same : declaration (table_of f) h ≡ declaration_of f h
  same = declaration_read f h there

  pub argument_value : (x : ℕ) → field f (1 + h) 3 ≡ 0 → x ≡ get_or values (value_place caller g) 0 → x ≡ entry_value (table_of f) values caller g h
  unfolding entry_value declaration_of
  argument_value x o v = rw (same, eq-eqb (field f (1 + h) 3) 0 o) v

  pub local_value : (field f (1 + h) 3 ≡ 0 → ⊥) → field f (1 + h) 4 ≡ entry_value (table_of f) values caller g h
  unfolding entry_value declaration_of
  local_value o = rw (same, ne_eqb (field f (1 + h) 3) 0 o)

  pub local_small : Accepted (table_of f) → (field f (1 + h) 3 ≡ 0 → ⊥) → field f (1 + h) 4 < 256
  unfolding declaration_of
  local_small accepted o = rw same at (small facts.origin_known facts.kind_known)
    where
      facts : HandleFacts (table_of f) h
      facts = accepted.handle h there

      small : ((declaration (table_of f) h).origin ≡ 0) ⊎ ((declaration (table_of f) h).origin ≡ 1) → ((declaration (table_of f) h).kind ≡ 1) ⊎ ((declaration (table_of f) h).kind ≡ 2)
          → (declaration (table_of f) h).start < 256
      small (inl z) k = absurd (o (ap (λ q. q.origin) (sym same) ∙ z))
      small (inr z) (inl k) = omega (arith, facts.cell_there z k, accepted.cells_most)
      small (inr z) (inr k) = omega (arith, facts.lock_there z k, accepted.locks_most)

-- the lines of an accepted table's handles are there
pub handles_there : (f : List ℤ) → length f ≡ 8 * statement_line f (statements f) → HandlesThere f
unfolding table_of
handles_there f e = rw length_tabulate (omega arith)

-- what the two lists hold at a routine
pub record LookedUp (f : List ℤ) (r : ℕ) : Type 0 where
  pub first_is : get_or (first_statements f) r 0 ≡ (routine (table_of f) r).first
  pub from_is : get_or (first_handles f) r 0 ≡ (routine (table_of f) r).handle
  pub end_is : get_or (first_handles f) (r + 1) 0 ≡ (routine (table_of f) r).handle + (routine (table_of f) r).handles

-- how far they go, behind the last routine too, where they are zeros
pub record Bounds (f : List ℤ) (r : ℕ) : Type 0 where
  pub first_low : get_or (first_statements f) r 0 ≤ 512
  pub few : get_or (first_handles f) (r + 1) 0 ≤ get_or (first_handles f) r 0 + 8
  pub there : get_or (first_handles f) (r + 1) 0 ≤ length (table_of f).handles

module _ (f : List ℤ) (accepted : Accepted (table_of f)) where
  few_routines : routines f ≤ 32
  few_routines = omega (arith, accepted.routines_most, routines_length f)

  pub looked_up : (r : ℕ) → r < length (table_of f).routines → LookedUp f r
  unfolding routine_at
  looked_up r l =
      let inside : r < routines f = omega (arith, routines_length f) in
      let e = routine_read f r l in
      let rises : handles_from f r ≤ handles_from f (r + 1) =
      rw (handles_next f r) (until_range (λ h. eqb (routine_of f h) r) (handles_from f r) (handles f - handles_from f r)).0 in
      record {
        first_is = first_at f few_routines (first_statements f) r refl (omega arith) ∙ ap (λ q. q.first) (sym e);
        from_is = handle_at_lem f few_routines (first_handles f) r refl (omega arith) ∙ ap (λ q. q.handle) (sym e);
        end_is = handle_at_lem f few_routines (first_handles f) (r + 1) refl (omega arith) ∙ rw e (omega arith);
      }

  ends : (q : ℕ) → q < length (table_of f).routines → first_statement f (suc q) ≡ (routine (table_of f) q).first + (routine (table_of f) q).count
  unfolding first_statement routine_at
  ends q there = rw (routine_read f q there) refl

  -- the statements of the routines below another are at most 512
  first_most : (r : ℕ) → get_or (first_statements f) r 0 ≤ 512
  unfolding first_statement
  first_most zero = omega (arith, first_at f few_routines (first_statements f) 0 refl (omega arith))
  first_most (suc q) = go (ltb q (routines f)) refl
    where
      go : (b : Bool) → ltb q (routines f) ≡ b → get_or (first_statements f) (suc q) 0 ≤ 512
      go true e =
          let inside = ltb-true q (routines f) e in
          let there : q < length (table_of f).routines = omega (arith, routines_length f) in
          let facts = accepted.routine_facts q there in
          omega (arith, first_at f few_routines (first_statements f) (suc q) refl (omega arith), ends q there, facts.statements_there, accepted.statements_most)
      go false e = omega (arith, entry_behind 33 (routines f + 1) (first_statement f) (first_statements f) (suc q) refl (omega (arith, ltb-false q (routines f) e)))

  pub bounds : (r : ℕ) → Bounds f r
  bounds r = go (ltb r (routines f)) refl
    where
      go : (b : Bool) → ltb r (routines f) ≡ b → Bounds f r
      go true e =
          let there : r < length (table_of f).routines = omega (arith, ltb-true r (routines f) e, routines_length f) in
          let facts = accepted.routine_facts r there in
          let u = looked_up r there in
          record {
            first_low = first_most r;
            few = omega (arith, u.from_is, u.end_is, facts.few_handles);
            there = omega (arith, u.end_is, facts.handles_there);
          }
      go false e =
          let none = entry_behind 33 (routines f + 1) (handles_from f) (first_handles f) (r + 1) refl (omega (arith, ltb-false r (routines f) e)) in
          record { first_low = first_most r; few = omega (arith, none); there = omega (arith, none) }

  -- of a routine that is there, the first statement is one of the table's
  pub first_inside : (r : ℕ) → r < length (table_of f).routines → get_or (first_statements f) r 0 < 512
  first_inside r l =
      let facts = accepted.routine_facts r l in
      omega (arith, (looked_up r l).first_is, facts.some_statement, facts.statements_there, accepted.statements_most)

-- a routine's first statement, as a program's extents have it
pub first_small : {f : List ℤ} {base : ℕ} {x : Extents} → Laid f base x → (r : ℕ) → get_or x.first r 0 ≤ 512
first_small l r = rw l.measured.firsts (bounds _ l.accepted r).first_low
