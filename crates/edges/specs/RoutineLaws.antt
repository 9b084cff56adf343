-- The parts of each routine from the lists that lay them out, and the routine of each statement, going through the statements in order. Assumes nothing.
use Rattle.std.specs.Prelude.{ℕ, ◌+◌, ◌^◌, ◌≤◌, ◌<◌, ◌≡◌, refl, Bool, true, false, ltb, ℤ, length, get_or, Some}
use Rattle.std.proofs.Common.{sym, ap₂, ◌∙◌, ltb-true, ltb-false}
use Rattle.std.proofs.Math.Path.{ap}
use mathlib.Core.List.{List, [], ◌∷◌, ◌++◌}
use native.Mathlib.Omega.{arith}
use Rattle.std.specs.Coded.{le_prop}
use Rattle.table.specs.Header.{routines, statements}
use Rattle.table.specs.Routines.{first_statement}
use Rattle.table.specs.Table.{Table, table_of, routine, statement, InRoutine}
use Rattle.table.specs.Extents.{first_statements, first_handles, parameter_counts}
use Rattle.table.proofs.ExtentLaws as L
use Rattle.table.proofs.TabulateLaws.{get_d_tabulate}
use Rattle.table.proofs.LookupLaws.{routines_length, statements_length, routine_says, in_routine_lem, routine_in}
use Rattle.table.proofs.RoutineLaws.{ends_before}
use Rattle.sets.specs.Least.{Edge}
use Rattle.table.specs.View.{view, list_on}
use Rattle.table.specs.declared.Arguments.{Arguments}
use Rattle.table.specs.declared.View.{View}
use Rattle.table.specs.Accepted.{Accepted, RoutineFacts}
use Rattle.report.specs.Layout.{owner_of, one_each}
use Rattle.report.specs.Flow.{passing}
use Rattle.report.proofs.OneEach.{copy_is}
use Rattle.edges.specs.Equations.{Flow, edge, edges_at}
use Rattle.edges.specs.LineLaws.{passing_from, passing_is, flow_naming}

-- statement s is one of routine r, or the one behind its last
pub record Near (f : List ℤ) (r s : ℕ) : Type 0 where
  pub there : r < routines f
  pub small : r < 32
  pub low : first_statement f r ≤ s
  pub high : s ≤ first_statement f (r + 1)

pub Near-prop : (f : List ℤ) (r s : ℕ) → IsProp (Near f r s)
Near-prop f r s x y = λ i. record {
  there = le_prop x.there y.there i;
  small = le_prop x.small y.small i;
  low = le_prop x.low y.low i;
  high = le_prop x.high y.high i;
}

-- arguments go to the parameters of routine q: `count` handles from `begin` on
pub record PassingParts (f : List ℤ) (a : Arguments) (q begin count : ℕ) : Type 0 where
  pub small : begin < 2 ^ 32
  pub few : count ≤ 4
  pub is : passing_from a begin count ≡ passing (table_of f) (one_each (table_of f)) 0 0 q a

-- the copy of a statement is its routine
pub copy_of : (t : Table) (s : ℕ) → s < length t.statements → owner_of t s ≡ (one_each t).statement_copy s
unfolding one_each
copy_of t s l = sym (get_d_tabulate (length t.statements) (owner_of t) s 0 l)

module _ (f : List ℤ) (acc : Accepted (table_of f)) where
  abbrev t : Table
  t = table_of f

  few : routines f ≤ 32
  few = omega (arith, acc.routines_most, routines_length f)

  facts : (r : ℕ) → r < routines f → RoutineFacts t r
  facts r b = acc.routine_facts r (omega (arith, routines_length f))

  -- ---- parts

  module _ (first : List ℕ) (firsts : first ≡ first_statements f) (r : ℕ) (b : r < routines f) where
    pub first_at : get_or first r 0 ≡ (routine t r).first
    first_at = L.first_at f few first r firsts (omega arith) ∙ sym (routine_says f r b).first

    next_at : get_or first (r + 1) 0 ≡ first_statement f (r + 1)
    next_at = L.first_at f few first (r + 1) firsts (omega arith)

    pub end_at : get_or first (r + 1) 0 ≡ (routine t r).first + (routine t r).count
    end_at = let says = routine_says f r b in omega (arith, next_at, says.first, says.count, says.next)

    -- the routine's statements are there
    pub end_there : get_or first (r + 1) 0 ≤ statements f
    end_there = omega (arith, end_at, (facts r b).statements_there, statements_length f)

  module _ (handle counts : List ℕ) (is : (handle ≡ first_handles f) × (counts ≡ parameter_counts f)) (q : ℕ) (b : q < routines f) where
    handle_at_lem : get_or handle q 0 ≡ (routine t q).handle
    handle_at_lem = L.handle_at_lem f few handle q is.0 (omega arith) ∙ sym (routine_says f q b).handle

    parameters_at : get_or counts q 0 ≡ (routine t q).parameters
    parameters_at = L.count_at f few counts q is.1 b ∙ sym (routine_says f q b).parameters

    -- arguments go to the parameters of routine q
    pub passing_parts : (a : Arguments) → PassingParts f a q (get_or handle q 0) (get_or counts q 0)
    passing_parts a = record {
      small = omega (arith, handle_at_lem, (facts q b).handles_there, acc.handles_most);
      few = omega (arith, parameters_at, (facts q b).few_parameters);
      is = passing_is t a q (get_or handle q 0) (get_or counts q 0) handle_at_lem parameters_at;
    }

    -- what a statement puts into what, that names routine q
    pub flow_passing : (s : ℕ) {v : View} → v ≡ view (statement t s) → v.names ≡ Some q → {begin count : ℕ} → begin ≡ get_or handle q 0 → count ≡ get_or counts q 0
        → (list_on v.points (λ (h : ℕ). edge v.source (0 + h) ∷ []) ++ passing_from v.arguments begin count) ≡ edges_at Flow t s
    unfolding edges_at
    flow_passing s {v} is e {begin} {count} eb ec =
        ap {B = List Edge} (λ (l : List Edge). list_on v.points (λ (h : ℕ). edge v.source (0 + h) ∷ []) ++ l)
        (ap₂ {C = List Edge} (passing_from v.arguments) eb ec ∙ (passing_parts v.arguments).is)
        ∙ flow_naming t s (statement t s) is q e

  -- ---- the routine of each statement

  pub near_start : Near f 0 0
  unfolding first_statement
  near_start = record { there = omega (arith, acc.routines_some, routines_length f); small = omega arith; low = omega arith; high = omega arith }

  owner_is : (r s : ℕ) → r < routines f → s < statements f → first_statement f r ≤ s → s < first_statement f (r + 1) → r ≡ owner_of t s
  owner_is r s b l low high =
      sym (copy_of t s (omega (arith, statements_length f)) ∙ copy_is t acc r s (omega (arith, routines_length f)) (in_routine_lem f r s b low high))

  module _ (first : List ℕ) (firsts : first ≡ first_statements f) (r s : ℕ) (l : s < statements f) (near : Near f r s) where
    pub owner_same : s < get_or first (r + 1) 0 → (r ≡ owner_of t s) × Near f r (s + 1)
    owner_same h =
        let high : s < first_statement f (r + 1) = omega (arith, next_at first firsts r near.there) in
        (owner_is r s near.there l near.low high, record { there = near.there; small = near.small; low = omega (arith, near.low); high = omega arith })

    -- behind a routine's last statement comes another routine
    another : first_statement f (r + 1) ≤ s → r + 1 < routines f
    another h =
        let o : (q : ℕ) × (q < length t.routines) × InRoutine t q s = acc.owner s (omega (arith, statements_length f)) in
        let q : ℕ = o.0 in
        let b : q < routines f = omega (arith, o.1, routines_length f) in
        let end : s < first_statement f (q + 1) = (routine_in f q s b o.2).1 in
        go q b end (ltb q (r + 1)) refl
      where
        go : (q : ℕ) → q < routines f → s < first_statement f (q + 1) → (x : Bool) → ltb q (r + 1) ≡ x → r + 1 < routines f
        go q b end true e = let z : first_statement f (q + 1) ≤ first_statement f (r + 1) = ends_before f q (r + 1) (ltb-true q (r + 1) e) in absurd (omega arith)
        go q b end false e = omega (arith, ltb-false q (r + 1) e)

    pub owner_next : get_or first (r + 1) 0 ≤ s → (r + 1 ≡ owner_of t s) × Near f (r + 1) (s + 1)
    owner_next h =
        let low : first_statement f (r + 1) ≤ s = omega (arith, next_at first firsts r near.there) in
        let b : r + 1 < routines f = another low in
        let says = routine_says f (r + 1) b in
        let high : s < first_statement f (r + 1 + 1) = omega (arith, near.high, says.count, says.next, (facts (r + 1) b).some_statement) in
        (owner_is (r + 1) s b l low high, record { there = b; small = omega (arith, few); low = omega arith; high = omega arith })
