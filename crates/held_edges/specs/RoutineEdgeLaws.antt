-- The edges of the statements of a table, from its numbers: what the code appends is what the definition says, and there is room. Assumes nothing.
use Rattle.std.specs.Prelude.{ℕ, ◌+◌, ◌-◌, ◌≤◌, ◌<◌, ◌≡◌, Bool, ℤ, length, get_or, Option, Some, None}
use Rattle.std.proofs.Math.Decide.{dec_lt}
use Rattle.std.proofs.Math.Path.{refl, ap, ap₂}
use Rattle.std.proofs.Common.{sym, ◌∙◌, subst, arith}
use Rattle.std.proofs.Math.Bool.{true, false}
use mathlib.Core.List.{List, [], ◌∷◌, ◌++◌}
use Rattle.sets.specs.Least.{Edge, plain}
use Rattle.table.specs.Header.{handles, routines, statements, statement_line}
use Rattle.table.specs.Fields.{field}
use Rattle.table.specs.Routines.{first_statement}
use Rattle.table.proofs.RoutineLaws.{ends_before}
use Rattle.table.proofs.OperationLaws.{view_here}
use Rattle.table.specs.Table.{Table, table_of, routine, statement, statement_in, InRoutine}
use Rattle.table.specs.Extents.{first_statements}
use Rattle.table.proofs.ExtentLaws as L
use Rattle.table.proofs.LookupLaws.{handles_length, routines_length, statements_length, routine_says, in_routine_lem, routine_in}
use Rattle.table.specs.View.{view, in_mode}
use Rattle.table.proofs.ViewLaws.{taken_takes}
use Rattle.table.specs.Accepted.{Accepted}
use Rattle.report.specs.Layout.{named, one_each}
use Rattle.report.proofs.OneEach.{copy_is, statement_below}
use Rattle.report.specs.Over.{joined_from}
use Rattle.report.specs.Operations.{nexts}
use Rattle.report.specs.Held.{entry}
use Rattle.held_edges.specs.HeldEdges.{every_place, met_place, edges_at, held_edges}
use Rattle.lock_edges.specs.ViewEdges.{edge_from, origin, view_edges, Fit, Low}
use Rattle.held_edges.specs.TableEdges.{bases_of, part_of}
use Rattle.lock_edges.specs.declared.Bases.{Bases}
use Rattle.table.specs.declared.View.{View}

-- a view by its line: `f` are the numbers that a program holds, and `g` those that its contracts speak of
pub viewed : {f g : List ℤ} → f ≡ g → {line s : ℕ} → line ≡ statement_line g s → s < statements g → (mode : Bool) {v : View}
    → v ≡ in_mode mode (view (statement_in f line (field f line 1))) → v ≡ in_mode mode (view (statement (table_of g) s))
viewed {g} e {line} {s} at b mode {v} h =
    subst (λ (k : List ℤ). v ≡ in_mode mode (view (statement_in k line (field k line 1)))) e h ∙ ap (in_mode mode) (view_here g s b at refl)

module _ (f : List ℤ) (first : List ℕ) (acc : Accepted (table_of f)) (first_is : first ≡ first_statements f) where
  abbrev t : Table
  t = table_of f

  pub low_bases : Low (bases_of f)
  low_bases =
      let a : statements f ≤ 512 = omega (arith, acc.statements_most, statements_length f) in
      let b : routines f ≤ 32 = omega (arith, acc.routines_most, routines_length f) in
      let c : handles f ≤ 128 = omega (arith, acc.handles_most, handles_length f) in
      record { back = omega arith; given = omega arith; flow = omega arith; other = omega arith; every = omega arith }

  first_statement_lem : (q : ℕ) → q < length t.routines → get_or first q 0 ≡ (routine t q).first
  first_statement_lem q l =
      let k : q < routines f = omega (arith, routines_length f) in
      L.first_at f (omega (arith, acc.routines_most, routines_length f)) first q first_is (omega arith) ∙ sym (routine_says f q k).first

  module _ (c s : ℕ) (l : c < length t.routines) (i : InRoutine t c s) where
    pub fit : (mode : Bool) → Fit (in_mode mode (view (statement t s)))
    fit mode =
        let o = acc.operands c s l i in
        record {
          names = λ q e. omega (arith, (o.passes q e).there, acc.routines_most);
          takes = λ h e. omega (arith, (o.takes h (taken_takes mode (view (statement t s)) e)).own.there, acc.handles_most);
          gives = λ h e. omega (arith, (o.gives h e).own.there, acc.handles_most);
        }

    edges_of_lem : (mode : Bool) → view_edges (bases_of f) first s c (in_mode mode (view (statement t s))) ≡ edges_at t (one_each t) mode s c s (statement t s)
    unfolding view_edges edges_at met_place nexts entry named one_each
    edges_of_lem mode = go (view (statement t s)).names refl (view (statement t s)).starting refl
      where
        go : (r : Option ℕ) → (view (statement t s)).names ≡ r → (b : Bool) → (view (statement t s)).starting ≡ b
            → view_edges (bases_of f) first s c (in_mode mode (view (statement t s))) ≡ edges_at t (one_each t) mode s c s (statement t s)
        go (Some q) e true j = rw (e, j, first_statement_lem q ((acc.operands c s l i).passes q e).there) (simp (handles_length f, routines_length f, statements_length f))
        go (Some q) e false j = rw (e, j, first_statement_lem q ((acc.operands c s l i).passes q e).there) (simp (handles_length f, routines_length f, statements_length f))
        go None e true j = rw (e, j) (simp (handles_length f, routines_length f, statements_length f))
        go None e false j = rw (e, j) (simp (handles_length f, routines_length f, statements_length f))

    pub edges_are : (mode : Bool) → view_edges (bases_of f) first s c (in_mode mode (view (statement t s))) ≡ part_of mode f s
    edges_are mode = edges_of_lem mode ∙ ap {B = List Edge} (λ (d : ℕ). edges_at t (one_each t) mode s d s (statement t s)) (sym (copy_is t acc c s l i))

  -- ---- the routines in order

  pub few_routines : routines f ≤ 32
  few_routines = omega (arith, acc.routines_most, routines_length f)

  pub first_at : (c : ℕ) → c ≤ routines f → get_or first c 0 ≡ first_statement f c
  first_at c l = L.first_at f (omega (arith, acc.routines_most, routines_length f)) first c first_is l

  pub begins : {c r : ℕ} → c ≤ routines f → r ≡ get_or first c 0 → r ≡ first_statement f c
  begins {c} l e = e ∙ first_at c l

  pub first_grows : (c : ℕ) → c < routines f → first_statement f c ≤ first_statement f (c + 1)
  first_grows c l = omega (arith, (routine_says f c l).next)

  pub first_grows_at : (c : ℕ) → c < routines f → get_or first c 0 ≤ get_or first (c + 1) 0
  first_grows_at c l = omega (arith, first_at c (omega arith), first_at (c + 1) (omega arith), first_grows c l)

  pub first_zero : get_or first 0 0 ≡ 0
  unfolding first_statement
  first_zero = first_at 0 (omega arith)

  -- the last routine ends with the last statement
  pub routines_end : first_statement f (routines f) ≡ statements f
  routines_end =
      let some : 1 ≤ routines f = omega (arith, acc.routines_some, routines_length f) in
      let last : first_statement f (routines f - 1 + 1) ≤ statements f = ends (routines f - 1) (omega arith) in
      let e : routines f - 1 + 1 ≡ routines f = omega arith in
      let upper : first_statement f (routines f) ≤ statements f = subst (λ (r : ℕ). first_statement f r ≤ statements f) e last in
      go upper (dec_lt (first_statement f (routines f)) (statements f))
    where
      ends : (r : ℕ) → r < routines f → first_statement f (r + 1) ≤ statements f
      ends r l =
          let h : (routine t r).first + (routine t r).count ≤ length t.statements = (acc.routine_facts r (omega (arith, routines_length f))).statements_there in
          let y = routine_says f r l in
          omega (arith, statements_length f, y.first, y.count, y.next)

      go : first_statement f (routines f) ≤ statements f → Dec (first_statement f (routines f) < statements f) → first_statement f (routines f) ≡ statements f
      go u (yes l) =
          let o = acc.owner (first_statement f (routines f)) (omega (arith, statements_length f)) in
          let b : o.0 < routines f = omega (arith, o.1, routines_length f) in
          let i = routine_in f o.0 (first_statement f (routines f)) b o.2 in
          absurd (omega (arith, i.1, ends_before f o.0 (routines f) b))
      go u (no d) = omega arith

  pub first_end : (c : ℕ) → c ≡ routines f → get_or first c 0 ≡ statements f
  first_end c e = ap (λ (r : ℕ). get_or first r 0) e ∙ first_at (routines f) (omega arith) ∙ routines_end

  pub in_range : {c s from end : ℕ} → c < routines f → from ≡ get_or first c 0 → end ≡ get_or first (c + 1) 0 → from ≤ s → s < end → InRoutine t c s
  in_range {c} {s} l from_is end_is low high =
      in_routine_lem f c s l (omega (arith, begins {c = c} (omega arith) from_is)) (omega (arith, begins {c = c + 1} (omega arith) end_is))

  module _ (c s : ℕ) (l : c < routines f) (inside : InRoutine t c s) where
    there : c < length t.routines
    there = omega (arith, routines_length f)

    pub statement_there : s < statements f
    statement_there = omega (arith, statement_below t acc c s there inside, statements_length f)

    module _ (mode : Bool) {v : View} (is : v ≡ in_mode mode (view (statement t s))) where
      pub view_fits : Fit v
      view_fits = subst Fit (sym is) (fit c s there inside mode)

      pub view_part : {b : Bases} → b ≡ bases_of f → view_edges b first s c v ≡ part_of mode f s
      view_part {b} e =
          ap {B = List Edge} (λ (x : Bases). view_edges x first s c v) e ∙ ap {B = List Edge} (view_edges (bases_of f) first s c) is ∙ edges_are c s there inside mode

  -- the same by the list of first statements, and by the statement's line
  module _ (c s base : ℕ) (l : c < routines f) (low : get_or first c 0 ≤ s) (high : s < get_or first (c + 1) 0) (base_is : base ≡ statement_line f 0) where
    inside : InRoutine t c s
    inside = in_range l refl refl low high

    seen : (mode : Bool) {v : View} → v ≡ in_mode mode (view (statement_in f (base + s) (field f (base + s) 1))) → v ≡ in_mode mode (view (statement t s))
    seen mode = viewed refl (omega arith) (statement_there c s l inside) mode

    pub small_here : s < 512
    small_here = omega (arith, statement_there c s l inside, statements_length f, acc.statements_most)

    pub fits_here : (mode : Bool) {b : Bases} {v : View} → b ≡ bases_of f → v ≡ in_mode mode (view (statement_in f (base + s) (field f (base + s) 1))) → (s < 512) × (c < 32) × Low b × Fit v
    fits_here mode e i = (small_here, omega (arith, few_routines), subst Low (sym e) low_bases, view_fits c s l inside mode (seen mode i))

    pub part_here : (mode : Bool) {b : Bases} {v : View} → b ≡ bases_of f → v ≡ in_mode mode (view (statement_in f (base + s) (field f (base + s) 1)))
        → view_edges b first s c v ≡ part_of mode f s
    part_here mode e i = view_part c s l inside mode (seen mode i) e

  -- all edges, that to routine 0 first
  main_edge : {y : ℕ} → y ≡ get_or first 0 0 → edge_from (origin (bases_of f).every (bases_of f).every) y ≡ plain (every_place (one_each t)) (entry t (one_each t) (one_each t).first)
  unfolding one_each entry
  main_edge e = rw (e, first_statement_lem 0 (omega (arith, acc.routines_some)), handles_length f, routines_length f, statements_length f)

  pub all_edges : (mode : Bool) {b : Bases} {y : ℕ} → b ≡ bases_of f → y ≡ get_or first 0 0
      → (edge_from (origin b.every b.every) y ∷ []) ++ joined_from 0 (statements f) (part_of mode f) ≡ held_edges t (one_each t) mode
  unfolding held_edges one_each
  all_edges mode {b} {y} i e =
      ap {B = List Edge} (λ (x : Bases). edge_from (origin x.every x.every) y ∷ joined_from 0 (statements f) (part_of mode f)) i
      ∙ ap₂ {C = List Edge} (λ (x : Edge) (n : ℕ). x ∷ joined_from 0 n (part_of mode f)) (main_edge e) (sym (statements_length f))
