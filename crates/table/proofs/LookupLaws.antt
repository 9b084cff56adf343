-- The parts of an accepted text's table, by their numbers: what the numbers say of them. Assumes nothing.
use Rattle.std.specs.Prelude.{◌≡◌, List, ℕ, ◌+◌, ◌-◌, ◌≤◌, ◌<◌, length, ℤ}
use Rattle.std.proofs.Math.Path.{refl, ap}
use Rattle.std.proofs.Common.{arith}
use Rattle.table.proofs.TabulateLaws.{length_tabulate, get_d_tabulate}
use Rattle.table.specs.Header.{cells, locks, handles, routines, statements}
use Rattle.table.specs.Handles.{routine_of, kind_of, origin_of, start_of, handles_from, parameters}
use Rattle.table.specs.Routines.{count_of, first_statement}
use Rattle.table.proofs.ExtentLaws.{first_next}
use Rattle.table.specs.Table.{table_of, declaration, routine, statement, declaration_of, routine_at, statement_of, InRoutine}

module _ (f : List ℤ) where
  pub cells_is : (table_of f).cells ≡ cells f
  unfolding table_of
  cells_is = refl

  pub locks_is : (table_of f).locks ≡ locks f
  unfolding table_of
  locks_is = refl

  pub handles_length : length (table_of f).handles ≡ handles f
  unfolding table_of
  handles_length = length_tabulate (handles f) (declaration_of f)

  pub routines_length : length (table_of f).routines ≡ routines f
  unfolding table_of
  routines_length = length_tabulate (routines f) (routine_at f)

  pub statements_length : length (table_of f).statements ≡ statements f
  unfolding table_of
  statements_length = length_tabulate (statements f) (statement_of f)

  pub declaration_is : (h : ℕ) → h < handles f → declaration (table_of f) h ≡ declaration_of f h
  unfolding table_of
  declaration_is h b = get_d_tabulate (handles f) (declaration_of f) h _ b

  pub routine_is : (r : ℕ) → r < routines f → routine (table_of f) r ≡ routine_at f r
  unfolding table_of
  routine_is r b = get_d_tabulate (routines f) (routine_at f) r _ b

  pub statement_is : (s : ℕ) → s < statements f → statement (table_of f) s ≡ statement_of f s
  unfolding table_of
  statement_is s b = get_d_tabulate (statements f) (statement_of f) s _ b

  -- ---- a handle's fields

  pub record DeclarationSays (h : ℕ) : Type 0 where
    pub routine : (declaration (table_of f) h).routine ≡ routine_of f h
    pub kind : (declaration (table_of f) h).kind ≡ kind_of f h
    pub origin : (declaration (table_of f) h).origin ≡ origin_of f h
    pub start : (declaration (table_of f) h).start ≡ start_of f h

  pub declaration_says : (h : ℕ) → h < handles f → DeclarationSays h
  unfolding declaration_of
  declaration_says h b =
      let e = declaration_is h b in
      record { routine = ap (λ d. d.routine) e; kind = ap (λ d. d.kind) e; origin = ap (λ d. d.origin) e; start = ap (λ d. d.start) e }

  -- ---- a routine's fields

  pub record RoutineSays (r : ℕ) : Type 0 where
    pub first : (routine (table_of f) r).first ≡ first_statement f r
    pub count : (routine (table_of f) r).count ≡ count_of f r
    pub handle : (routine (table_of f) r).handle ≡ handles_from f r
    pub handles : (routine (table_of f) r).handles ≡ handles_from f (r + 1) - handles_from f r
    pub parameters : (routine (table_of f) r).parameters ≡ parameters f r
    pub next : first_statement f (r + 1) ≡ first_statement f r + count_of f r

  pub routine_says : (r : ℕ) → r < routines f → RoutineSays r
  unfolding routine_at
  routine_says r b =
      let e = routine_is r b in
      record {
        first = ap (λ d. d.first) e;
        count = ap (λ d. d.count) e;
        handle = ap (λ d. d.handle) e;
        handles = ap (λ d. d.handles) e;
        parameters = ap (λ d. d.parameters) e;
        next = first_next f r;
      }

  -- ---- a routine's statements

  pub in_routine_lem : (r s : ℕ) → r < routines f → first_statement f r ≤ s → s < first_statement f (r + 1) → InRoutine (table_of f) r s
  in_routine_lem r s b low high = let e = routine_says r b in record { low = omega arith; high = omega arith }

  pub routine_in : (r s : ℕ) → r < routines f → InRoutine (table_of f) r s → (first_statement f r ≤ s) × (s < first_statement f (r + 1))
  routine_in r s b i = let e = routine_says r b in (omega arith, omega arith)
