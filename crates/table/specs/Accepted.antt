-- What "accepted" gives of a table, as named facts of one record: all that the crates above use of document 01's rules for a text. Assumes nothing.
use Rattle.std.specs.Prelude.{ℕ, ◌+◌, ◌≤◌, ◌<◌, ◌≡◌, true, ◌⊎◌, get_or, length, Some}
use Rattle.table.specs.Table.{Table, declaration, routine, statement, passed, InRoutine, OwnHandle}
use Rattle.table.specs.declared.Arguments.{Arguments}
use Rattle.table.specs.declared.Statement.{Statement}
use Rattle.table.specs.View.{view, Each}

-- a handle of routine r and of a kind
pub record OwnOfKind (t : Table) (r k h : ℕ) : Type 0 where
  pub own : OwnHandle t r h
  pub kind : (declaration t h).kind ≡ k

-- a CALL or START in routine r that names routine q: "as many arguments as the named routine has parameters, kinds matching in order"
pub record Passes (t : Table) (r q : ℕ) (a : Arguments) : Type 0 where
  pub there : q < length t.routines
  pub not_first : q ≡ 0 → ⊥
  pub argument : (k : ℕ) → k < (routine t q).parameters → OwnOfKind t r (declaration t ((routine t q).handle + k)).kind (get_or (passed a) k 0)

-- "Handles and targets belong to the statement's own routine", by what the statement does with them
pub record Operands (t : Table) (r : ℕ) (σ : Statement) : Type 0 where
  pub reads : Each (view σ).reads (OwnOfKind t r 1)
  pub writes : Each (view σ).writes (OwnOfKind t r 1)
  pub takes : Each (view σ).takes (OwnOfKind t r 2)
  pub gives : Each (view σ).gives (OwnOfKind t r 2)
  pub points : Each (view σ).points (λ h. OwnHandle t r h × OwnHandle t r (view σ).source × ((declaration t h).kind ≡ (declaration t (view σ).source).kind))
  pub passes : Each (view σ).names (λ q. Passes t r q (view σ).arguments)
  pub target : Each (view σ).target (InRoutine t r)

-- the statement after any but JUMP and RETURN is one of the same routine
abbrev pub GoesOn : Table → ℕ → ℕ → Statement → Type 0
GoesOn t r s σ = (view σ).onward ≡ true → InRoutine t r (s + 1)

-- the statement names routine q by CALL or START
abbrev pub Names : Statement → ℕ → Type 0
Names σ q = (view σ).names ≡ Some q

-- the facts of one handle: its routine, kind and start in range, and its place among its routine's handles, parameters first
pub record HandleFacts (t : Table) (h : ℕ) : Type 0 where
  pub routine_there : (declaration t h).routine < length t.routines
  pub kind_known : ((declaration t h).kind ≡ 1) ⊎ ((declaration t h).kind ≡ 2)
  pub origin_known : ((declaration t h).origin ≡ 0) ⊎ ((declaration t h).origin ≡ 1)
  pub cell_there : (declaration t h).origin ≡ 1 → (declaration t h).kind ≡ 1 → (declaration t h).start < t.cells
  pub lock_there : (declaration t h).origin ≡ 1 → (declaration t h).kind ≡ 2 → (declaration t h).start < t.locks
  pub from : (routine t (declaration t h).routine).handle ≤ h
  pub upto : h < (routine t (declaration t h).routine).handle + (routine t (declaration t h).routine).handles
  pub parameter : (declaration t h).origin ≡ 0 → h < (routine t (declaration t h).routine).handle + (routine t (declaration t h).routine).parameters
  pub local : (declaration t h).origin ≡ 1 → (routine t (declaration t h).routine).handle + (routine t (declaration t h).routine).parameters ≤ h

-- the facts of one routine
pub record RoutineFacts (t : Table) (r : ℕ) : Type 0 where
  pub some_statement : 1 ≤ (routine t r).count
  pub statements_there : (routine t r).first + (routine t r).count ≤ length t.statements
  pub follows : (routine t (r + 1)).first ≡ (routine t r).first + (routine t r).count ⊎ (r + 1 ≡ length t.routines)
  pub few_handles : (routine t r).handles ≤ 8
  pub few_parameters : (routine t r).parameters ≤ 4
  pub parameters_among : (routine t r).parameters ≤ (routine t r).handles
  pub handles_there : (routine t r).handle + (routine t r).handles ≤ length t.handles
  pub handle_own : (h : ℕ) → (routine t r).handle ≤ h → h < (routine t r).handle + (routine t r).handles → (declaration t h).routine ≡ r

-- the facts of an accepted table
pub record Accepted (t : Table) : Type 0 where
  pub cells_some : 1 ≤ t.cells
  pub cells_most : t.cells ≤ 64
  pub locks_most : t.locks ≤ 16
  pub handles_most : length t.handles ≤ 128
  pub routines_some : 1 ≤ length t.routines
  pub routines_most : length t.routines ≤ 32
  pub statements_some : 1 ≤ length t.statements
  pub statements_most : length t.statements ≤ 512
  pub handle : (h : ℕ) → h < length t.handles → HandleFacts t h
  pub routine_facts : (r : ℕ) → r < length t.routines → RoutineFacts t r
  pub first_first : (routine t 0).first ≡ 0
  pub first_parameters : (routine t 0).parameters ≡ 0
  -- each statement is in exactly one routine
  pub owner : (s : ℕ) → s < length t.statements → (r : ℕ) × (r < length t.routines) × InRoutine t r s
  pub one_owner : (r q s : ℕ) → r < length t.routines → q < length t.routines → InRoutine t r s → InRoutine t q s → r ≡ q
  pub operands : (r s : ℕ) → r < length t.routines → InRoutine t r s → Operands t r (statement t s)
  pub goes_on : (r s : ℕ) → r < length t.routines → InRoutine t r s → GoesOn t r s (statement t s)
  -- each routine but 0 is named
  pub named : (q : ℕ) → 1 ≤ q → q < length t.routines → (s : ℕ) × (s < length t.statements) × Names (statement t s) q
  -- no routine reaches itself: a number for each routine, below their number, that falls along CALLs and STARTs
  pub rank : ℕ → ℕ
  pub rank_below : (r : ℕ) → r < length t.routines → rank r < length t.routines
  pub rank_falls : (r s q : ℕ) → r < length t.routines → InRoutine t r s → Names (statement t s) q → rank q < rank r
