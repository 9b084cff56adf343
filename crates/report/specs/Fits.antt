-- A layout of copies that fits a table: its copies are of the table's routines, and each handle and statement of a copy has its own place. Assumes nothing.
use Rattle.std.specs.Prelude.{ℕ, ◌<◌, ◌≡◌, length}
use mathlib.Core.List.{Memᴰ}
use Rattle.table.specs.Table.{Table, statement, InRoutine, OwnHandle}
use Rattle.table.specs.Accepted.{Names}
use Rattle.report.specs.Layout.{Layout}
use Rattle.report.specs.Rules.{Copies}

-- handle h of copy c has its place
pub record HandlePlaced (k : Layout) (c h : ℕ) : Type 0 where
  pub there : k.handle_place c h < k.handles
  pub copy : k.handle_copy (k.handle_place c h) ≡ c
  pub same : k.handle_at (k.handle_place c h) ≡ h

-- and the place p is that of a handle of a copy
pub record HandleThere (t : Table) (k : Layout) (p : ℕ) : Type 0 where
  pub copy : k.handle_copy p < k.copies
  pub own : OwnHandle t (k.routine_of (k.handle_copy p)) (k.handle_at p)
  pub back : k.handle_place (k.handle_copy p) (k.handle_at p) ≡ p

-- statement s of copy c has its place
pub record StatementPlaced (k : Layout) (c s : ℕ) : Type 0 where
  pub there : k.statement_place c s < k.statements
  pub copy : k.statement_copy (k.statement_place c s) ≡ c
  pub same : k.statement_at (k.statement_place c s) ≡ s

-- and the place p is that of a statement of a copy
pub record StatementThere (t : Table) (k : Layout) (p : ℕ) : Type 0 where
  pub copy : k.statement_copy p < k.copies
  pub own : InRoutine t (k.routine_of (k.statement_copy p)) (k.statement_at p)
  pub back : k.statement_place (k.statement_copy p) (k.statement_at p) ≡ p
  pub number : k.statement_at p < length t.statements
  pub among : Memᴰ p (k.places_of (k.statement_at p))

pub record Fits (t : Table) (k : Layout) : Type 0 where
  pub first_there : k.first < k.copies
  pub first_statement_lem : k.routine_of k.first ≡ 0
  pub of_there : (c : ℕ) → c < k.copies → k.routine_of c < length t.routines
  pub leads_there : (c s q : ℕ) → c < k.copies → InRoutine t (k.routine_of c) s → Names (statement t s) q → k.leads c s < k.copies
  pub leads_of : (c s q : ℕ) → c < k.copies → InRoutine t (k.routine_of c) s → Names (statement t s) q → k.routine_of (k.leads c s) ≡ q
  pub handle_placed : (c h : ℕ) → c < k.copies → OwnHandle t (k.routine_of c) h → HandlePlaced k c h
  pub handle_there : (p : ℕ) → p < k.handles → HandleThere t k p
  pub statement_placed : (c s : ℕ) → c < k.copies → InRoutine t (k.routine_of c) s → StatementPlaced k c s
  pub statement_there : (p : ℕ) → p < k.statements → StatementThere t k p
  pub places_of_lem : (s p : ℕ) → s < length t.statements → Memᴰ p (k.places_of s) → (p < k.statements) × (k.statement_at p ≡ s)

-- the copies of a layout that fits
abbrev pub copies_of : {t : Table} {k : Layout} → Fits t k → Copies t
copies_of {t} {k} f = record {
  count = k.copies;
  main = k.first;
  of = k.routine_of;
  leads = k.leads;
  main_there = f.first_there;
  main_of = f.first_statement_lem;
  of_there = f.of_there;
  leads_there = f.leads_there;
  leads_of = f.leads_of;
}
