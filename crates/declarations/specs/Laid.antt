-- What is known of an accepted table's numbers, of the line of statement 0, and of the lists that say where its routines' parts stand. Assumes nothing.
use Rattle.std.specs.Prelude.{◌≡◌, ◌≤◌, ◌+◌, ℕ, List, ℤ}
use Rattle.std.proofs.Common.{subst, arith}
use Rattle.table.specs.Header.{handles, routines, statements, statement_line}
use Rattle.table.specs.Table.{table_of}
use Rattle.table.proofs.LookupLaws.{handles_length, routines_length, statements_length}
use Rattle.table.specs.Accepted.{Accepted}
use Rattle.table.specs.Extents.{first_statements, first_handles, parameter_counts}
use Rattle.declarations.specs.declared.outline.Extents.{Extents}

-- the three lists are those of these numbers
pub record Measured (f : List ℤ) (x : Extents) : Type 0 where
  pub firsts : x.first ≡ first_statements f
  pub handles_first : x.handle ≡ first_handles f
  pub parameters : x.counts ≡ parameter_counts f

pub record Laid (f : List ℤ) (base : ℕ) (x : Extents) : Type 0 where
  pub accepted : Accepted (table_of f)
  pub base_is : base ≡ statement_line f 0
  pub measured : Measured f x

-- for the numbers that a contract speaks of
pub laid_for : {f g : List ℤ} {base : ℕ} {x : Extents} → f ≡ g → Laid f base x → Laid g base x
laid_for {base} {x} e l = subst (λ (h : List ℤ). Laid h base x) e l

module _ {f g : List ℤ} {base : ℕ} {x : Extents} (e : f ≡ g) (l : Laid f base x) where
  laid : Laid g base x
  laid = laid_for e l

  pub some_statements : 1 ≤ statements g
  some_statements = omega (arith, laid.accepted.statements_some, statements_length g)

  pub few_statements : statements g ≤ 512
  few_statements = omega (arith, laid.accepted.statements_most, statements_length g)

  pub few_routines : routines g ≤ 32
  few_routines = omega (arith, laid.accepted.routines_most, routines_length g)

  pub few_handles : handles g ≤ 128
  few_handles = omega (arith, laid.accepted.handles_most, handles_length g)

  pub line_small : base ≤ 161
  line_small = omega (arith, laid.base_is, few_routines, few_handles)

  pub line_at : (s : ℕ) → base + s ≡ statement_line g s
  line_at s = omega (arith, laid.base_is)
