-- The lists of `Layout`, each with what its entries say, of numbers whose header keeps its rule. Assumes nothing.
use Rattle.std.specs.Prelude.{◌≡◌, List, ℕ, ℤ}
use Rattle.table.specs.Header.{routines, statements}
use Rattle.table.specs.HeaderLaws.{Sized}
use Rattle.table.specs.Routines.{first_statement}
use Rattle.table.specs.Extents.{first_statements, first_handles, parameter_counts}

-- where the routines' statements begin, the counts adding up
pub record StatementsBegin (f : List ℤ) (first : List ℕ) : Type 0 where
  pub sized : Sized f
  pub sum : first_statement f (routines f) ≡ statements f
  pub is : first ≡ first_statements f

-- where the routines' handles begin
pub record HandlesBegin (f : List ℤ) (handle : List ℕ) : Type 0 where
  pub sized : Sized f
  pub is : handle ≡ first_handles f

-- how many parameters the routines have
pub record ParametersCounted (f : List ℤ) (counts : List ℕ) : Type 0 where
  pub sized : Sized f
  pub is : counts ≡ parameter_counts f
