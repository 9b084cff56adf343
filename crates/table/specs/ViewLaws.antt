-- Laws of the connectives over a reference, and each attribute of a statement by the number of its operation. Assumes nothing.
use Rattle.std.specs.Prelude.{Bool, cond, ℕ, ℤ, Option, Some, None}
use mathlib.Core.List.{List}
use Rattle.table.specs.Fields.{field}
use Rattle.table.specs.Table.{arguments_in}
use Rattle.table.specs.View.{no_arguments}
use Rattle.table.specs.declared.Arguments.{Arguments}

-- a reference to the first operand, the second operand and the arguments, if a test holds
abbrev pub first_if : List ℤ → ℕ → Bool → Option ℕ
first_if f line b = cond b (Some (field f line 2)) None

abbrev pub second_if : List ℤ → ℕ → Bool → ℕ
second_if f line b = cond b (field f line 3) 0

abbrev pub arguments_if : List ℤ → ℕ → Bool → Arguments
arguments_if f line b = cond b (arguments_in f line) no_arguments
