-- The refusals' numbers and lines. Assumes nothing.
use Rattle.std.specs.Prelude.{ℕ}
use Rattle.table.specs.declared.Refusal.{Refusal}
use Rattle.table.specs.declared.Refusal.TheVariants.{Length, Fields, Header, LineCount, FirstField, HandleLine, RoutineLine, Sum, StatementLine, RoutineEnd, Unnamed, Recursive, Room}

-- "Why a text is turned down", and 13, a lent buffer that is too short
abbrev pub number_of : Refusal → ℕ
number_of Length = 1
number_of (Fields line) = 2
number_of Header = 3
number_of LineCount = 4
number_of (FirstField line) = 5
number_of (HandleLine line) = 6
number_of (RoutineLine line) = 7
number_of Sum = 8
number_of (StatementLine line) = 9
number_of (RoutineEnd line) = 10
number_of (Unnamed line) = 11
number_of (Recursive line) = 12
number_of Room = 13

-- the line that goes with it, 0 where none does
abbrev pub line_of : Refusal → ℕ
line_of Length = 0
line_of (Fields line) = line
line_of Header = 0
line_of LineCount = 0
line_of (FirstField line) = line
line_of (HandleLine line) = line
line_of (RoutineLine line) = line
line_of Sum = 0
line_of (StatementLine line) = line
line_of (RoutineEnd line) = line
line_of (Unnamed line) = line
line_of (Recursive line) = line
line_of Room = 0
