-- "Statement lines: 4, operation, operands from field 3 on", and the table of operations. Assumes nothing.
use Rattle.std.specs.Prelude.{ℕ, zero, suc, ◌+◌, ◌-◌, List, Bool, cond, ◌&&◌, ◌||◌, eqb, leb, ltb, ℤ}
use Rattle.table.specs.Fields.{field, unused}
use Rattle.table.specs.Header.{handles, routines, statement_line}
use Rattle.table.specs.Handles.{routine_of, kind_of, handles_from, parameters}
use Rattle.table.specs.Routines.{first_statement}
use Rattle.table.specs.Until.{until}

-- the operation of statement s, and its operands, counted from 0
abbrev pub operation : List ℤ → ℕ → ℕ
operation f s = field f (statement_line f s) 1

abbrev pub operand : List ℤ → ℕ → ℕ → ℕ
operand f s k = field f (statement_line f s) (2 + k)

-- "Handles and targets belong to the statement's own routine": x is a handle of routine r
unfoldable pub own_handle : List ℤ → ℕ → ℕ → Bool
own_handle f r x = ltb x (handles f) && eqb (routine_of f x) r

-- x is a handle of routine r and of a kind
unfoldable pub own_of_kind : List ℤ → ℕ → ℕ → ℕ → Bool
own_of_kind f r kind x = own_handle f r x && eqb (kind_of f x) kind

-- x is a statement of routine r
unfoldable pub own_statement : List ℤ → ℕ → ℕ → Bool
own_statement f r x = leb (first_statement f r) x && ltb x (first_statement f (r + 1))

-- "Arguments are that routine's handles, as many as the named routine has parameters, kinds matching in order": argument k of a statement
-- of routine r that names routine q
unfoldable pub argument_ok : List ℤ → ℕ → ℕ → ℕ → ℕ → Bool
argument_ok f r q k x =
    cond (ltb k (parameters f q)) (own_of_kind f r (kind_of f (handles_from f q + k)) x) (eqb x 0)

-- the four arguments, which stand in fields 3 to 6, and the last field, which is 0
unfoldable pub arguments_ok : List ℤ → ℕ → ℕ → ℕ → Bool
arguments_ok f r q line =
    argument_ok f r q 0 (field f line 3) && argument_ok f r q 1 (field f line 4) && argument_ok f r q 2 (field f line 5) && argument_ok f r q 3 (field f line 6)
    && unused f line 7

-- CALL and START, in a line of routine r: a routine, and its arguments
unfoldable pub naming_ok : List ℤ → ℕ → ℕ → Bool
naming_ok f r line = ltb (field f line 2) (routines f) && arguments_ok f r (field f line 2) line

-- POINT, in a line of routine r: two handles of one kind
unfoldable pub point_ok : List ℤ → ℕ → ℕ → Bool
point_ok f r line = own_handle f r (field f line 2) && own_of_kind f r (kind_of f (field f line 2)) (field f line 3) && unused f line 4

-- the rule of an operation, in a line of routine r: its operands, from field 2 on, and zeros behind them; an unknown operation has none
unfoldable pub operation_ok : List ℤ → ℕ → ℕ → ℕ → Bool
operation_ok f r line op =
    let end = eqb op 12 && unused f line 2 in
    let jump = own_statement f r (field f line 2) && unused f line 3 in
    let naming = naming_ok f r line in
    let point = point_ok f r line in
    let lock = own_of_kind f r 2 (field f line 2) && unused f line 3 in
    let value = unused f line 3 in
    let cell = own_of_kind f r 1 (field f line 2) && unused f line 3 in
    let from_10 = cond (eqb op 10 || eqb op 11) jump end in
    let from_8 = cond (eqb op 8 || eqb op 9) naming from_10 in
    let from_7 = cond (eqb op 7) point from_8 in
    let from_5 = cond (eqb op 5 || eqb op 6 || eqb op 13) lock from_7 in
    let from_3 = cond (eqb op 3 || eqb op 4) value from_5 in
    cond (eqb op 1 || eqb op 2) cell from_3

-- refusal 9: statement s of routine r has a known operation, right operands, and zeros behind them
unfoldable pub statement_ok : List ℤ → ℕ → ℕ → Bool
statement_ok f r s = operation_ok f r (statement_line f s) (operation f s)

-- the lowest statement of the n routines from r on that breaks the rule, or the one behind their last
unfoldable pub bad_statement : List ℤ → ℕ → ℕ → ℕ
bad_statement f r zero = first_statement f r
bad_statement f r (suc n) =
    let s = until (statement_ok f r) (first_statement f r) (first_statement f (r + 1) - first_statement f r) in
    let later = bad_statement f (r + 1) n in
    cond (ltb s (first_statement f (r + 1))) s later

-- refusal 10: routine r's last statement is JUMP or RETURN
abbrev pub last_of : List ℤ → ℕ → ℕ
last_of f r = first_statement f (r + 1) - 1

unfoldable pub end_ok : List ℤ → ℕ → Bool
end_ok f r = eqb (operation f (last_of f r)) 10 || eqb (operation f (last_of f r)) 12
