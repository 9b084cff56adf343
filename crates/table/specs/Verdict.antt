-- "Why a text is turned down": refusals 1 to 12 in their order. Each check runs over the whole text before the next, and names the lowest failing line.
-- A `let` is not computed unless it is used, so a later check runs only where the earlier ones pass. Assumes nothing.
use Rattle.std.specs.Prelude.{ℕ, ◌-◌, ◌/◌, ◌%◌, List, Bool, cond, ◌&&◌, length, eqb, leb, ltb, ℤ, Result, Ok, Err}
use Rattle.std.proofs.Math.Option.{Option, none, some}
use Rattle.lines.specs.Line.{first_bad, numbers_of, padded}
use Rattle.table.specs.Until.{until}
use Rattle.table.specs.Header.{header_ok, length_ok, leading_ok, handles, routines, handle_line, routine_line, statement_line, statements}
use Rattle.table.specs.Handles.{handle_ok}
use Rattle.table.specs.Routines.{routine_ok, sum_ok}
use Rattle.table.specs.Statements.{bad_statement, end_ok, last_of}
use Rattle.table.specs.Naming.{names_in, is_named, is_acyclic}
use Rattle.table.specs.declared.Refusal.{Refusal}
use Rattle.table.specs.declared.Refusal.TheVariants.{Length, Fields, Header, LineCount, FirstField, HandleLine, RoutineLine, Sum, StatementLine, RoutineEnd, Unnamed, Recursive}

-- what is said of a text: that it is accepted, or its first refusal
abbrev pub Verdict : Type 0
Verdict = Result (Unit {0}) Refusal

-- 11 and 12
unfoldable pub naming_verdict : List ℤ → List ℕ → Verdict
naming_verdict f names =
    let unnamed = until (is_named names) 1 (routines f - 1) in
    let cyclic = until (is_acyclic names) 0 (routines f) in
    let last = cond (ltb cyclic (routines f)) (Err (Recursive (routine_line f cyclic))) (Ok tt) in
    cond (ltb unnamed (routines f)) (Err (Unnamed (routine_line f unnamed))) last

-- 9 and 10, then the later ones
unfoldable pub statement_verdict : List ℤ → Verdict
statement_verdict f =
    let bad = bad_statement f 0 (routines f) in
    let runs_on = until (end_ok f) 0 (routines f) in
    let later = naming_verdict f (names_in f) in
    let next = cond (ltb runs_on (routines f)) (Err (RoutineEnd (statement_line f (last_of f runs_on)))) later in
    cond (ltb bad (statements f)) (Err (StatementLine (statement_line f bad))) next

-- 6 to 8, then the later ones
unfoldable pub declaration_verdict : List ℤ → Verdict
declaration_verdict f =
    let handle = until (handle_ok f) 0 (handles f) in
    let routine = until (routine_ok f) 0 (routines f) in
    let later = statement_verdict f in
    let last = cond (sum_ok f) later (Err Sum) in
    let next = cond (ltb routine (routines f)) (Err (RoutineLine (routine_line f routine))) last in
    cond (ltb handle (handles f)) (Err (HandleLine (handle_line handle))) next

-- 3 to 5, then the later ones, for a text of so many lines
unfoldable pub numbers_verdict : List ℤ → ℕ → Verdict
numbers_verdict f lines =
    let line = until (leading_ok f) 1 (lines - 1) in
    let later = declaration_verdict f in
    let last = cond (ltb line lines) (Err (FirstField line)) later in
    let next = cond (length_ok f lines) last (Err LineCount) in
    cond (header_ok f) next (Err Header)

-- refusal 1: the length is not 0, a multiple of 49 and at most 32,977
unfoldable pub text_ok : ℕ → Bool
text_ok n = ltb 0 n && eqb (n % 49) 0 && leb n 32977

-- 2: the lowest line that is not eight good fields and a line feed
abbrev pub unless_bad : Option ℕ → Verdict → Verdict
unless_bad none v = v
unless_bad (some i) v = Err (Fields i)

-- what is said of a text: accepted, or the first refusal and its line
unfoldable pub verdict : List ℕ → Verdict
verdict text =
    let later = numbers_verdict (numbers_of text) (length text / 49) in
    let next = unless_bad (first_bad text) later in
    cond (text_ok (length text)) next (Err Length)

-- the numbers that go with a verdict: those of the text if it is accepted, zeros behind them
abbrev pub numbers_for : Verdict → List ℤ → Result (List ℤ) Refusal
numbers_for (Ok u) numbers = Ok (padded numbers)
numbers_for (Err r) numbers = Err r

-- what `read` answers
unfoldable pub reading_of : List ℕ → Result (List ℤ) Refusal
reading_of text = numbers_for (verdict text) (numbers_of text)
