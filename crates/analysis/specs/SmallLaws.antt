-- The numbers of a verdict and of an answer are small: packing or printing them loses nothing. Assumes nothing.
use Rattle.std.proofs.lemmas.Bool.{and_parts}
use Rattle.std.specs.Prelude.{◌≡◌, refl, Bool, true, false, cond, ◌&&◌, List, ℕ, ◌-◌, ◌/◌, ◌%◌, ◌^◌, ◌≤◌, ◌<◌, eqb, leb, ltb, ℤ, length, Ok, Err}
use Rattle.std.proofs.Math.Option.{Option, none, some}
use Rattle.std.proofs.Common.{arith}
use borrow.Author.Tests.{ltb-true, leb-true, eqb-true}
use Rattle.lines.specs.Line.{first_bad, numbers_of}
use Rattle.lines.proofs.LineLaws.{first_bad_line}
use Rattle.table.specs.Header.{header_ok, length_ok, leading_ok, handles, routines, statements, routine_line, handle_line, statement_line}
use Rattle.table.specs.HeaderLaws.{Sized}
use Rattle.table.proofs.HeaderLaws.{header_sized}
use Rattle.table.specs.Until.{until}
use Rattle.table.specs.Handles.{handle_ok}
use Rattle.table.specs.Routines.{first_statement, routine_ok, sum_ok}
use Rattle.table.proofs.RoutineLaws.{ends_before}
use Rattle.table.specs.Statements.{bad_statement, end_ok, last_of}
use Rattle.table.specs.Naming.{names_in, is_named, is_acyclic}
use Rattle.table.proofs.AcceptedLaws.{accepted}
use Rattle.table.specs.Verdict.{Verdict, naming_verdict, statement_verdict, declaration_verdict, numbers_verdict, text_ok, unless_bad, verdict}
use Rattle.report.specs.Over.{count_from}
use Rattle.report.specs.Layout.{one_each}
use Rattle.report.specs.Findings.{sets_of, is_stray}
use Rattle.report.specs.Report.{report_text}
use Rattle.report.proofs.ReportTextLaws.{report_length, count_most}
use Rattle.table.specs.Refusals.{number_of, line_of}
use Rattle.table.specs.declared.Refusal.{Refusal}
use Rattle.table.specs.declared.Refusal.TheVariants.{Length, Fields, Header, LineCount, FirstField, HandleLine, RoutineLine, Sum, StatementLine, RoutineEnd, Unnamed, Recursive, Room}
use Rattle.analysis.specs.Reported.{Answer, table_in, answer_by, report_answer}

-- a refusal's number and line
abbrev pub SmallRefusal : Refusal → Type 0
SmallRefusal r = (1 ≤ number_of r) × (number_of r < 100) × (line_of r < 1000)

abbrev pub SmallVerdict : Verdict → Type 0
SmallVerdict (Ok u) = Unit {0}
SmallVerdict (Err r) = SmallRefusal r

-- its number is one of the documents', whatever it is
pub numbered : (r : Refusal) → (1 ≤ number_of r) × (number_of r < 100)
numbered Length = (omega arith, omega arith)
numbered (Fields line) = (omega arith, omega arith)
numbered Header = (omega arith, omega arith)
numbered LineCount = (omega arith, omega arith)
numbered (FirstField line) = (omega arith, omega arith)
numbered (HandleLine line) = (omega arith, omega arith)
numbered (RoutineLine line) = (omega arith, omega arith)
numbered Sum = (omega arith, omega arith)
numbered (StatementLine line) = (omega arith, omega arith)
numbered (RoutineEnd line) = (omega arith, omega arith)
numbered (Unnamed line) = (omega arith, omega arith)
numbered (Recursive line) = (omega arith, omega arith)
numbered Room = (omega arith, omega arith)

small : (r : Refusal) → line_of r < 1000 → SmallRefusal r
small r l = ((numbered r).0, (numbered r).1, l)

-- a refusal where a test says so, or what comes after
refused_or : (b : Bool) (r : Refusal) (later : Verdict) → (b ≡ true → line_of r < 1000) → (b ≡ false → SmallVerdict later)
    → SmallVerdict (cond b (Err r) later)
refused_or true r later l v = small r (l refl)
refused_or false r later l v = v refl

-- what comes after where a test passes, or a refusal without a line
or_refused : (b : Bool) (r : Refusal) (later : Verdict) → line_of r ≡ 0 → (b ≡ true → SmallVerdict later) → SmallVerdict (cond b later (Err r))
or_refused true r later z v = v refl
or_refused false r later z v = small r (omega arith)

-- ---- the checks of the numbers

module _ (f : List ℤ) (h : Sized f) where
  naming_small : (names : List ℕ) → SmallVerdict (naming_verdict f names)
  unfolding naming_verdict
  naming_small names =
      let a : handles f ≤ 128 = h.handles_most in
      let b : routines f ≤ 32 = h.routines_most in
      let unnamed = until (is_named names) 1 (routines f - 1) in
      let cyclic = until (is_acyclic names) 0 (routines f) in
      refused_or (ltb unnamed (routines f)) (Unnamed (routine_line f unnamed)) _ (λ e. omega (arith, ltb-true unnamed (routines f) e))
      (λ _. refused_or (ltb cyclic (routines f)) (Recursive (routine_line f cyclic)) (Ok tt) (λ e. omega (arith, ltb-true cyclic (routines f) e)) (λ _. tt))

  statement_small : first_statement f (routines f) ≡ statements f → SmallVerdict (statement_verdict f)
  unfolding statement_verdict
  statement_small sum =
      let a : handles f ≤ 128 = h.handles_most in
      let b : routines f ≤ 32 = h.routines_most in
      let c : statements f ≤ 512 = h.statements_most in
      let bad = bad_statement f 0 (routines f) in
      let runs_on = until (end_ok f) 0 (routines f) in
      refused_or (ltb bad (statements f)) (StatementLine (statement_line f bad)) _ (λ e. omega (arith, ltb-true bad (statements f) e))
      (λ _. refused_or (ltb runs_on (routines f)) (RoutineEnd (statement_line f (last_of f runs_on))) (naming_verdict f (names_in f))
      (λ e. omega (arith, ends_before f runs_on (routines f) (ltb-true runs_on (routines f) e)))
      (λ _. naming_small (names_in f)))

  declaration_small : SmallVerdict (declaration_verdict f)
  unfolding declaration_verdict sum_ok
  declaration_small =
      let a : handles f ≤ 128 = h.handles_most in
      let b : routines f ≤ 32 = h.routines_most in
      let handle = until (handle_ok f) 0 (handles f) in
      let routine = until (routine_ok f) 0 (routines f) in
      refused_or (ltb handle (handles f)) (HandleLine (handle_line handle)) _ (λ e. omega (arith, ltb-true handle (handles f) e))
      (λ _. refused_or (ltb routine (routines f)) (RoutineLine (routine_line f routine)) _ (λ e. omega (arith, ltb-true routine (routines f) e))
      (λ _. or_refused (sum_ok f) Sum (statement_verdict f) refl (λ e. statement_small (eqb-true (first_statement f (routines f)) (statements f) e))))

numbers_small : (f : List ℤ) (lines : ℕ) → lines ≤ 673 → SmallVerdict (numbers_verdict f lines)
unfolding numbers_verdict
numbers_small f lines l =
    let line = until (leading_ok f) 1 (lines - 1) in
    or_refused (header_ok f) Header _ refl
    (λ head. or_refused (length_ok f lines) LineCount _ refl
    (λ _. refused_or (ltb line lines) (FirstField line) (declaration_verdict f) (λ e. omega (arith, ltb-true line lines e))
    (λ _. declaration_small f (header_sized f head))))

-- ---- a text

text_short : (n : ℕ) → text_ok n ≡ true → n ≤ 32977
unfolding text_ok
text_short n e = leb-true n 32977 (and_parts (ltb 0 n && eqb (n % 49) 0) (leb n 32977) e).1

-- of every text
pub verdict_small : (text : List ℕ) → SmallVerdict (verdict text)
unfolding verdict
verdict_small text =
    or_refused (text_ok (length text)) Length _ refl
    (λ e.
    let few : length text / 49 ≤ 673 = omega (arith, text_short (length text) e) in
    go (first_bad text) refl (numbers_verdict (numbers_of text) (length text / 49)) (numbers_small (numbers_of text) (length text / 49) few))
  where
    go : (b : Option ℕ) → first_bad text ≡ b → (v : Verdict) → SmallVerdict v → SmallVerdict (unless_bad b v)
    go none e v s = s
    go (some i) e v s = (omega arith, omega arith, omega (arith, (first_bad_line text i e).below))

-- ---- an answer

-- "packing an answer loses nothing"
abbrev pub SmallAnswer : Answer → Type 0
SmallAnswer (Ok bytes) = bytes < 2 ^ 32
SmallAnswer (Err r) = SmallRefusal r

by_room : (report : List ℕ) (b : Bool) → length report < 2 ^ 32 → SmallAnswer (cond b (Err Room) (Ok (length report)))
by_room report true l = small Room (omega arith)
by_room report false l = l

-- of every text and buffer
pub answer_small : (text : List ℕ) (room : ℕ) → SmallAnswer (report_answer text room)
unfolding report_answer
answer_small text room = go (verdict text) refl (verdict_small text)
  where
    report_small : verdict text ≡ Ok tt → length (report_text (table_in text)) < 2 ^ 32
    report_small e =
        let acc = accepted text e in
        let cells : (table_in text).cells ≤ 64 = acc.cells_most in
        let statements : length (table_in text).statements ≤ 512 = acc.statements_most in
        let strays : count_from 0 (length (table_in text).statements) (is_stray (table_in text) (one_each (table_in text)) (sets_of (table_in text) (one_each (table_in text)))) ≤ length (table_in text).statements =
        count_most 0 (length (table_in text).statements) _ in
        omega (arith, report_length (table_in text) acc)

    go : (v : Verdict) → verdict text ≡ v → SmallVerdict v → SmallAnswer (answer_by v (report_text (table_in text)) room)
    go (Ok u) e s = by_room (report_text (table_in text)) (ltb room (length (report_text (table_in text)))) (report_small e)
    go (Err r) e s = s
