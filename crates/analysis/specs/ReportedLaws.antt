-- The answers of `report` and `is_clean`, by what was read and what was printed. Assumes nothing.
use Rattle.std.specs.Prelude.{◌≡◌, refl, Bool, true, false, cond, List, ℕ, ◌*◌, ◌≤◌, ltb, ℤ, pos, length, take, replicate, Ok, Err, Option, Some, None, ok_or}
use Rattle.std.proofs.Common.{sym, ap, ◌∙◌, arith}
use Rattle.std.proofs.lemmas.List.{length-replicate}
use Rattle.lines.specs.Line.{numbers_of, line_count}
use Rattle.table.specs.Header.{handles, routines, statements, statement_line}
use Rattle.table.specs.Table.{table_of}
use Rattle.table.specs.Accepted as Facts
use Rattle.table.proofs.AcceptedLaws.{accepted}
use Rattle.table.proofs.CutLaws.{cut_long}
use Rattle.table.proofs.CheckLaws.{text_long}
use Rattle.table.specs.Verdict.{Verdict, text_ok, verdict}
use Rattle.table.proofs.VerdictLaws.{bad_length}
use Rattle.report.specs.Report.{report_text}
use Rattle.report_printer.specs.Printed.{bytes_in, printed_over, counts_nothing}
use Rattle.analysis.specs.Reported.{table_in, answer_of, report_answer, reported_into, loadable, with_clean, examined_in}
use Rattle.table.specs.declared.Refusal.{Refusal}
use Rattle.table.specs.declared.Refusal.TheVariants.{Length, Room}
use Rattle.stages.specs.Lent.{Lent}
use Rattle.findings.specs.FoundLaws.{statements_few}
use Rattle.table.proofs.AcceptedLaws.{handles_few, routines_few}

-- ---- what was printed: no bytes mean no room

by_room : (report : List ℕ) (room : ℕ) → ok_or (bytes_in report room) Room ≡ answer_of report room
by_room report room = go (ltb room (length report))
  where
    go : (b : Bool) → ok_or (cond b None (Some (length report))) Room ≡ cond b (Err Room) (Ok (length report))
    go true = refl
    go false = refl

-- ---- what was read

module _ (text : List ℕ) (v : Verdict) (numbers : List ℤ) (said : v ≡ verdict text) (filled : v ≡ Ok tt → numbers ≡ numbers_of text) where
  module _ (yes : v ≡ Ok tt) where
    is_accepted : verdict text ≡ Ok tt
    is_accepted = sym said ∙ yes

    pub read_accepted : Facts.Accepted (table_of numbers)
    read_accepted = rw (filled yes) (accepted text is_accepted)

    -- there are as many numbers as the header says
    pub read_long : length numbers ≡ 8 * statement_line numbers (statements numbers)
    read_long = rw (filled yes) (text_long text is_accepted)

    answer_is : (room : ℕ) → report_answer text room ≡ answer_of (report_text (table_in text)) room
    unfolding report_answer
    answer_is room = rw is_accepted

    loads : counts_nothing (table_of numbers) ≡ loadable text
    unfolding loadable
    loads = rw (is_accepted, filled yes)

    pub accepted_answer : (room : ℕ) (bytes : Option ℕ) (clean : Bool) → bytes ≡ bytes_in (report_text (table_of numbers)) room → clean ≡ counts_nothing (table_of numbers)
        → with_clean (ok_or bytes Room) clean ≡ examined_in text room
    unfolding examined_in
    accepted_answer room bytes clean b k =
        rw (answer_is room, ← by_room (report_text (table_in text)) room, k ∙ loads, b ∙ ap (λ (n : List ℤ). bytes_in (report_text (table_of n)) room) (filled yes))

    pub accepted_written : (out : List ℕ) → printed_over (report_text (table_of numbers)) out ≡ reported_into text out
    unfolding reported_into
    accepted_written out = rw (is_accepted, filled yes)

  module _ (r : Refusal) (no : v ≡ Err r) where
    is_refused : verdict text ≡ Err r
    is_refused = sym said ∙ no

    pub refused_answer : (room : ℕ) → with_clean (Err r) false ≡ examined_in text room
    unfolding examined_in report_answer loadable
    refused_answer room = rw is_refused

    pub refused_written : (out : List ℕ) → out ≡ reported_into text out
    unfolding reported_into
    refused_written out = rw is_refused

-- a text of a length that none has
pub bad_length_answer : (text : List ℕ) → text_ok (length text) ≡ false → (room : ℕ) → with_clean (Err Length) false ≡ examined_in text room
unfolding examined_in report_answer loadable
bad_length_answer text e room = rw (bad_length text e)

pub bad_length_written : (text : List ℕ) → text_ok (length text) ≡ false → (out : List ℕ) → out ≡ reported_into text out
unfolding reported_into
bad_length_written text e out = rw (bad_length text e)

-- ---- lists of zeros of a size

-- for the numbers of a text that has N of them at most
module _ (N : ℕ) (text : List ℕ) (count : ℕ) (e : count ≡ line_count text) (few : 8 * line_count text ≤ N) where
  pub sized : 8 * count ≡ length (take (8 * count) (replicate N (pos 0)))
  sized = cut_long (8 * count) N (pos 0) (omega arith)

  pub sized_text : length (take (8 * count) (replicate N (pos 0))) ≡ 8 * line_count text
  sized_text = sym sized ∙ ap (λ (k : ℕ). 8 * k) e

-- for the sets and edges of any accepted table
pub lent_long : (f : List ℤ) → Facts.Accepted (table_of f) → Lent f (replicate 1600 0) (replicate 2048 0)
lent_long f acc =
    let r : routines f ≤ 32 = routines_few f acc in
    let s : statements f ≤ 512 = statements_few f acc in
    let h : handles f ≤ 128 = handles_few f acc in
    record { work_long = omega arith; places_long = omega arith; edges_long = omega arith }

-- for those of a table of N lines at most
pub lent_sized : (f : List ℤ) (N W E : ℕ) → length f ≡ 8 * statement_line f (statements f) → length f ≤ 8 * N → 3 * N ≤ W → 4 * N ≤ E
    → Lent f (replicate W 0) (replicate E 0)
lent_sized f N W E e l w k =
    let a : length (replicate {A = ℕ} W 0) ≡ W = length-replicate W 0 in
    let b : length (replicate {A = ℕ} E 0) ≡ E = length-replicate E 0 in
    record { work_long = omega arith; places_long = omega arith; edges_long = omega arith }
