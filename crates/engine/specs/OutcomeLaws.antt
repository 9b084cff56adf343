-- What a call answers and leaves, by what is read of its text. Assumes nothing.
use Rattle.std.specs.Prelude.{ℕ, ◌*◌, ◌<◌, ◌≤◌, ◌≡◌, true, false, ℤ, get_or, Ok, Err}
use Rattle.std.proofs.Common.{sym, ◌∙◌, subst}
use Rattle.std.proofs.Math.Path.{ap}
use mathlib.Core.List.{List, ◌++◌}
use borrow.Author.Tests.{le-leb, lt-leb}
use Rattle.std.proofs.Math.ListN.{length, drop, get_or-append}
use Rattle.lines.specs.Line.{numbers_of}
use Rattle.table.specs.Header.{statements, statement_line}
use Rattle.table.specs.Table.{table_of, counts_of}
use Rattle.table.specs.Verdict.{Verdict, verdict}
use Rattle.table.specs.Accepted.{Accepted}
use Rattle.table.proofs.AcceptedLaws.{accepted}
use Rattle.table.proofs.CheckLaws.{text_long}
use Rattle.table.specs.declared.Counts.{Counts}
use Rattle.machine.specs.State.{State, start}
use Rattle.machine.specs.Step.{run}
use Rattle.machine.proofs.EngineLaws.{unlimited, engine_runs_as_machine, Answered, answers_answered, answers_long}
use Rattle.machine.specs.Engine.{engine_run, answers}
use Rattle.table.specs.declared.Refusal.{Refusal}
use Rattle.table.specs.declared.Refusal.TheVariants.{Room}
use Rattle.engine.specs.Run.{table_in, has_room, outcome_of, answers_left, cells_left}

-- ---- what is read of a text

pub record ReadFacts (text : List ℕ) (numbers : List ℤ) (k : Counts) : Type 0 where
  pub verdict_is : verdict text ≡ Ok tt
  pub numbers_are : numbers ≡ numbers_of text
  pub facts : Accepted (table_of numbers)
  pub long : length numbers ≡ 8 * statement_line numbers (statements numbers)
  pub cells_are : k.cells ≡ (table_of numbers).cells

pub read_facts : (text : List ℕ) (v : Verdict) (numbers : List ℤ) (k : Counts) → v ≡ verdict text → (v ≡ Ok tt → numbers ≡ numbers_of text)
    → v ≡ Ok tt → k ≡ counts_of numbers → ReadFacts text numbers k
unfolding counts_of table_of
read_facts text v numbers k said filled q c =
    let e : verdict text ≡ Ok tt = sym said ∙ q in
    let n : numbers ≡ numbers_of text = filled q in
    record {
      verdict_is = e;
      numbers_are = n;
      facts = subst (λ (f : List ℤ). Accepted (table_of f)) (sym n) (accepted text e);
      long = subst (λ (f : List ℤ). length f ≡ 8 * statement_line f (statements f)) (sym n) (text_long text e);
      cells_are = ap (λ (x : Counts). x.cells) c;
    }

-- ---- what is left

abbrev pub Left : List ℕ → List ℕ → List ℕ → List ℤ → Verdict → List ℕ → List ℤ → Type 0
Left text schedule lent cells r lent' cells' =
    (r ≡ outcome_of text schedule lent cells) × ((lent' ≡ answers_left text schedule lent cells) × (cells' ≡ cells_left text schedule lent cells))

module _ (text schedule lent : List ℕ) (cells : List ℤ) where
  pub left_refused : (r : Refusal) → verdict text ≡ Err r → Left text schedule lent cells (Err r) lent cells
  unfolding outcome_of answers_left cells_left
  left_refused r e = (rw e, (rw e, rw e))

  left_short : verdict text ≡ Ok tt → has_room text schedule lent cells ≡ false → Left text schedule lent cells (Err Room) lent cells
  unfolding outcome_of answers_left cells_left
  left_short e f = (rw (e, f), (rw (e, f), rw (e, f)))

  module _ (numbers : List ℤ) (k : Counts) (q : ReadFacts text numbers k) where
    count_is : k.cells ≡ (table_in text).cells
    count_is = q.cells_are ∙ ap (λ (f : List ℤ). (table_of f).cells) q.numbers_are

    pub short_answers : length lent < length schedule → Left text schedule lent cells (Err Room) lent cells
    short_answers l = left_short q.verdict_is (rw (lt-leb (length schedule) (length lent) l))

    pub short_cells : length schedule ≤ length lent → length cells < k.cells → Left text schedule lent cells (Err Room) lent cells
    short_cells a l = left_short q.verdict_is (rw (le-leb (length schedule) (length lent) a, lt-leb (table_in text).cells (length cells) (subst (λ (n : ℕ). length cells < n) count_is l)))

    pub left_run : (lent' : List ℕ) (part : List ℤ) → length schedule ≤ length lent → k.cells ≤ length cells
        → lent' ≡ answers (table_of numbers) (start (table_of numbers)) schedule ++ drop (length schedule) lent
        → part ≡ (engine_run (table_of numbers) (start (table_of numbers)) schedule).cells
        → Left text schedule lent cells (Ok tt) lent' (part ++ drop k.cells cells)
    unfolding outcome_of answers_left cells_left
    left_run lent' part a b x y =
        let fit = le-leb (length schedule) (length lent) a in
        let room = le-leb (table_in text).cells (length cells) (subst (λ (n : ℕ). n ≤ length cells) count_is b) in
        let v = q.verdict_is in (
          rw (v, fit, room),
          (
            rw (v, fit, room) (x ∙ ap (λ (f : List ℤ). answers (table_of f) (start (table_of f)) schedule ++ drop (length schedule) lent) q.numbers_are),
            rw (v, fit, room)
                (ap (λ (l : List ℤ). l ++ drop k.cells cells) (y ∙ ap (λ (f : List ℤ). (engine_run (table_of f) (start (table_of f)) schedule).cells) q.numbers_are)
                ∙ ap (λ (n : ℕ). (engine_run (table_in text) (start (table_in text)) schedule).cells ++ drop n cells) count_is),
          ),
        )

-- the cells that an accepted call leaves are the machine's after the schedule without the steps that are answered 18
pub cells_of_the_machine : (text schedule lent : List ℕ) (cells : List ℤ) → verdict text ≡ Ok tt → has_room text schedule lent cells ≡ true
    → cells_left text schedule lent cells
    ≡ (run (table_in text) (start (table_in text)) (unlimited (table_in text) (start (table_in text)) schedule)).cells ++ drop (table_in text).cells cells
unfolding cells_left
cells_of_the_machine text schedule lent cells v f =
    rw (v, f) (ap (λ (s : State). s.cells ++ drop (table_in text).cells cells) (engine_runs_as_machine (table_in text) (start (table_in text)) schedule))

-- the answers that an accepted call leaves are 0 and 14 to 18: no 19 (C-16)
pub answered_numbers : (text schedule lent : List ℕ) (cells : List ℤ) → verdict text ≡ Ok tt → has_room text schedule lent cells ≡ true
    → (i : ℕ) → i < length schedule → Answered (get_or (answers_left text schedule lent cells) i 0)
unfolding answers_left
answered_numbers text schedule lent cells v f i l =
    let t = table_in text in
    rw (v, f, get_or-append (answers t (start t) schedule) (drop (length schedule) lent) 0 i (subst (λ (k : ℕ). i < k) (sym (answers_long t (start t) schedule)) l))
    (answers_answered t (start t) schedule i l)
