-- What is printed for an accepted and for a refused text, and what the answer of `report` leaves to print. Assumes nothing.
use Rattle.std.specs.Prelude.{◌≡◌, refl, Bool, true, false, cond, List, ◌++◌, ℕ, ◌≤◌, ltb, length, drop, Ok, Err}
use Rattle.std.proofs.Common.{sym, ap, ◌∙◌, arith, ltb-false, le-ltb}
use Rattle.table.specs.Refusals.{number_of, line_of}
use Rattle.table.specs.declared.Refusal.{Refusal}
use Rattle.table.specs.declared.Refusal.TheVariants.{Room}
use Rattle.table.specs.Verdict.{Verdict, verdict}
use Rattle.report.specs.Report.{report_text}
use Rattle.refusal.specs.Refusal.{refusal_text, refusal_in, over}
use Rattle.refusal.specs.RefusalLaws.{refusal_said, refusal_fits}
use Rattle.analysis.specs.Reported.{Answer, table_in, answer_by, report_answer, written_by, reported_into}
use Rattle.analysis.specs.SmallLaws.{SmallRefusal, verdict_small}
use Rattle.answer.specs.Said.{said_of}

-- ---- the promise, by the verdict

-- an accepted text: its report, whole
pub said_accepted : (text : List ℕ) (room : ℕ) → verdict text ≡ Ok tt → length (report_text (table_in text)) ≤ room → said_of text room ≡ report_text (table_in text)
unfolding said_of report_answer
said_accepted text room e h = rw (e, le-ltb room (length (report_text (table_in text))) h)

-- a refused text: line 50 with the number and the line of its refusal
pub said_refused : (text : List ℕ) (room : ℕ) (r : Refusal) → verdict text ≡ Err r → 49 ≤ room → said_of text room ≡ refusal_text (number_of r) (line_of r)
unfolding said_of report_answer
said_refused text room r e h = rw e (refusal_said (number_of r) (line_of r) (omega (arith, small.1)) (omega (arith, small.2)) room h)
  where
    small : SmallRefusal r
    small = rw e at (verdict_small text)

-- ---- by the answer of `report`

-- an accepted text's report, which fits or not, and what the buffer holds then
module _ (report out : List ℕ) where
  abbrev answer_if : Bool → Answer
  answer_if b = cond b (Err Room) (Ok (length report))

  whole_if : (b : Bool) (bytes : ℕ) → ltb (length out) (length report) ≡ b → answer_if b ≡ Ok bytes
      → (bytes ≡ length report) × (bytes ≤ length out) × (cond b out (report ++ drop (length report) out) ≡ over report out)
  whole_if true bytes e a = let z : ◌≡◌ {A = ℕ} 0 1 = cc in absurd (omega arith)
  whole_if false bytes e a = let n : length report ≡ bytes = cc in (sym n, omega (arith, ltb-false (length out) (length report) e), refl)

  turned_if : (b : Bool) (r : Refusal) → answer_if b ≡ Err r → cond b out (report ++ drop (length report) out) ≡ out
  turned_if true r a = refl
  turned_if false r a = let z : ◌≡◌ {A = ℕ} 0 1 = cc in absurd (omega arith)

module _ (text out : List ℕ) where
  whole : (v : Verdict) (bytes : ℕ) → answer_by v (report_text (table_in text)) (length out) ≡ Ok bytes
      → (bytes ≡ length (report_text (table_in text))) × (bytes ≤ length out) × (written_by v (report_text (table_in text)) out ≡ over (report_text (table_in text)) out)
  whole (Ok u) bytes a = whole_if (report_text (table_in text)) out (ltb (length out) (length (report_text (table_in text)))) bytes refl a
  whole (Err r) bytes a = let z : ◌≡◌ {A = ℕ} 0 1 = cc in absurd (omega arith)

  turned : (v : Verdict) (r : Refusal) → answer_by v (report_text (table_in text)) (length out) ≡ Err r → written_by v (report_text (table_in text)) out ≡ out
  turned (Ok u) r a = turned_if (report_text (table_in text)) out (ltb (length out) (length (report_text (table_in text)))) r a
  turned (Err q) r a = refl

  -- the bytes and the buffer are those that are said
  module _ (out₁ : List ℕ) (w : out₁ ≡ reported_into text out) where
    pub report_said : (bytes : ℕ) → Ok bytes ≡ report_answer text (length out)
        → (bytes ≡ length (said_of text (length out))) × ((bytes ≤ length out) × (out₁ ≡ over (said_of text (length out)) out))
    unfolding said_of reported_into report_answer
    report_said bytes e =
        let l = whole (verdict text) bytes (sym e) in
        rw (← e) (l.0, (l.1, w ∙ l.2))

    pub refusal_left : (r : Refusal) → Err r ≡ report_answer text (length out) → (n : ℕ) (out₂ : List ℕ)
        → n ≡ length (refusal_in (number_of r) (line_of r) (length out₁)) → out₂ ≡ over (refusal_in (number_of r) (line_of r) (length out₁)) out₁
        → (n ≡ length (said_of text (length out))) × ((n ≤ length out) × (out₂ ≡ over (said_of text (length out)) out))
    unfolding said_of reported_into report_answer
    refusal_left r e n out₂ h k =
        let same : out₁ ≡ out = w ∙ turned (verdict text) r (sym e) in
        rw (← e) (
          rw same at h,
          (omega (arith, h, refusal_fits (number_of r) (line_of r) (length out₁), ap length same), rw same at k),
        )
