-- The answer of `read`, by what its steps find; and what the verdict "accepted" says of each check. Assumes nothing.
use Rattle.std.specs.Prelude.{◌≡◌, refl, List, true, false, ℕ, ◌/◌, length, ℤ, Result, Ok, Err}
use Rattle.std.proofs.Common.{sym, ◌∙◌, arith}
use Rattle.std.proofs.Math.Option.{none, some}
use Rattle.lines.specs.Line.{first_bad, numbers_of, padded}
use Rattle.table.specs.declared.Refusal.{Refusal}
use Rattle.table.specs.declared.Refusal.TheVariants.{Length, Fields}
use Rattle.table.specs.Verdict.{Verdict, verdict, numbers_verdict, text_ok, numbers_for, reading_of}

-- a reading is its verdict with the numbers for it
pub reading_refused : (text : List ℕ) (r : Refusal) → verdict text ≡ Err r → ◌≡◌ {A = Result (List ℤ) Refusal} (Err r) (reading_of text)
unfolding reading_of
reading_refused text r e = rw e

pub reading_accepted : (text : List ℕ) → verdict text ≡ Ok tt → ◌≡◌ {A = Result (List ℤ) Refusal} (Ok (padded (numbers_of text))) (reading_of text)
unfolding reading_of
reading_accepted text e = rw e

-- what a reading says of the verdict
pub reading_ok : (text : List ℕ) (numbers : List ℤ) → reading_of text ≡ Ok numbers → verdict text ≡ Ok tt
unfolding reading_of
reading_ok text numbers = go (verdict text)
  where
    go : (v : Verdict) → numbers_for v (numbers_of text) ≡ Ok numbers → v ≡ Ok tt
    go (Ok u) e = refl
    go (Err r) e = let z : ◌≡◌ {A = ℕ} 0 1 = cc in absurd (omega arith)

pub reading_err : (text : List ℕ) (r : Refusal) → reading_of text ≡ Err r → verdict text ≡ Err r
unfolding reading_of
reading_err text r = go (verdict text)
  where
    go : (v : Verdict) → numbers_for v (numbers_of text) ≡ Err r → v ≡ Err r
    go (Ok u) e = let z : ◌≡◌ {A = ℕ} 0 1 = cc in absurd (omega arith)
    go (Err q) e = cc

-- ---- the verdict, by what is found

pub bad_length : (text : List ℕ) → text_ok (length text) ≡ false → verdict text ≡ Err Length
unfolding verdict
bad_length text e = rw e

pub bad_line : (text : List ℕ) (i : ℕ) → text_ok (length text) ≡ true → first_bad text ≡ some i → verdict text ≡ Err (Fields i)
unfolding verdict
bad_line text i e b = rw (e, b)

pub by_numbers : (text : List ℕ) → text_ok (length text) ≡ true → first_bad text ≡ none → verdict text ≡ numbers_verdict (numbers_of text) (length text / 49)
unfolding verdict
by_numbers text e b = rw (e, b)

-- ---- what `read_into` answers

pub into_refused : (text : List ℕ) (numbers : List ℤ) (r : Refusal) → verdict text ≡ Err r
    → (◌≡◌ {A = Verdict} (Err r) (verdict text)) × (◌≡◌ {A = Verdict} (Err r) (Ok tt) → numbers ≡ numbers_of text)
into_refused text numbers r e = (sym e, λ h. let z : ◌≡◌ {A = ℕ} 0 1 = cc in absurd (omega arith))

pub into_numbers : (text : List ℕ) (numbers : List ℤ) (v : Verdict) → text_ok (length text) ≡ true → first_bad text ≡ none → numbers ≡ numbers_of text
    → v ≡ numbers_verdict numbers (length text / 49) → (v ≡ verdict text) × (v ≡ Ok tt → numbers ≡ numbers_of text)
into_numbers text numbers v e b n h = (h ∙ rw n (sym (by_numbers text e b)), λ a. n)
