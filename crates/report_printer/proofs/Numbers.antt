-- Numbers as fields of a line: they are below 1,000,000, and a signed word holds them. Assumes nothing.
use mathlib.Core.Path.{◌≡◌, refl, ap, ◌∙◌}
use mathlib.Core.Bool.{Bool, true, false}
use Prim.Native.Nat.{ℕ, ◌<◌}
use native.Mathlib.Omega.{arith}
use lib.IntN.{ℤ, pos}
use borrow.Author.Tests.{ltb-true}
use mir.Syntax.{w32}
use mir.Val.{to_z, of_z, bool_byte}
use mir.Facts.{to_z_pos}
use Rattle.lines.proofs.LineLaws.{all_at}
use Rattle.report.specs.Report.{bit, stray_line}
use Rattle.report.specs.ReportTextLaws.{Line8}
use Rattle.report_printer.specs.Lines.{cell_numbers, total_numbers}

pub word : (n : ℕ) → n < 1000000 → to_z w32 n ≡ pos n
word n h = to_z_pos w32 (omega arith)

-- a number that was passed as a signed word comes back
back : {z : ℤ} (n : ℕ) → z ≡ pos n → n < 1000000 → to_z w32 (of_z w32 z) ≡ pos n
back n e h = ap (λ (x : ℤ). to_z w32 (of_z w32 x)) e ∙ word n h

flag_small : (b : Bool) → bit b < 1000000
flag_small true = omega arith
flag_small false = omega arith

-- a test as a number
bit_is : (b : Bool) → bool_byte b ≡ bit b
bit_is true = refl
bit_is false = refl

pub back_flag : {z : ℤ} (b : Bool) → z ≡ pos (bool_byte b) → to_z w32 (of_z w32 z) ≡ pos (bit b)
back_flag b e = back (bit b) (e ∙ ap pos (bit_is b)) (flag_small b)

-- the numbers of a line 51 and of a line 59
pub record CellSmall (x reading writing common : ℕ) : Type 0 where
  pub cell : x < 1000000
  pub reads : reading < 1000000
  pub writes : writing < 1000000
  pub locks : common < 1000000

pub cell_small : (x reading writing shared common : ℕ) → Line8 (cell_numbers x reading writing shared common) → CellSmall x reading writing common
unfolding cell_numbers
cell_small x reading writing shared common h = record {
  cell = ltb-true _ _ (all_at _ 1 h.range);
  reads = ltb-true _ _ (all_at _ 2 h.range);
  writes = ltb-true _ _ (all_at _ 3 h.range);
  locks = ltb-true _ _ (all_at _ 5 h.range);
}

pub total_small : (unguarded strays : ℕ) → Line8 (total_numbers unguarded strays) → (unguarded < 1000000) × (strays < 1000000)
unfolding total_numbers
total_small unguarded strays h = (ltb-true _ _ (all_at _ 1 h.range), ltb-true _ _ (all_at _ 2 h.range))

-- and of a line 52
pub stray_small : (s : ℕ) → Line8 (stray_line s) → s < 1000000
unfolding stray_line
stray_small s h = ltb-true _ _ (all_at _ 1 h.range)
