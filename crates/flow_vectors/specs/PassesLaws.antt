-- The sizes of an accepted table, and the passes of a text by what was read of it. Assumes nothing.
use Rattle.std.specs.Prelude.{◌≡◌, List, ℕ, ◌*◌, ◌≤◌, ℤ, Ok, Err}
use Rattle.std.proofs.Common.{sym, ◌∙◌, arith}
use Rattle.lines.specs.Line.{numbers_of}
use Rattle.table.specs.Header.{handles, statements}
use Rattle.table.specs.Table.{table_of}
use Rattle.table.specs.Accepted as Facts
use Rattle.table.proofs.AcceptedLaws.{accepted}
use Rattle.table.proofs.LookupLaws.{handles_length, statements_length}
use Rattle.table.specs.declared.Refusal.{Refusal}
use Rattle.table.specs.Verdict.{Verdict, verdict}
use Rattle.report.specs.Layout.{one_each}
use Rattle.report.specs.FlowPasses.{flow_passes}
use Rattle.flow_vectors.specs.Passes.{passes_in}

module _ (f : List ℤ) (acc : Facts.Accepted (table_of f)) where
  pub handles_few : handles f ≤ 128
  handles_few = omega (arith, acc.handles_most, handles_length f)

  pub edges_fit : 4 * statements f ≤ 2048
  edges_fit = omega (arith, acc.statements_most, statements_length f)

module _ (text : List ℕ) (v : Verdict) (numbers : List ℤ) (said : v ≡ verdict text) (filled : v ≡ Ok tt → numbers ≡ numbers_of text) where
  module _ (yes : v ≡ Ok tt) where
    is_accepted : verdict text ≡ Ok tt
    is_accepted = sym said ∙ yes

    pub read_accepted : Facts.Accepted (table_of numbers)
    read_accepted = rw (filled yes) (accepted text is_accepted)

    pub accepted_passes : flow_passes (table_of numbers) (one_each (table_of numbers)) ≡ passes_in text
    unfolding passes_in
    accepted_passes = rw (is_accepted, filled yes)

  pub refused_passes : (r : Refusal) → v ≡ Err r → 0 ≡ passes_in text
  unfolding passes_in
  refused_passes r told = rw (sym said ∙ told)
