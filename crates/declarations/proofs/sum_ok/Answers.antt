-- `declarations::sum_ok` meets its contract. Assumes nothing.
use mathlib.Core.Path.{ap, ap₂, ◌∙◌}
use native.Mathlib.Omega.{arith}
use lib.Dec.{eqb}
use Prim.Native.Nat.{ℕ}
use lib.ListN.{get_or}
use Rattle.table.specs.Header.{routines}
use Rattle.table.specs.Routines.{sum_ok}
use Rattle.table.proofs.ExtentLaws.{first_at}
use Rattle.declarations.proofs.sum_ok.Goals as goal

pub returns : goal.returns
unfolding sum_ok
returns c =
    let f = c.args.numbers.now in
    ap₂ eqb
    (c.value_at.ensures ∙ ap (λ (k : ℕ). get_or c.args.first.now k 0) c.field_of.ensures.is
    ∙ first_at f c.requires.numbers_bound _ (routines f) c.requires.first_value (omega arith))
    c.field_of-2.ensures.is
