-- `naming::named_by` meets its contract. Assumes nothing.
use Rattle.std.specs.Prelude.{Option}
use Prim.Native.Nat.{ℕ, ◌+◌}
use mathlib.Core.Path.{◌≡◌, refl, sym, ap, ◌∙◌}
use mathlib.Core.List.{List}
use lib.IntN.{ℤ}
use Rattle.sets.specs.Set.{one}
use Rattle.table.specs.Fields.{field}
use Rattle.table.specs.Header.{statement_line}
use Rattle.table.proofs.HeaderLaws.{statement_line_lem}
use Rattle.table.specs.Naming.{named_by}
use Rattle.table.proofs.OperationLaws.{view_line}
use Rattle.table.specs.Table.{statement_in}
use Rattle.table.specs.View.{view, set_on}
use Rattle.table.specs.declared.View.{View}
use Rattle.naming.proofs.named_by.Goals as goal

-- so what it names is what the line's view does
named : (f : List ℤ) (s : ℕ) {line : ℕ} → line ≡ statement_line f s → {n r : Option ℕ} → n ≡ (view (statement_in f line (field f line 1))).names → n ≡ r
    → set_on r one ≡ named_by f s
unfolding named_by
named f s e is at = ap {B = ℕ} (λ r. set_on r one) (sym at ∙ is ∙ ap (λ (v : View). v.names) (view_line f s e refl))

pub returns-in-Some : goal.returns-in-Some
returns-in-Some c = let line_is_here : c.first_line.result + c.args.s ≡ statement_line c.args.numbers.now c.args.s = ap (λ (n : ℕ). n + c.args.s) c.first_line.ensures.is ∙ statement_line_lem c.args.numbers.now c.args.s in c.one.ensures ∙ named _ _ line_is_here c.names_at-names.ensures c.in-Some.is

pub returns-in-None : goal.returns-in-None
returns-in-None c = let line_is_here : c.first_line.result + c.args.s ≡ statement_line c.args.numbers.now c.args.s = ap (λ (n : ℕ). n + c.args.s) c.first_line.ensures.is ∙ statement_line_lem c.args.numbers.now c.args.s in named _ _ line_is_here c.names_at-names.ensures c.in-None.is
