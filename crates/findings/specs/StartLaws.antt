-- Without a START no cell is shared. Assumes nothing.
use Rattle.std.specs.Prelude.{ℕ, ◌<◌, ◌≡◌, List, ℤ, refl, Some}
use Rattle.std.proofs.Common.{sym, ◌∙◌, arith}
use Rattle.std.proofs.Math.Path.{ap}
use Rattle.std.proofs.Math.Bool.{true}
use Rattle.std.proofs.Math.ListN.{length}
use borrow.Author.Tests.{eq-eqb}
use Rattle.sets.specs.Set.{has, one}
use Rattle.sets.proofs.SetLaws.{has_one, inside_both}
use Rattle.table.specs.Header.{statements}
use Rattle.table.proofs.LookupLaws.{statements_length, statement_is}
use Rattle.table.specs.Table.{Table, table_of, statement, statement_of, InRoutine}
use Rattle.table.specs.View.{view, starts}
use Rattle.table.proofs.ViewLaws.{set_from, set_has, starts_names}
use Rattle.table.specs.declared.Statement.{Statement}
use Rattle.table.specs.Accepted.{Accepted}
use Rattle.report.specs.Over.{union_from}
use Rattle.report.proofs.OverLaws.{none_in, union_has, union_from_lem, below_within, within_below}
use Rattle.report.specs.Layout.{one_each}
use Rattle.report.proofs.OneEach.{names_there}
use Rattle.report.specs.Findings.{Sets, shared_at, shared_cells}
use Rattle.findings.specs.Steps.{started_by}

module _ (f : List ℤ) (acc : Accepted (table_of f)) where
  abbrev t : Table
  t = table_of f

  -- what a statement STARTs is among what is STARTed
  started_has : (p q : ℕ) → p < statements f → starts (view (statement t p)) ≡ Some q → has (union_from 0 (statements f) (started_by f)) q ≡ true
  unfolding started_by
  started_has p q l e =
      let o : (c : ℕ) × (c < length t.routines) × InRoutine t c p = acc.owner p (omega (arith, statements_length f)) in
      let small : q < 64 =
      omega (arith, names_there t o.0 (statement t p) q (acc.operands o.0 p o.1 o.2) (starts_names (view (statement t p)) e), acc.routines_most) in
      let here : starts (view (statement_of f p)) ≡ Some q = ap (λ (σ : Statement). starts (view σ)) (sym (statement_is f p l)) ∙ e in
      union_has 0 (statements f) (started_by f) p q (below_within l)
      (set_has (starts (view (statement_of f p))) one q here (has_one q q small ∙ eq-eqb q q refl))

  pub none_shared : union_from 0 (statements f) (started_by f) ≡ 0 → (a : Sets) → 0 ≡ shared_cells t (one_each t) a
  unfolding shared_cells shared_at one_each
  none_shared none a = inside_both 0 (shared_cells t (one_each t) a) (λ x h. none_in x h) (λ x h. go x h)
    where
      go : (x : ℕ) → has (shared_cells t (one_each t) a) x ≡ true → has 0 x ≡ true
      go x h =
          let r = union_from_lem 0 (length t.statements) (shared_at t (one_each t) a) x h in
          let l : r.0 < statements f = omega (arith, within_below r.1, statements_length f) in
          let o = set_from (starts (view (statement t r.0))) _ x r.2 in
          none_in o.0 (ap (λ (s : ℕ). has s o.0) (sym none) ∙ started_has r.0 o.0 l o.1)
