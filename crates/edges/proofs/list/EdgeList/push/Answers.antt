-- `edges::list::EdgeList::push` meets its contract. Assumes nothing.
use mathlib.Core.Path.{refl}
use Rattle.edges.specs.EdgeLaws.{appended_one, appended_full, appended_large}
use Rattle.edges.proofs.list.EdgeList.push.Goals.{else-self-via-then-self+then-f-lt65536+else-t-lt65536, else-self-via-then-self+else-f-lt65536, else-self-via-else-self}
use native.Mathlib.Omega.{arith}
use Rattle.edges.proofs.list.EdgeList.push.Goals as goal

pub returns-then-t-lt65536 : goal.returns-then-t-lt65536
returns-then-t-lt65536 c = record { same = refl; appended = appended_one _ _ _ _ c.if-self.true c.if-t-lt65536.true }

pub returns-else-self : goal.returns-else-self
returns-else-self c = record {
  same = refl;
  appended = elim c.else-self.branch [
    | else-self-via-then-self+then-f-lt65536+else-t-lt65536 w ↦ appended_large _ _ _ _ (λ m. omega (arith, m.to, w.if-t-lt65536.false))
    | else-self-via-then-self+else-f-lt65536 w ↦ appended_large _ _ _ _ (λ m. omega (arith, m.from, w.if-f-lt65536.false))
    | else-self-via-else-self w ↦ appended_full _ _ _ _ w.if-self.false
  ];
}
