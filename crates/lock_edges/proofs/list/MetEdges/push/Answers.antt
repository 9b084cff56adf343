-- `lock_edges::list::MetEdges::push` meets its contract. Assumes nothing.
use Rattle.std.proofs.Common.{refl, arith}
use Rattle.lock_edges.specs.Grown.{grown_one, grown_full, grown_also_full, grown_large}
use Rattle.lock_edges.proofs.list.MetEdges.push.Goals.{else-n-self-via-then-n-self+then-n-self-2+then-origin-lt65536+then-origin-lt65536-2+else-t-lt65536, else-n-self-via-then-n-self+then-n-self-2+then-origin-lt65536+else-origin-lt65536-2, else-n-self-via-then-n-self+then-n-self-2+else-origin-lt65536, else-n-self-via-then-n-self+else-n-self-2, else-n-self-via-else-n-self}
use Rattle.lock_edges.proofs.list.MetEdges.push.Goals as goal

pub returns-then-t-lt65536 : goal.returns-then-t-lt65536
returns-then-t-lt65536 c = grown_one _ _ refl refl refl refl refl c.if-n-self.true c.if-n-self-2.true c.if-t-lt65536.true

pub returns-else-n-self : goal.returns-else-n-self
returns-else-n-self c = elim c.else-n-self.branch [
  | else-n-self-via-then-n-self+then-n-self-2+then-origin-lt65536+then-origin-lt65536-2+else-t-lt65536 w ↦ grown_large _ _ (λ m. omega (arith, m.to, w.if-t-lt65536.false))
  | else-n-self-via-then-n-self+then-n-self-2+then-origin-lt65536+else-origin-lt65536-2 w ↦ grown_large _ _ (λ m. omega (arith, m.also, w.if-origin-lt65536-2.false))
  | else-n-self-via-then-n-self+then-n-self-2+else-origin-lt65536 w ↦ grown_large _ _ (λ m. omega (arith, m.from, w.if-origin-lt65536.false))
  | else-n-self-via-then-n-self+else-n-self-2 w ↦ grown_also_full _ _ w.if-n-self-2.false
  | else-n-self-via-else-n-self w ↦ grown_full _ _ w.if-n-self.false
]
