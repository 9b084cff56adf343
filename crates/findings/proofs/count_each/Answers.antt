-- `findings::count_each` meets its contract. Assumes nothing.
use Rattle.std.proofs.Common.{arith, ◌∙◌}
use Rattle.findings.specs.FoldLaws.{folding_start, folding_next, folding_done, fold_count, bit_is, bit_most}
use Rattle.findings.proofs.count_each.Goals as goal

pub loop-i-init : goal.loop-i-init
loop-i-init g c = (λ at h. folding_start _ _ _, omega arith)

pub loop-i-preserved : goal.loop-i-preserved
loop-i-preserved g c = (
  λ at h. rw (c.from-count.ensures ∙ bit_is _, h _ _ (omega arith) c.test.ensures) (folding_next _ _ _ _ _ (c.loop-i.invariant.0 at h) c.loop-i-test.true),
  omega (arith, bit_most _ _ c.from-count.ensures, c.loop-i.invariant.1, c.loop-i-test.true),
)

pub returns : goal.returns
returns g c = record { is = λ at h. folding_done _ _ _ _ _ (c.loop-i.invariant.0 at h) c.loop-i-test.false ∙ fold_count _ _ _; small = omega arith }
