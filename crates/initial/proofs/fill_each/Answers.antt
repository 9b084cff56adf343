-- `initial::fill_each` meets its contract. Assumes nothing.
use Rattle.std.specs.Prelude.{◌<◌, length}
use Rattle.std.proofs.Common.{arith}
use Rattle.table.proofs.TabulateLaws.{filled_next, filled_all}
use Rattle.initial.proofs.fill_each.Goals as goal

pub loop-p-preserved : goal.loop-p-preserved
loop-p-preserved g c = λ at h.
    let f = c.loop-p.invariant at h in
    let there : c.loop-p.p < length c.args.out.now = omega (arith, f.long, c.loop-p-test.true) in
    filled_next _ _ _ _ _ f there (h _ _ there c.value.ensures)

pub returns : goal.returns
returns g c = λ at h. let f = c.loop-p.invariant at h in filled_all _ _ _ _ f (omega (arith, f.long, c.loop-p-test.false))
