-- `run_printer::Tail::put_digits` meets its contract. Assumes nothing.
use Rattle.std.proofs.Common.{refl, arith, ◌∙◌}
use Rattle.run_printer.proofs.WordsLaws.{spelling_start, spelling_next, spelling_done, puts_one, put_before}
use Rattle.run_printer.proofs.Tail.put_digits.Goals as goal

pub loop-m-init : goal.loop-m-init
loop-m-init c = (spelling_start _ _ c.ranges.n.fits, refl)

pub loop-m-preserved : goal.loop-m-preserved
loop-m-preserved c =
    let put = c.put_byte.ensures in
    (spelling_next c.loop-m.invariant.0 (omega (arith, c.loop-m-test.true)) (put.is ∙ puts_one _ _), put.same ∙ c.loop-m.invariant.1)

pub returns : goal.returns
returns c =
    let put = c.put_byte-2.ensures in
    put_before (put.same ∙ c.loop-m.invariant.1) (put.is ∙ puts_one _ _ ∙ spelling_done c.loop-m.invariant.0 c.loop-m-test.false)
