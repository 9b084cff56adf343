-- `lines::quick_fields` meets its contract: three quick fields, and five zeros behind them. Assumes nothing.
use Rattle.std.proofs.Common.{arith}
use Rattle.fields.specs.FieldLoops.{word_plus}
use Rattle.lines.proofs.LineLoops.{three_read}
use Rattle.lines.proofs.quick_fields.Goals as goal

pub returns : goal.returns
returns c =
    let x = c.in_ok-x.ensures in
    let y = c.in_ok-y.ensures in
    let z = c.in_ok-z.ensures in
    rw (word_plus c.in_ok-x.x (omega (arith, x.small)), word_plus c.in_ok-y.y (omega (arith, y.small)), word_plus c.in_ok-z.z (omega (arith, z.small)))
    (three_read _ _ _ _ _ (c.ends_in_zeros.ensures c.if-not-ends_in_zeros.false) x.said y.said z.said)
