-- `fields::quick_at` meets its contract: each number that it returns is one of three forms. Assumes nothing.
use Rattle.std.proofs.Common.{rules, arith}
use Rattle.std.proofs.lemmas.Option.{IfSome_then}
use Rattle.fields.specs.QuickFields.{four_of, quick_one, quick_two, quick_three}
use Rattle.fields.proofs.quick_at.Goals as goal

pub returns-in-32 : goal.returns-in-32
returns-in-32 c =
    let d = c.if-not-is_ascii_digit.ensures.cases in
    rw c.from-ones.ensures (quick_one _ _ c.requires (four_of _ _ c.from_le_bytes-head.ensures c.type_inv.text) d.0 d.1 (omega (arith, c.in_ok-lead.ensures, c.if-lead-eq0.true)) (search rules))

pub returns-in-49-to-57 : goal.returns-in-49-to-57
returns-in-49-to-57 c =
    let d = c.if-not-is_ascii_digit.ensures.cases in
    rw (c.from.ensures, c.from-ones.ensures) (quick_two _ _ c.requires (four_of _ _ c.from_le_bytes-head.ensures c.type_inv.text) d.0 d.1 (omega (arith, c.in_ok-lead.ensures, c.if-lead-eq0.true)) (search rules) (search rules))

pub returns : goal.returns
returns c =
    let d = c.if-not-is_ascii_digit.ensures.cases in
    IfSome_then c.hundreds.result (rw c.from-ones.ensures at c.hundreds.ensures)
    (λ n. quick_three _ _ c.requires (four_of _ _ c.from_le_bytes-head.ensures c.type_inv.text) d.0 d.1 c.in_ok-lead.lead n c.in_ok-lead.ensures c.if-lead-ne0.false)
