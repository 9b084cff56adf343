-- `declarations::skip` meets its contract. Assumes nothing.
use Rattle.std.proofs.Common.{rules, of_calls, ◌∙◌}
use Rattle.table.proofs.FoundLaws.{failing_is, found_or_past}
use Rattle.declarations.proofs.skip.Goals as goal

pub returns : goal.returns
returns c =
    let u = failing_is _ c.args.from c.args.end _ (λ k b a h s. search (rules, of_calls)) c.first_failing.result c.first_failing.ensures in
    c.unwrap_or.ensures ∙ found_or_past _ c.args.from c.args.end c.max.result c.first_failing.result u c.max.ensures
