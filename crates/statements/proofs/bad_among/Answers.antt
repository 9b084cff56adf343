-- `statements::bad_among` meets its contract. Assumes nothing.
use Rattle.std.proofs.Common.{rules, of_calls}
use Rattle.table.specs.Statements.{statement_ok}
use Rattle.table.proofs.FoundLaws.{failing_is}
use Rattle.statements.proofs.bad_among.Goals as goal

pub returns : goal.returns
returns c =
    failing_is (statement_ok c.args.outline.now.numbers.now c.args.r) c.args.from c.args.end _ (λ k b a h s. search (rules, of_calls)) c.first_failing.result c.first_failing.ensures
