-- `declarations::header::bad_leading` meets its contract. Assumes nothing.
use Rattle.std.proofs.Common.{rules, of_calls}
use Rattle.table.specs.Header.{leading_ok}
use Rattle.table.proofs.FoundLaws.{failing_is}
use Rattle.declarations.proofs.header.bad_leading.Goals as goal

pub returns : goal.returns
returns c = failing_is (leading_ok c.args.numbers.now) 1 c.args.lines _ (λ k b a h s. search (rules, of_calls)) c.first_failing.result c.first_failing.ensures
