-- `run_state::begin` meets its contract. Assumes nothing.
use Rattle.run_state.specs.BeginLaws.{begun, nothing_passed}
use mathlib.Core.Path.{◌≡◌, ap}
use Rattle.std.proofs.Common.{rules, of_calls}
use lib.ListN.{length}
use Rattle.run_state.specs.declared.State as Run
use Rattle.run_state.proofs.begin.Goals as goal

pub returns : goal.returns
returns c =
    let nothing : c.default.result ≡ nothing_passed = search (rules, of_calls) in
    begun _ c.enter.ensures.accepted _ _ (ap (λ (b : Run.State). length b.values) c.new.ensures) (rw nothing at c.enter.ensures.entered) _ c.new.ensures
