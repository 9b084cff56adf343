-- `loader::may_load` meets its contract. Assumes nothing.
use mathlib.Core.Path.{sym, ◌∙◌}
use Rattle.loader.specs.LoadLaws.{loadable_safe, loadable_steady}
use Rattle.loader.proofs.may_load.Goals as goal

pub returns : goal.returns
returns c =
    record { answer = c.is_clean.ensures; safe = (λ allowed. loadable_safe c.args.text.now (sym c.is_clean.ensures ∙ allowed)); steady = λ allowed. loadable_steady c.args.text.now (sym c.is_clean.ensures ∙ allowed) }
