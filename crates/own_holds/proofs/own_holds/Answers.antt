-- `own_holds::own_holds` meets its contract. Assumes nothing.
use Rattle.std.specs.Prelude.{ℕ}
use Rattle.std.proofs.Common.{sym, ◌∙◌}
use Rattle.table.proofs.CutLaws.{cut_long}
use Rattle.table.proofs.FrontLaws.{front_is}
use Rattle.own_holds.specs.OwnLaws.{own_known}
use Rattle.own_holds.proofs.own_holds.Goals as goal

pub returns : goal.returns
returns c =
    let long = c.given_sets.auto.given ∙ sym (cut_long {A = ℕ} _ 32 0 c.routines-routines.ensures.few) in
    own_known c.args.program.now _ _ _ c.requires.flow_value (front_is 32 c.given_sets.new.given long ∙ c.given_sets.ensures) c.both_holds.ensures
