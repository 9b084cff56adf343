-- `locks::give` meets its contract. Assumes nothing.
use Rattle.std.proofs.Common.{rules, sym, subst, ◌≡◌}
use Rattle.locks.specs.Turns.{giving_word, Storable}
use Rattle.locks.specs.TurnLaws.{giving_storable}
use Rattle.locks.proofs.give.Goals as goal

pub turn-requires-clause-stored : goal.turn-requires-clause-stored
turn-requires-clause-stored c = λ word r l p. let e : r ≡ giving_word c.args.at.thread word = search rules in subst Storable (sym e) (giving_storable _ _ l)
