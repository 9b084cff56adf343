-- `locks::take` meets its contract. Assumes nothing.
use Rattle.std.proofs.Common.{rules, sym, subst, ◌≡◌}
use Rattle.locks.specs.Turns.{taking_word, Storable}
use Rattle.locks.specs.TurnLaws.{taking_storable}
use Rattle.locks.proofs.take.Goals as goal

pub turn-requires-clause-stored : goal.turn-requires-clause-stored
turn-requires-clause-stored c = λ word r l p. let e : r ≡ taking_word c.args.at.thread word = search rules in subst Storable (sym e) (taking_storable _ _ c.args.at.thread_low)
