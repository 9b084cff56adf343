-- `locks::take_read` meets its contract. Assumes nothing.
use Rattle.std.proofs.Common.{rules, sym, subst, ◌≡◌}
use Rattle.locks.specs.Turns.{reading_word, Storable}
use Rattle.locks.specs.TurnLaws.{reading_storable}
use Rattle.locks.proofs.take_read.Goals as goal

pub turn-requires-clause-stored : goal.turn-requires-clause-stored
turn-requires-clause-stored c = λ word r l p. let e : r ≡ reading_word c.args.at.thread word = search rules in subst Storable (sym e) (reading_storable _ _ c.args.at.thread_low l)
