-- What TAKE, TAKER and GIVE of a thread do to a lock's word, and what they leave (document 02, C-18). Assumes nothing.
use Rattle.std.specs.Prelude.{ℕ, ◌+◌, ◌<◌, ◌≡◌, cond, eqb, ltb, get_or, Result, Ok, Err}
use Rattle.sets.specs.Set.{has, one, with, minus}
use Rattle.run_state.specs.declared.State as Run
use Rattle.run_state.specs.Lists.{locks_in, put_lock}
use Rattle.run_state.specs.Shown.{value_place}
use Rattle.operations.specs.declared.place.Place.{Place}
use Rattle.operations.specs.declared.Stop.{Stop}
use Rattle.operations.specs.declared.Stop.TheVariants.{Held, NotHeld}
use Rattle.operations.specs.Operation.{Move, on}

-- a lock's word after a turn at it, or why there was none
abbrev pub LockTurn : Type 0
LockTurn = Result ℕ Stop

-- TAKE: nobody may hold the lock
abbrev pub taking_word : ℕ → ℕ → LockTurn
taking_word n word = cond (eqb word 0) (Ok (one (16 + n))) (Err Held)

-- TAKER: no writer, and not this thread among the readers
abbrev pub reading_word : ℕ → ℕ → LockTurn
reading_word n word = cond (ltb word 65536) (cond (has word n) (Err Held) (Ok (with word n))) (Err Held)

-- GIVE: this thread is the writer, or one of the readers
abbrev pub giving_word : ℕ → ℕ → LockTurn
giving_word n word = cond (has word (16 + n)) (Ok 0) (cond (has word n) (Ok (minus word (one n))) (Err NotHeld))

-- a lock's word that can be stored
abbrev pub Storable : LockTurn → Type 0
Storable (Ok word) = word < 4294967296
Storable (Err why) = Unit {0}

-- a turn at lock k: the lock has the new word, and the thread goes on; or the step is refused, and nothing changes
abbrev pub Handed : LockTurn → ℕ → Place → ℕ → Move → Run.State → Run.State → Type 0
Handed (Ok word) k at locks r s s' = (r ≡ on at) × (s' ≡ put_lock locks s k word)
Handed (Err why) k at locks r s s' = (r ≡ Err why) × (s' ≡ s)

-- TAKE, TAKER or GIVE of the lock that handle h refers to, by what it does to the lock's word
abbrev pub Turned : (ℕ → ℕ → LockTurn) → ℕ → Place → ℕ → Move → Run.State → Run.State → Type 0
Turned turn h at locks r s s' =
    let k = get_or s.values (value_place at.slot h) 0 in
    Handed (turn at.thread (get_or (locks_in locks s) k 0)) k at locks r s s'
