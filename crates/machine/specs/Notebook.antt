-- What the machine's definitions compute: the notebook's entries about a step, and document 01's own table, which races. Assumes nothing.
use Rattle.std.specs.Prelude.{ℕ, ◌+◌, ◌*◌, ◌/◌, ◌%◌, ◌≡◌, refl, true, false, cond, ◌&&◌, List, [], ◌∷◌, map, eqb, ltb, ℤ, pos, negsuc, length, replicate}
use Rattle.std.proofs.Common.{inl, arith}
use Rattle.table.specs.Table.{Table}
use Rattle.table.specs.Tabulate.{tabulate_from, tabulate}
use Rattle.table.proofs.ViewLaws.{nothing_to}
use Rattle.table.specs.declared.Arguments.{Arguments}
use Rattle.table.specs.declared.Statement.{Statement}
use Rattle.table.specs.declared.Statement.TheVariants.{Read, Write, Set, Add, Take, Give, Call, Start, JumpZero, Return, TakeRead}
use Rattle.machine.specs.State.{State, Frame, Holder, writer, readers, free, thread, holder, start, opened, entered}
use Rattle.machine.specs.Step.{refused, saturate, step, after, run}
use Rattle.machine.specs.Engine.{frame_slots, engine_step, answer}
use Rattle.machine.specs.Words.{Safe}
use Rattle.machine.specs.Stretch.{cell, Gets, Keeps, StaysPut}

-- ---- one thread in one routine of the statements given, at the first of them

unfoldable pub alone : List Statement → Table
alone statements =
    record {
      cells = 1;
      locks = 1;
      handles = record { routine = 0; kind = 2; origin = 1; start = 0 } ∷ [];
      routines = record { first = 0; count = 3; handle = 0; handles = 1; parameters = 0 } ∷ [];
      statements = statements;
    }

-- the accumulator and the next statement after a step of thread 0 at the first statement with accumulator a
unfoldable pub after_one : List Statement → ℤ → ℤ × List ℕ
unfolding alone step
after_one statements a =
    let frame : Frame = record { routine = 0; next = 0; values = 0 ∷ [] } in
    let state : State = record { threads = record { accumulator = a; frames = frame ∷ [] } ∷ []; cells = pos 0 ∷ []; locks = free ∷ [] } in
    let new = thread (after state (step (alone statements) state 0)) 0 in
    (new.accumulator, nexts new.frames)
  where
    nexts : List Frame → List ℕ
    nexts [] = []
    nexts (f ∷ fs) = f.next ∷ nexts fs

-- the accumulator after ADD of a number
abbrev pub added : ℤ → ℤ → ℤ
added a number = (after_one (Add number ∷ Return ∷ []) a).0

-- "2,147,483,647 ADD 1 giving 2,147,483,647", and the same at the other end
pub add_stops : (added (pos 2147483647) (pos 1) ≡ pos 2147483647) × (added (negsuc 2147483647) (negsuc 0) ≡ negsuc 2147483647)
unfolding after_one saturate
add_stops = (refl, refl)

-- it stops there and no earlier
pub add_reaches_the_ends : (added (pos 2147483646) (pos 1) ≡ pos 2147483647) × (added (negsuc 2147483646) (negsuc 0) ≡ negsuc 2147483647)
unfolding after_one saturate
add_reaches_the_ends = (refl, refl)

-- and comes back
pub add_leaves_the_ends : (added (pos 2147483647) (negsuc 0) ≡ pos 2147483646) × (added (negsuc 2147483647) (pos 1) ≡ negsuc 2147483646)
unfolding after_one saturate
add_leaves_the_ends = (refl, refl)

-- "JUMPZ at 0 jumps, at -1 goes on"
pub zero_alone_jumps :
    ((after_one (JumpZero (record { statement = 2 }) ∷ Return ∷ Return ∷ []) (pos 0)).1 ≡ 2 ∷ [])
    × ((after_one (JumpZero (record { statement = 2 }) ∷ Return ∷ Return ∷ []) (negsuc 0)).1 ≡ 1 ∷ [])
unfolding after_one
zero_alone_jumps = (refl, refl)

-- "letting a thread pass its own lock twice": the second TAKE is refused
pub own_lock_stays_shut :
    let t = alone (Take (record { number = 0 }) ∷ Take (record { number = 0 }) ∷ Return ∷ []) in
    step t (run t (start t) (0 ∷ [])) 0 ≡ refused 16
unfolding alone run start opened entered tabulate_from tabulate
own_lock_stays_shut = refl

-- (b) of demand 3 says something: a thread that stands before a GIVE of a free lock is not safe
pub give_of_free_is_not_safe : let t = alone (Give (record { number = 0 }) ∷ Return ∷ Return ∷ []) in Safe t (start t) → ⊥
unfolding alone start opened entered tabulate_from tabulate
give_of_free_is_not_safe safe = let held_by_lem : false ≡ true = safe.no_stray 0 0 (0, refl, refl) in let z : ◌≡◌ {A = ℕ} 0 1 = cc in omega arith

-- ---- C-18: threads of one routine with one lock, thread n before the n-th of the statements that are numbered

abbrev take : Statement
take = Take (record { number = 0 })

abbrev taker : Statement
taker = TakeRead (record { number = 0 })

abbrev give : Statement
give = Give (record { number = 0 })

unfoldable pub standing : List ℕ → State
standing nexts =
    record {
      threads = map (λ (s : ℕ). record { accumulator = pos 0; frames = record { routine = 0; next = s; values = 0 ∷ [] } ∷ [] }) nexts;
      cells = pos 0 ∷ [];
      locks = free ∷ [];
    }

-- who holds the lock after the steps of these threads
unfoldable pub holder_after : List Statement → List ℕ → List ℕ → Holder
unfolding alone standing run
holder_after statements nexts ns = holder (run (alone statements) (standing nexts) ns) 0

-- what a step of thread n is answered with then
unfoldable pub answer_after : List Statement → List ℕ → List ℕ → ℕ → ℕ
unfolding alone standing run
answer_after statements nexts ns n = answer (step (alone statements) (run (alone statements) (standing nexts) ns) n)

-- "Display threads only read and should not wait for one another": two hold the lock for reading at once
pub two_readers_at_once : holder_after (taker ∷ Return ∷ []) (0 ∷ 0 ∷ []) (0 ∷ 1 ∷ []) ≡ readers (1 ∷ 0 ∷ [])
unfolding holder_after
two_readers_at_once = refl

-- TAKER "waits (16) while a thread holds the lock for writing": another, or this one
pub taker_waits_for_a_writer :
    (answer_after (take ∷ taker ∷ Return ∷ []) (0 ∷ 1 ∷ []) (0 ∷ []) 1 ≡ 16) × (answer_after (take ∷ taker ∷ Return ∷ []) (0 ∷ 1 ∷ []) (0 ∷ []) 0 ≡ 16)
unfolding answer_after
taker_waits_for_a_writer = (refl, refl)

-- "or this thread holds it at all": for reading too, beside another reader or alone
pub taker_waits_for_its_own_hold :
    (answer_after (taker ∷ taker ∷ Return ∷ []) (0 ∷ 0 ∷ []) (0 ∷ []) 0 ≡ 16) × (answer_after (taker ∷ taker ∷ Return ∷ []) (0 ∷ 0 ∷ []) (0 ∷ 1 ∷ []) 0 ≡ 16)
unfolding answer_after
taker_waits_for_its_own_hold = (refl, refl)

-- "TAKE waits while anybody holds it": another reader, or this thread, whose reading does not become writing
pub take_waits_for_a_reader :
    (answer_after (taker ∷ take ∷ Return ∷ []) (0 ∷ 1 ∷ []) (0 ∷ []) 1 ≡ 16) × (answer_after (taker ∷ take ∷ Return ∷ []) (0 ∷ 1 ∷ []) (0 ∷ []) 0 ≡ 16)
unfolding answer_after
take_waits_for_a_reader = (refl, refl)

-- "GIVE ends either hold": one reader's leaves the other's, the last one's and a writer's free the lock
pub give_ends_one_hold :
    (holder_after (taker ∷ give ∷ Return ∷ []) (0 ∷ 0 ∷ []) (0 ∷ 1 ∷ 0 ∷ []) ≡ readers (1 ∷ []))
    × (holder_after (taker ∷ give ∷ Return ∷ []) (0 ∷ 0 ∷ []) (0 ∷ 1 ∷ 0 ∷ 1 ∷ []) ≡ free)
    × (holder_after (take ∷ give ∷ Return ∷ []) (0 ∷ []) (0 ∷ 0 ∷ []) ≡ free)
unfolding holder_after
give_ends_one_hold = (refl, refl, refl)

-- 17: another thread's hold, for reading or writing, is not this one's to give
pub give_of_another_is_refused :
    (answer_after (taker ∷ give ∷ Return ∷ []) (0 ∷ 1 ∷ []) (0 ∷ []) 1 ≡ 17) × (answer_after (take ∷ give ∷ Return ∷ []) (0 ∷ 1 ∷ []) (0 ∷ []) 1 ≡ 17)
unfolding answer_after
give_of_another_is_refused = (refl, refl)

-- "An ended thread keeps its locks", those held for reading too: then TAKE waits, and of TAKER only where they are held for writing
pub ended_thread_keeps_both_kinds :
    (holder_after (taker ∷ Return ∷ take ∷ taker ∷ []) (0 ∷ 2 ∷ 3 ∷ []) (0 ∷ 0 ∷ 1 ∷ 2 ∷ []) ≡ readers (2 ∷ 0 ∷ []))
    × (holder_after (take ∷ Return ∷ take ∷ taker ∷ []) (0 ∷ 2 ∷ 3 ∷ []) (0 ∷ 0 ∷ 1 ∷ 2 ∷ []) ≡ writer 0)
unfolding holder_after
ended_thread_keeps_both_kinds = (refl, refl)

-- ---- document 01's own table

unfoldable pub example : Table
example =
    let none : Arguments = record { first = 0; second = 0; third = 0; fourth = 0 } in
    record {
      cells = 1;
      locks = 1;
      handles = record { routine = 0; kind = 1; origin = 1; start = 0 } ∷ record { routine = 1; kind = 1; origin = 1; start = 0 } ∷ [];
      routines = record { first = 0; count = 3; handle = 0; handles = 1; parameters = 0 }
          ∷ record { first = 3; count = 2; handle = 1; handles = 1; parameters = 0 }
          ∷ [];
      statements = Start 1 none ∷ Write (record { number = 0 }) ∷ Return ∷ Read (record { number = 1 }) ∷ Return ∷ [];
    }

-- after one step of thread 0 it stands before a WRITE of cell 0, and thread 1 before a READ of it
pub example_races : Safe example (run example (start example) (0 ∷ [])) → ⊥
unfolding example run start opened entered tabulate_from tabulate
example_races safe = safe.no_race 0 1 0 true false (omega arith) (0, refl, refl) (1, refl, refl) (inl refl)

-- ---- C-22: main STARTs a thread that WRITEs a value under the lock, takes the lock by `asking`, and READs the cell twice under it

unfoldable pub twice : Statement → ℕ → Table
twice asking value =
    let none : Arguments = record { first = 0; second = 0; third = 0; fourth = 0 } in
    let reading : Statement = Read (record { number = 1 }) in
    record {
      cells = 1;
      locks = 1;
      handles = record { routine = 0; kind = 2; origin = 1; start = 0 }
          ∷ record { routine = 0; kind = 1; origin = 1; start = 0 }
          ∷ record { routine = 1; kind = 2; origin = 1; start = 0 }
          ∷ record { routine = 1; kind = 1; origin = 1; start = 0 }
          ∷ [];
      routines = record { first = 0; count = 6; handle = 0; handles = 2; parameters = 0 }
          ∷ record { first = 6; count = 5; handle = 2; handles = 2; parameters = 0 }
          ∷ [];
      statements = Start 1 none ∷ asking ∷ reading ∷ reading ∷ give ∷ Return
          ∷ Take (record { number = 2 }) ∷ Set (pos value) ∷ Write (record { number = 3 }) ∷ Give (record { number = 2 }) ∷ Return ∷ [];
    }

-- the state after these steps
unfoldable pub twice_after : Statement → ℕ → List ℕ → State
unfolding twice run start opened entered tabulate_from tabulate
twice_after asking value ns = run (twice asking value) (start (twice asking value)) ns

-- "the step by which a thread gets that lock, for reading or writing": TAKE, and TAKER
pub both_get :
    Gets (twice take 5) (step (twice take 5)) 0 (twice_after take 5 (0 ∷ [])) 0 (twice_after take 5 (0 ∷ 0 ∷ []))
    × Gets (twice taker 5) (step (twice taker 5)) 0 (twice_after taker 5 (0 ∷ [])) 0 (twice_after taker 5 (0 ∷ 0 ∷ []))
unfolding twice_after
both_get = (record { stands = (0, refl, refl); runs = refl }, record { stands = (0, refl, refl); runs = refl })

-- "until it gives it up": the READs keep it, whatever the other thread tries; the GIVE does not
pub keeps_until_give :
    Keeps (twice taker 5) (step (twice taker 5)) 0 0 (twice_after taker 5 (0 ∷ 0 ∷ [])) (1 ∷ 0 ∷ 1 ∷ 0 ∷ [])
    × (Keeps (twice taker 5) (step (twice taker 5)) 0 0 (twice_after taker 5 (0 ∷ 0 ∷ [])) (0 ∷ 0 ∷ 0 ∷ []) → ⊥)
unfolding twice_after
keeps_until_give = (
  ((λ e (h, is, at). nothing_to is), ((λ e (h, is, at). nothing_to is), ((λ e (h, is, at). nothing_to is), ((λ e (h, is, at). nothing_to is), tt)))),
  λ keeps. keeps.1.1.0 refl (0, refl, refl),
)

one_is_not_0 : ◌≡◌ {A = ℕ} 1 0 → ⊥
one_is_not_0 e = omega arith

-- behind the GIVE the other thread's steps do change the cell
pub changes_behind_give :
    (StaysPut (twice taker 5) (step (twice taker 5)) 0 0 (twice_after taker 5 (0 ∷ 0 ∷ 0 ∷ 0 ∷ 0 ∷ [])) (1 ∷ 1 ∷ 1 ∷ []) → ⊥)
    × (cell (twice_after taker 5 (0 ∷ 0 ∷ 0 ∷ 0 ∷ 0 ∷ 1 ∷ 1 ∷ 1 ∷ [])) 0 ≡ pos 5)
unfolding twice_after
changes_behind_give = ((λ put. (put.1.1.0 one_is_not_0).1 (3, refl, refl)), refl)

-- a WRITE of the value that is there counts as a change, too
pub same_value_counts :
    (StaysPut (twice taker 0) (step (twice taker 0)) 0 0 (twice_after taker 0 (0 ∷ 0 ∷ 0 ∷ 0 ∷ 0 ∷ [])) (1 ∷ 1 ∷ 1 ∷ []) → ⊥)
    × (cell (twice_after taker 0 (0 ∷ 0 ∷ 0 ∷ 0 ∷ 0 ∷ 1 ∷ 1 ∷ 1 ∷ [])) 0 ≡ pos 0)
unfolding twice_after
same_value_counts = ((λ put. (put.1.1.0 one_is_not_0).1 (3, refl, refl)), refl)

-- ---- a chain of 32 routines, each of which CALLs the next

unfoldable pub chain : Table
chain =
    let none : Arguments = record { first = 0; second = 0; third = 0; fourth = 0 } in
    record {
      cells = 1;
      locks = 0;
      handles = [];
      routines = tabulate 32 (λ r. record { first = 2 * r; count = 2; handle = 0; handles = 0; parameters = 0 });
      statements = tabulate 64 (λ s. cond (eqb (s % 2) 0 && ltb s 62) (Call (s / 2 + 1) none) Return);
    }

-- "32 frames always suffice", and no fewer: thread 0 has 32 open after 31 steps
pub chain_is_32_deep : length (thread (run chain (start chain) (replicate 31 0)) 0).frames ≡ frame_slots
unfolding chain run start opened entered tabulate_from tabulate
chain_is_32_deep = refl

-- no step of the engine looks at the frames: a CALL that found 32 open, as none ever does, would run
pub no_limit_on_frames :
    let frame : Frame = record { routine = 0; next = 0; values = [] } in
    let full : State = record { threads = record { accumulator = pos 0; frames = replicate 32 frame } ∷ []; cells = pos 0 ∷ []; locks = [] } in
    answer (engine_step chain full 0) ≡ 0
unfolding chain engine_step tabulate_from tabulate
no_limit_on_frames = refl
