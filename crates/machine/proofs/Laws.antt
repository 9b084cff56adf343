-- What single steps do to locks, threads and handles: document 01's refusals 14 to 17, and what TAKE, TAKER, GIVE, POINT, START and RETURN leave. Assumes nothing.
use Rattle.std.specs.Prelude.{ℕ, ◌+◌, ◌≤◌, ◌<◌, Bool, cond, ltb, ℤ, length, set}
use Rattle.std.proofs.Math.Path.{◌≡◌, refl, sym, ap}
use Rattle.std.proofs.Common.{◌∙◌, subst, length-append, length-set, get_or-set_other, le-ltb}
use Rattle.std.proofs.Math.Bool.{true, false}
use mathlib.Core.List.{List, [], ◌∷◌}
use Rattle.std.proofs.Math.IntN.{pos}
use Rattle.std.proofs.Math.Seq.{get_or-set_same, get_or_at}
use native.Mathlib.Omega.{arith}
use Rattle.table.specs.Table.{Table, statement}
use Rattle.table.specs.declared.Arguments.{Arguments}
use Rattle.table.specs.declared.Handle.{Handle}
use Rattle.table.specs.declared.Statement.{Statement}
use Rattle.table.specs.declared.Statement.TheVariants.{Read, Write, Set, Add, Take, Give, Point, Call, Start, Jump, JumpZero, Return, TakeRead}
use Rattle.machine.specs.State.{State, Frame, Holder, free, holds_in, ended, thread, holder, refers, opened}
use Rattle.machine.specs.Step.{Answer, moved, refused, Turn, passes, stops, taking, reading, giving, going, pointing, turned, operate, stepped, step, after}
use Rattle.machine.specs.Words.{HoldsIn, Holds}
use Rattle.machine.proofs.LockLaws.{Stops, OnPass, held_stops_taking, writer_stops_reading, own_hold_stops_reading, not_held_stops_giving}
use Rattle.machine.proofs.LockLaws.{taking_gets, reading_gets, giving_ends, taking_stops, reading_stops, giving_stops}

-- 14: a thread number that is not started is refused
pub not_started_refused : (t : Table) (state : State) (n : ℕ) → length state.threads ≤ n → step t state n ≡ refused 14
unfolding step
not_started_refused t state n h = rw (le-ltb n (length state.threads) h)

-- 15: a thread without frames is refused
pub ended_refused : (t : Table) (state : State) (n : ℕ) (a : ℤ) → stepped t state n a [] ≡ refused 15
unfolding stepped
ended_refused t state n a = refl

module _ (t : Table) (state : State) (n : ℕ) (a : ℤ) (f : Frame) (older : List Frame) where
  -- the lock that a handle refers to, and who holds it
  abbrev lock : Handle → ℕ
  lock h = refers f h.number

  abbrev who : Handle → Holder
  who h = holder state (lock h)

  -- 16: TAKE finds its lock held, for reading or writing, by this thread too
  pub held_lock_refuses_take : (h : Handle) (m : ℕ) → Holds state m (lock h) → operate t state n a f older (Take h) ≡ refused 16
  unfolding operate
  held_lock_refuses_take h m e = ap (turned t state n a f older (lock h)) (held_stops_taking n m (who h) e)

  pub own_lock_refuses_take : (h : Handle) → Holds state n (lock h) → operate t state n a f older (Take h) ≡ refused 16
  own_lock_refuses_take h e = held_lock_refuses_take h n e

  -- 16: TAKER finds its lock held for writing, or held by this thread in either way
  pub writer_refuses_taker : (h : Handle) (m : ℕ) → HoldsIn true state m (lock h) → operate t state n a f older (TakeRead h) ≡ refused 16
  unfolding operate
  writer_refuses_taker h m e = ap (turned t state n a f older (lock h)) (writer_stops_reading n m (who h) e)

  pub own_lock_refuses_taker : (h : Handle) → Holds state n (lock h) → operate t state n a f older (TakeRead h) ≡ refused 16
  unfolding operate
  own_lock_refuses_taker h e = ap (turned t state n a f older (lock h)) (own_hold_stops_reading n (who h) e)

  -- 17: GIVE finds its lock not held by this thread: free, or others hold it
  pub not_held_refuses_give : (h : Handle) → holds_in false (who h) n ≡ false → operate t state n a f older (Give h) ≡ refused 17
  unfolding operate
  not_held_refuses_give h e = ap (turned t state n a f older (lock h)) (not_held_stops_giving n (who h) e)

  -- START hands no lock to the new thread, and adds one thread
  pub start_keeps_locks : (r : ℕ) (arguments : Arguments) → (after state (operate t state n a f older (Start r arguments))).locks ≡ state.locks
  unfolding operate
  start_keeps_locks r arguments = refl

  pub start_adds_one : (r : ℕ) (arguments : Arguments)
      → length (after state (operate t state n a f older (Start r arguments))).threads ≡ length state.threads + 1
  unfolding operate
  start_adds_one r arguments = simp (length-append, length-set)

  -- "A new thread has accumulator 0 and takes the next thread number", and it stands in the routine's first frame
  pub start_begins : (r : ℕ) (arguments : Arguments)
      → thread (after state (operate t state n a f older (Start r arguments))) (length state.threads)
      ≡ record { accumulator = pos 0; frames = opened t r f.values arguments ∷ [] }
  unfolding operate
  start_begins r arguments =
      get_or_at (set state.threads n (record { accumulator = a; frames = going f (f.next + 1) ∷ older }))
      (record { accumulator = pos 0; frames = opened t r f.values arguments ∷ [] }) [] ended (length state.threads) (length-set state.threads n _)

  -- "closes the frame", and the accumulator is the thread's: a caller sees what the called routine left
  pub return_keeps_accumulator : n < length state.threads
      → thread (after state (operate t state n a f older Return)) n ≡ record { accumulator = a; frames = older }
  unfolding operate
  return_keeps_accumulator there = get_or-set_same state.threads n (record { accumulator = a; frames = older }) ended there

  -- POINT h g: "h refers to what g refers to", and every other handle to what it did
  pub point_refers : (h g : Handle) → n < length state.threads
      → thread (after state (operate t state n a f older (Point h g))) n
      ≡ record { accumulator = a; frames = pointing (going f (f.next + 1)) h.number (refers f g.number) ∷ older }
  unfolding operate
  point_refers h g there =
      get_or-set_same state.threads n (record { accumulator = a; frames = pointing (going f (f.next + 1)) h.number (refers f g.number) ∷ older }) ended there

  pub pointed_refers : (h x : ℕ) → h < length f.values → refers (pointing f h x) h ≡ x
  pointed_refers h x there = get_or-set_same f.values h x 0 there

  pub others_refer : (h x other : ℕ) → (other ≡ h → ⊥) → refers (pointing f h x) other ≡ refers f other
  others_refer h x other differ = get_or-set_other f.values h other x 0 differ

  -- what a turn that passes says of who holds the lock, a lock that is there, holds after it
  after_turn : (k : ℕ) (turn : Turn) (P : Holder → Type 0) → k < length state.locks → OnPass turn P
      → OnPass turn (λ new. P (holder (after state (turned t state n a f older k turn)) k))
  after_turn k (passes new) P there p = subst P (sym (get_or-set_same state.locks k new free there)) p
  after_turn k (stops number) P there p = tt

  -- a thread "holds a lock from the step by which it gets it": for writing by TAKE, and so in either way; for reading by TAKER
  pub take_gets : (h : Handle) → lock h < length state.locks
      → OnPass (taking n (who h)) (λ new. (w : Bool) → HoldsIn w (after state (operate t state n a f older (Take h))) n (lock h))
  unfolding operate
  take_gets h there = after_turn (lock h) (taking n (who h)) (λ new. (w : Bool) → holds_in w new n ≡ true) there (taking_gets n (who h))

  pub taker_gets : (h : Handle) → lock h < length state.locks
      → OnPass (reading n (who h)) (λ new. Holds (after state (operate t state n a f older (TakeRead h))) n (lock h))
  unfolding operate
  taker_gets h there = after_turn (lock h) (reading n (who h)) (λ new. holds_in false new n ≡ true) there (reading_gets n (who h))

  -- "to the step by which it gives it up": it holds the lock in no way then
  pub give_ends : (h : Handle) → lock h < length state.locks
      → OnPass (giving n (who h)) (λ new. (w : Bool) → HoldsIn w (after state (operate t state n a f older (Give h))) n (lock h) → ⊥)
  unfolding operate
  give_ends h there =
      after_turn (lock h) (giving n (who h)) (λ new. (w : Bool) → holds_in w new n ≡ true → ⊥) there
      (ends (giving n (who h)) (giving_ends n (who h)))
    where
      ends : (turn : Turn) → OnPass turn (λ new. (w : Bool) → holds_in w new n ≡ false) → OnPass turn (λ new. (w : Bool) → holds_in w new n ≡ true → ⊥)
      ends (passes new) e = λ w i. let z : true ≡ false = sym i ∙ e w in let y : ◌≡◌ {A = ℕ} 0 1 = cc in omega arith
      ends (stops number) e = tt

  -- "An ended thread keeps its locks"
  pub return_keeps_locks : (after state (operate t state n a f older Return)).locks ≡ state.locks
  unfolding operate
  return_keeps_locks = refl

-- ---- "it refuses a step for 14 to 17 alone"

abbrev pub Within : Answer → Type 0
Within (moved new) = Unit {0}
Within (refused number) = (14 ≤ number) × (number ≤ 17)

turned_within : (t : Table) (state : State) (n : ℕ) (a : ℤ) (f : Frame) (older : List Frame) (k number : ℕ) (turn : Turn) → 14 ≤ number → number ≤ 17
    → Stops number turn → Within (turned t state n a f older k turn)
turned_within t state n a f older k number (passes new) low high e = tt
turned_within t state n a f older k number (stops other) low high e = (omega arith, omega arith)

operate_within : (t : Table) (state : State) (n : ℕ) (a : ℤ) (f : Frame) (older : List Frame) (σ : Statement) → Within (operate t state n a f older σ)
unfolding operate
operate_within t state n a f older (Read h) = tt
operate_within t state n a f older (Write h) = tt
operate_within t state n a f older (Set number) = tt
operate_within t state n a f older (Add number) = tt
operate_within t state n a f older (Take h) =
    turned_within t state n a f older (refers f h.number) 16 (taking n (holder state (refers f h.number))) (omega arith) (omega arith)
    (taking_stops n (holder state (refers f h.number)))
operate_within t state n a f older (Give h) =
    turned_within t state n a f older (refers f h.number) 17 (giving n (holder state (refers f h.number))) (omega arith) (omega arith)
    (giving_stops n (holder state (refers f h.number)))
operate_within t state n a f older (Point h g) = tt
operate_within t state n a f older (Call r arguments) = tt
operate_within t state n a f older (Start r arguments) = tt
operate_within t state n a f older (Jump s) = tt
operate_within t state n a f older (JumpZero s) = tt
operate_within t state n a f older Return = tt
operate_within t state n a f older (TakeRead h) =
    turned_within t state n a f older (refers f h.number) 16 (reading n (holder state (refers f h.number))) (omega arith) (omega arith)
    (reading_stops n (holder state (refers f h.number)))

stepped_within : (t : Table) (state : State) (n : ℕ) (a : ℤ) (fs : List Frame) → Within (stepped t state n a fs)
unfolding stepped
stepped_within t state n a [] = (omega arith, omega arith)
stepped_within t state n a (f ∷ older) = operate_within t state n a f older (statement t f.next)

pub step_within : (t : Table) (state : State) (n : ℕ) → Within (step t state n)
unfolding step
step_within t state n = go (ltb n (length state.threads))
  where
    go : (b : Bool) → Within (cond b (stepped t state n (thread state n).accumulator (thread state n).frames) (refused 14))
    go true = stepped_within t state n (thread state n).accumulator (thread state n).frames
    go false = (omega arith, omega arith)
