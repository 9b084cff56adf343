-- Document 02, C-16, frames cannot run out: in every state that the machine reaches a thread has at most 32 frames, and no CALL finds 32 open. By ranks:
-- each frame keeps its own room, and a CALL takes one of it. Assumes nothing.
use Prim.Native.Nat.{ℕ, suc, ◌+◌, ◌≤◌, ◌<◌}
use Rattle.std.specs.Prelude.{◌≡◌, Bool, cond, eqb, ltb, ℤ, pos, length, set}
use Rattle.std.proofs.Math.Path.{refl, subst}
use Rattle.std.proofs.Common.{sym, arith}
use Rattle.std.proofs.Math.Bool.{true, false}
use mathlib.Core.List.{List, [], ◌∷◌, ◌++◌}
use Rattle.std.proofs.Math.ListN.{replicate}
use Rattle.table.specs.Table.{Table, statement, InRoutine}
use Rattle.table.specs.Accepted.{Accepted, GoesOn, Operands, Names}
use Rattle.table.specs.View.{no_arguments, view, On, calls}
use Rattle.table.proofs.ViewLaws.{calls_names}
use Rattle.table.specs.declared.Arguments.{Arguments}
use Rattle.table.specs.declared.Statement.{Statement}
use Rattle.table.specs.declared.Statement.TheVariants.{Read, Write, Set, Add, Take, Give, Point, Call, Start, Jump, JumpZero, Return, TakeRead}
use Rattle.machine.specs.State.{State, Frame, Thread, Holder, free, ended, thread, holder, refers, opened, start}
use Rattle.machine.specs.Step.{refused, Turn, passes, stops, taking, reading, giving, is_zero, going, goes_on, turned, operate, stepped, step, after, run}
use Rattle.machine.specs.Engine.{frame_slots, limit_of, engine_step, engine_run}
use Rattle.machine.proofs.EngineLaws.{unlimited, engine_runs_as_machine}
use Rattle.machine.specs.Words.{Next}
use Rattle.machine.proofs.Lists.{set_case, snoc_case}

-- the next statement of a thread with these frames is a CALL
abbrev pub CallNext : Table → List Frame → Type 0
CallNext t fs = Next t (λ f σ. On (calls (view σ)) (λ q. Unit {0})) fs

-- a frame with so many below it: it stands at a statement of its routine, whose rank, added to them, stays below the number of routines
pub record Room (t : Table) (below : ℕ) (f : Frame) : Type 0 where
  pub there : f.routine < length t.routines
  pub inside : InRoutine t f.routine f.next
  pub room : (accepted : Accepted t) → below + accepted.rank f.routine < length t.routines

-- each of a thread's frames, the newest first
abbrev pub Rooms : Table → List Frame → Type 0
Rooms t [] = Unit {0}
Rooms t (f ∷ older) = Room t (length older) f × Rooms t older

-- the invariant: each frame of each thread
pub record Bounded (t : Table) (state : State) : Type 0 where
  pub rooms : (n : ℕ) → Rooms t (thread state n).frames

module _ {t : Table} (accepted : Accepted t) where
  -- ---- what room gives

  rooms_most : (fs : List Frame) → Rooms t fs → length fs ≤ length t.routines
  rooms_most [] r = omega arith
  rooms_most (f ∷ older) r = omega (arith, r.0.room accepted)

  -- a routine that is named has a lower rank: there is room for a frame of it on top
  named_room : (f : Frame) (below q : ℕ) → Room t below f → Names (statement t f.next) q → (other : Accepted t) → suc below + other.rank q < length t.routines
  named_room f below q r e other = omega (arith, r.room other, other.rank_falls f.routine f.next q r.there r.inside e)

  calls_room : (fs : List Frame) → Rooms t fs → CallNext t fs → length fs < length t.routines
  calls_room [] r none = absurd none
  calls_room (f ∷ older) r (q, e, u) = omega (arith, named_room f (length older) q r.0 (calls_names (view (statement t f.next)) e) accepted)

  -- in such a state no thread has more frames than there is room for, and where a CALL is next there is room for one more
  pub frames_most : (state : State) → Bounded t state → (n : ℕ) → length (thread state n).frames ≤ frame_slots
  frames_most state b n = omega (arith, rooms_most (thread state n).frames (b.rooms n), accepted.routines_most)

  pub call_has_room : (state : State) → Bounded t state → (n : ℕ) → CallNext t (thread state n).frames
      → length (thread state n).frames < frame_slots
  call_has_room state b n call = omega (arith, calls_room (thread state n).frames (b.rooms n) call, accepted.routines_most)

  -- ---- a new frame

  opened_room : (q below : ℕ) (values : List ℕ) (arguments : Arguments) → q < length t.routines
      → ((other : Accepted t) → below + other.rank q < length t.routines) → Room t below (opened t q values arguments)
  unfolding opened
  opened_room q below values arguments low room =
      record { there = low; inside = record { low = omega arith; high = omega (arith, (accepted.routine_facts q low).some_statement) }; room = room }

  -- a thread more, which begins in a routine
  begun : (q : ℕ) (values : List ℕ) (arguments : Arguments) → q < length t.routines → (state : State) → Bounded t state
      → Bounded t (record { threads = state.threads ++ record { accumulator = pos 0; frames = opened t q values arguments ∷ [] } ∷ []; cells = state.cells; locks = state.locks })
  begun q values arguments low state b =
      record {
        rooms = λ m.
            snoc_case (λ (x : Thread). Rooms t x.frames) state.threads m (record { accumulator = pos 0; frames = opened t q values arguments ∷ [] }) ended
            (opened_room q 0 values arguments low (λ other. omega (arith, other.rank_below q low)), tt) (b.rooms m);
      }

  -- ---- one thread's step

  module _ (state : State) (b : Bounded t state) (n : ℕ) where
    kept : (th : Thread) (cells : List ℤ) (locks : List Holder) → Rooms t th.frames
        → Bounded t (record { threads = set state.threads n th; cells = cells; locks = locks })
    kept th cells locks r = record { rooms = λ m. set_case (λ (x : Thread). Rooms t x.frames) state.threads n m th ended (λ e. r) (b.rooms m) }

    module _ (a : ℤ) (f : Frame) (older : List Frame) (here : Room t (length older) f) (below : Rooms t older) where
      to : (s : ℕ) → InRoutine t f.routine s → Room t (length older) (going f s)
      to s i = record { there = here.there; inside = i; room = here.room }

      operands : (σ : Statement) → statement t f.next ≡ σ → Operands t f.routine σ
      operands σ e = subst (Operands t f.routine) e (accepted.operands f.routine f.next here.there here.inside)

      on : (σ : Statement) → statement t f.next ≡ σ → (view σ).onward ≡ true → Room t (length older) (going f (f.next + 1))
      on σ e o = to (f.next + 1) (subst (GoesOn t f.routine f.next) e (accepted.goes_on f.routine f.next here.there here.inside) o)

      went_on : (σ : Statement) → statement t f.next ≡ σ → (view σ).onward ≡ true → (z : ℤ) (cells : List ℤ) (locks : List Holder)
          → Bounded t (goes_on t state n a f older z cells locks)
      went_on σ e o z cells locks = kept (record { accumulator = z; frames = going f (f.next + 1) ∷ older }) cells locks (on σ e o, below)

      took_turn : (σ : Statement) → statement t f.next ≡ σ → (view σ).onward ≡ true → (k : ℕ) (turn : Turn) → Bounded t (after state (turned t state n a f older k turn))
      took_turn σ e o k (passes new) = went_on σ e o _ _ _
      took_turn σ e o k (stops number) = b

      operated : (σ : Statement) → statement t f.next ≡ σ → Bounded t (after state (operate t state n a f older σ))
      unfolding operate
      operated (Read h) e = went_on (Read h) e refl _ _ _
      operated (Write h) e = went_on (Write h) e refl _ _ _
      operated (Set z) e = went_on (Set z) e refl _ _ _
      operated (Add z) e = went_on (Add z) e refl _ _ _
      operated (Take h) e = took_turn (Take h) e refl (refers f h.number) (taking n (holder state (refers f h.number)))
      operated (Give h) e = took_turn (Give h) e refl (refers f h.number) (giving n (holder state (refers f h.number)))
      operated (Point h g) e =
          let r = on (Point h g) e refl in kept _ _ _ (record { there = r.there; inside = r.inside; room = r.room }, below)
      operated (Call q arguments) e =
          let named = subst (λ (σ : Statement). Names σ q) (sym e) refl in
          kept _ _ _
          (opened_room q (suc (length older)) f.values arguments ((operands (Call q arguments) e).passes q refl).there (named_room f (length older) q here named), (on (Call q arguments) e refl, below))
      operated (Start q arguments) e =
          begun q f.values arguments ((operands (Start q arguments) e).passes q refl).there (goes_on t state n a f older a state.cells state.locks)
          (went_on (Start q arguments) e refl a state.cells state.locks)
      operated (Jump s) e = kept _ _ _ (to s.statement ((operands (Jump s) e).target s.statement refl), below)
      operated (JumpZero s) e = kept _ _ _ (go (is_zero a), below)
        where
          go : (c : Bool) → Room t (length older) (going f (cond c s.statement (f.next + 1)))
          go true = to s.statement ((operands (JumpZero s) e).target s.statement refl)
          go false = on (JumpZero s) e refl
      operated Return e = kept _ _ _ below
      operated (TakeRead h) e = took_turn (TakeRead h) e refl (refers f h.number) (reading n (holder state (refers f h.number)))

    has_stepped : (a : ℤ) (fs : List Frame) → Rooms t fs → Bounded t (after state (stepped t state n a fs))
    unfolding stepped
    has_stepped a [] r = b
    has_stepped a (f ∷ older) r = operated a f older r.0 r.1 (statement t f.next) refl

    pub step_bounded : Bounded t (after state (step t state n))
    unfolding step
    step_bounded = go (ltb n (length state.threads))
      where
        go : (c : Bool) → Bounded t (after state (cond c (stepped t state n (thread state n).accumulator (thread state n).frames) (refused 14)))
        go true = has_stepped (thread state n).accumulator (thread state n).frames (b.rooms n)
        go false = b

    pub engine_step_bounded : Bounded t (after state (engine_step t state n))
    unfolding engine_step
    engine_step_bounded = go (eqb over 0)
      where
        over : ℕ
        over = limit_of t (length state.threads) (thread state n).frames

        go : (c : Bool) → Bounded t (after state (cond c (step t state n) (refused over)))
        go true = step_bounded
        go false = b

  -- ---- every state that is reached

  run_bounded : (ns : List ℕ) (state : State) → Bounded t state → Bounded t (run t state ns)
  unfolding run
  run_bounded [] state b = b
  run_bounded (n ∷ ns) state b = run_bounded ns (after state (step t state n)) (step_bounded state b n)

  pub start_bounded : Bounded t (start t)
  unfolding start
  start_bounded =
      begun 0 [] no_arguments (omega (arith, accepted.routines_some)) (record { threads = []; cells = replicate t.cells (pos 0); locks = replicate t.locks free })
      (record { rooms = λ n. tt })

  pub reached_bounded : (ns : List ℕ) → Bounded t (run t (start t) ns)
  reached_bounded ns = run_bounded ns (start t) start_bounded

  -- "32 frames always suffice": after every list of thread numbers, on the machine with no limit
  pub frames_suffice : (ns : List ℕ) (n : ℕ) → length (thread (run t (start t) ns) n).frames ≤ frame_slots
  frames_suffice ns n = frames_most (run t (start t) ns) (reached_bounded ns) n

  -- and no CALL finds 32 open, which document 01 answered 19
  pub no_call_finds_32 : (ns : List ℕ) (n : ℕ) → CallNext t (thread (run t (start t) ns) n).frames
      → length (thread (run t (start t) ns) n).frames < frame_slots
  no_call_finds_32 ns n call = call_has_room (run t (start t) ns) (reached_bounded ns) n call

  -- the same in every state that the engine reaches
  pub engine_frames_suffice : (ns : List ℕ) (n : ℕ) → length (thread (engine_run t (start t) ns) n).frames ≤ frame_slots
  engine_frames_suffice ns n = rw (engine_runs_as_machine t (start t) ns) (frames_suffice (unlimited t (start t) ns) n)
