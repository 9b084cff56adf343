-- Each operation on the arrays is the engine's step. Assumes nothing.
use Prim.Native.Nat.{ℕ, suc, ◌+◌, ◌-◌, ◌*◌, ◌<◌, ◌≤◌}
use Rattle.std.specs.Prelude.{◌≡◌, false, cond, eqb, ℤ, ◌+ℤ◌, Ok, Err}
use Rattle.std.proofs.Math.Path.{refl, ap, ap₂, subst}
use Rattle.std.proofs.Common.{sym, ◌∙◌}
use mathlib.Core.List.{List, [], ◌∷◌}
use native.Mathlib.Omega.{arith}
use Rattle.std.proofs.Math.Decide.{ℕ_discrete}
use borrow.Author.Tests.{lt-ltb, le-ltb, le-leb, lt-leb}
use Rattle.std.proofs.Math.IntN.{pos}
use Rattle.std.proofs.Math.ListN.{length, get_or, set, length-set, get_or-eq_default}
use Rattle.std.proofs.Math.Seq.{get_or-set_same, get_or-set_other}
use Rattle.std.proofs.lemmas.List.{set_comm}
use Rattle.std.proofs.lemmas.Result.{MatchResult-at_ok, MatchResult-at_err}
use Rattle.table.specs.Table.{Table, routine, statement, passed, OwnHandle}
use Rattle.table.specs.Accepted.{Accepted, Operands, Passes}
use Rattle.table.specs.View.{view, calls}
use Rattle.table.specs.declared.Arguments.{Arguments}
use Rattle.table.specs.declared.Handle.{Handle}
use Rattle.table.specs.declared.Target.{Target}
use Rattle.table.specs.declared.Statement.{Statement}
use Rattle.table.specs.declared.Statement.TheVariants.{Read, Write, Set, Add, Take, Give, Point, Call, Start, Jump, JumpZero, Return, TakeRead}
use Rattle.machine.specs.State.{State, Frame, Holder, ended, thread, holder, refers, opened}
use Rattle.machine.specs.Step.{moved, refused, Turn, passes, stops, saturate, is_zero, going, pointing, with_thread, turned, operate, stepped, step}
use Rattle.machine.specs.Engine.{frame_slots, limit, engine_step}
use Rattle.machine.proofs.LockLaws.{OnPass, Stops}
use Rattle.machine.proofs.FrameLaws.{CallNext, Room, Rooms, call_has_room, engine_step_bounded}
use Rattle.operations.specs.declared.Stop.{Stop}
use Rattle.operations.specs.declared.Stop.TheVariants.{Full}
use Rattle.operations.specs.declared.TurnedDown.TheVariants.{NotStarted, Ended, Stopped}
use Rattle.operations.specs.Step.{stop_number, step_of}
use Rattle.locks.specs.Turns.{LockTurn, taking_word, reading_word, giving_word}
use Rattle.locks.specs.TurnLaws.{turn_word, by_number, InWords, take_in_words, read_in_words, give_in_words}
use Rattle.run_state.specs.Shown.{Arrays, arrays, value_place, word_of, Low, ShowsFrame, ShowsFrames, Lengths, ShowsLocks, Shows, ShowsBounded, Entered}
use Rattle.run_state.specs.ShownLaws.{Kept, kept_both, kept_next, kept_value, kept_entered, frame_kept, frames_kept, one_thread, added, own_apart, opened_shown}
use Rattle.run_state.specs.LockWordLaws.{word_at, locks_set}
use Rattle.steps.specs.Stepped.{Stepped}

-- ---- the newest frame of a thread

pub record Top (t : Table) (a : Arrays) (state : State) (n slot : ℕ) : Type 0 where
  pub f : Frame
  pub older : List Frame
  pub is : (thread state n).frames ≡ f ∷ older
  pub slot_is : slot ≡ n * 32 + length older
  pub count_is : get_or a.counts n 0 ≡ suc (length older)
  pub few : length older < frame_slots
  pub room : Room t (length older) f
  pub shown : ShowsFrame t a.nexts a.values slot f
  pub rest : ShowsFrames t a.nexts a.values (n * 32) older
  pub accumulator_is : get_or a.accumulators n (pos 0) ≡ (thread state n).accumulator

pub top : (t : Table) (a : Arrays) (state : State) (n slot : ℕ) → ShowsBounded t a state → n < a.started → 0 < get_or a.counts n 0
    → slot + 1 ≡ n * 32 + get_or a.counts n 0 → Top t a state n slot
top t a state n slot s low some e = go (thread state n).frames refl
  where
    go : (fs : List Frame) → (thread state n).frames ≡ fs → Top t a state n slot
    go [] q = let c = (s.shows.thread_is n low).count_is in let z = ap length q in absurd (omega arith)
    go (f ∷ older) q =
        let th = s.shows.thread_is n low in
        let all : ShowsFrames t a.nexts a.values (n * 32) (f ∷ older) = subst (λ (fs : List Frame). ShowsFrames t a.nexts a.values (n * 32) fs) q th.frames in
        let c : get_or a.counts n 0 ≡ suc (length older) = th.count_is ∙ ap length q in
        let is : slot ≡ n * 32 + length older = omega arith in
        record {
          f = f;
          older = older;
          is = q;
          slot_is = is;
          count_is = c;
          few = omega (arith, th.few);
          room = (subst (Rooms t) q (s.bounded.rooms n)).0;
          shown = subst (λ (i : ℕ). ShowsFrame t a.nexts a.values i f) (sym is) all.0;
          rest = all.1;
          accumulator_is = th.accumulator_is;
        }

-- a thread, a slot and a statement within the limits of a run, as a `Place` has them
pub record Placed (thread slot next : ℕ) : Type 0 where
  pub thread_low : thread < 16
  pub slot_low : slot < 512
  pub next_low : next < 512

-- ---- 14 and 15

pub not_started : (t : Table) (a : Arrays) (state : State) (n : ℕ) → ShowsBounded t a state → a.started ≤ n → Stepped t a state n (Err NotStarted)
unfolding step_of engine_step step
not_started t a state n s l =
    let none : thread state n ≡ ended = get_or-eq_default state.threads ended {n = n} (omega (arith, s.shows.started_is)) in
    let past = le-ltb n (length state.threads) (omega (arith, s.shows.started_is)) in
    record { answered = rw (none, past); shows = rw (none, past) s }

pub has_ended : (t : Table) (a : Arrays) (state : State) (n : ℕ) → ShowsBounded t a state → n < a.started → get_or a.counts n 0 ≡ 0 → Stepped t a state n (Err Ended)
unfolding step_of engine_step step stepped
has_ended t a state n s l c =
    let none : (thread state n).frames ≡ [] = empty (thread state n).frames (sym (s.shows.thread_is n l).count_is ∙ c) in
    let there = lt-ltb n (length state.threads) (omega (arith, s.shows.started_is)) in
    record { answered = rw (none, there); shows = rw (none, there) s }
  where
    empty : (fs : List Frame) → length fs ≡ 0 → fs ≡ []
    empty [] e = refl
    empty (f ∷ fs) e = absurd (omega arith)

-- a thread's accumulator is b afterwards, and the others' are as they were
pub record Accumulated (old new : List ℤ) (n : ℕ) (b : ℤ) : Type 0 where
  pub long : length new ≡ length old
  pub own : get_or new n (pos 0) ≡ b
  pub other : (m : ℕ) → (m ≡ n → ⊥) → get_or new m (pos 0) ≡ get_or old m (pos 0)

-- a turn of thread n at lock k, by what it does to the lock's word: the lock has the new one, and the thread goes on; or the step is refused
abbrev pub AtLock : Table → Arrays → State → ℕ → ℕ → ℕ → ℕ → Statement → LockTurn → Type 0
AtLock t a state n slot next k σ (Ok word) =
    Stepped t (arrays a.started (set a.nexts slot (next + 1)) a.values a.counts a.accumulators (set a.locks k word) a.cells) state n (Ok σ)
AtLock t a state n slot next k σ (Err why) = Stepped t a state n (Err (Stopped σ why))

module _ (t : Table) (accepted : Accepted t) (a : Arrays) (state : State) (n slot : ℕ) (whole : ShowsBounded t a state) (low : n < a.started) (p : Top t a state n slot) where
  abbrev s : Shows t a state
  s = whole.shows

  pub placed : Placed n slot p.f.next
  placed =
      let facts = accepted.routine_facts p.f.routine p.room.there in
      record {
        thread_low = omega (arith, s.most);
        slot_low = omega (arith, s.most, p.slot_is, p.few);
        next_low = omega (arith, p.room.inside.high, facts.statements_there, accepted.statements_most);
      }

  -- ---- the engine's step by the statement

  by_operation : (σ : Statement) → statement t p.f.next ≡ σ → limit (length state.threads) σ ≡ 0
      → engine_step t state n ≡ operate t state n (thread state n).accumulator p.f p.older σ
  unfolding engine_step step stepped
  by_operation σ e l = rw (p.is, e, l, lt-ltb n (length state.threads) (omega (arith, s.started_is)))

  ran : (new : Arrays) (σ : Statement) (new_state : State) → statement t p.f.next ≡ σ → limit (length state.threads) σ ≡ 0
      → operate t state n (thread state n).accumulator p.f p.older σ ≡ moved new_state → Shows t new new_state → Stepped t new state n (Ok σ)
  unfolding step_of
  ran new σ new_state e l m shows =
      let w : engine_step t state n ≡ moved new_state = by_operation σ e l ∙ m in
      record { answered = rw (w, p.is, e); shows = record { shows = rw w shows; bounded = engine_step_bounded accepted state whole.bounded n } }

  turned_down_lem : (σ : Statement) (number : ℕ) (why : Stop) → stop_number why ≡ number → statement t p.f.next ≡ σ → engine_step t state n ≡ refused number
      → eqb number 0 ≡ false → Stepped t a state n (Err (Stopped σ why))
  unfolding step_of
  turned_down_lem σ number why q e w some = record { answered = rw (w, p.is, e, some, q); shows = rw w whole }

  -- ---- the thread goes to statement x

  own_slot : (m i : ℕ) → (m ≡ n → ⊥) → m * 32 ≤ i → i < m * 32 + 32 → i ≡ slot → ⊥
  own_slot m i apart l u e = omega (arith, p.slot_is, p.few, apart)

  lengths_next : (x : ℕ) (values : List ℕ) (counts : List ℕ) (accumulators : List ℤ) (locks : List ℕ) (cells : List ℤ) → length values ≡ length a.values
      → length counts ≡ length a.counts → length accumulators ≡ length a.accumulators → length cells ≡ length a.cells
      → Lengths t (arrays a.started (set a.nexts slot x) values counts accumulators locks cells)
  lengths_next x values counts accumulators locks cells v c k z =
      record {
        nexts = length-set a.nexts slot x ∙ s.lengths.nexts;
        values = v ∙ s.lengths.values;
        counts = c ∙ s.lengths.counts;
        accumulators = k ∙ s.lengths.accumulators;
        cells = z ∙ s.lengths.cells;
      }

  going_shown : (x : ℕ) → ShowsFrame t (set a.nexts slot x) a.values slot (going p.f x)
  going_shown x =
      record {
        next_is = get_or-set_same a.nexts slot x 0 (omega (arith, s.lengths.nexts, s.most, p.slot_is, p.few));
        long = p.shown.long;
        value_is = p.shown.value_is;
      }

  rest_kept : (nexts values : List ℕ) → Kept a.nexts nexts a.values values (n * 32) slot → ShowsFrames t nexts values (n * 32) p.older
  rest_kept nexts values k = frames_kept t a.nexts nexts a.values values (n * 32) slot p.older p.rest k (omega (arith, p.slot_is))

  pub goes : (x : ℕ) (b : ℤ) (accumulators : List ℤ) (locks : List ℕ) (cells new_cells : List ℤ) (new_locks : List Holder)
      → Accumulated a.accumulators accumulators n b → length cells ≡ length a.cells → new_cells ≡ cells → ShowsLocks locks new_locks
      → Shows t (arrays a.started (set a.nexts slot x) a.values a.counts accumulators locks cells)
      (with_thread state n b (going p.f x ∷ p.older) new_cells new_locks)
  goes x b accumulators locks cells new_cells new_locks k z c l =
      one_thread t a (arrays a.started (set a.nexts slot x) a.values a.counts accumulators locks cells) n
      (record {
        lengths = lengths_next x a.values a.counts accumulators locks cells refl refl k.long z;
        slots = λ m apart. kept_next a.nexts a.values slot x (m * 32) (m * 32 + 32) (λ i v w. own_slot m i apart v w);
        counts = λ m apart. refl;
        accumulators = k.other;
      })
      state (record { accumulator = b; frames = going p.f x ∷ p.older }) new_cells new_locks s low refl
      (record {
        count_is = p.count_is;
        few = omega (arith, p.count_is, p.few);
        accumulator_is = k.own;
        frames = (
          subst (λ (i : ℕ). ShowsFrame t (set a.nexts slot x) a.values i (going p.f x)) p.slot_is (going_shown x),
          rest_kept (set a.nexts slot x) a.values (kept_next a.nexts a.values slot x (n * 32) slot (λ i v w e. omega arith)),
        );
      })
      c l

  -- "32 frames always suffice": before a CALL there is a slot for one more
  pub call_room : (q : ℕ) (arguments : Arguments) → statement t p.f.next ≡ Call q arguments → get_or a.counts n 0 < frame_slots
  call_room q arguments e =
      let call : CallNext t (thread state n).frames = subst (CallNext t) (sym p.is) (q, ap (λ (σ : Statement). calls (view σ)) e, tt) in
      omega (arith, p.count_is, ap length p.is, call_has_room accepted state whole.bounded n call)

  -- ---- the engine's own limit

  limited : (σ : Statement) (number : ℕ) → statement t p.f.next ≡ σ → limit (length state.threads) σ ≡ number → eqb number 0 ≡ false
      → engine_step t state n ≡ refused number
  unfolding engine_step
  limited σ number e l some = rw (p.is, e, l, some)

  own_value : (h : ℕ) → OwnHandle t p.f.routine h → get_or a.values (value_place slot h) 0 ≡ refers p.f h
  own_value h o = p.shown.value_is h o

  accumulated_set : (x b : ℤ) → x ≡ b → Accumulated a.accumulators (set a.accumulators n x) n b
  accumulated_set x b e =
      record {
        long = length-set a.accumulators n x;
        own = get_or-set_same a.accumulators n x (pos 0) (omega (arith, s.lengths.accumulators, s.most)) ∙ e;
        other = λ m apart. get_or-set_other a.accumulators n m x (pos 0) apart;
      }

  accumulated_same : Accumulated a.accumulators a.accumulators n (thread state n).accumulator
  accumulated_same = record { long = refl; own = p.accumulator_is; other = λ m apart. refl }

  -- ---- the operations that change no frame but the next statement

  module _ (next : ℕ) (next_is : next ≡ p.f.next) where
    operands_of : (σ : Statement) → statement t p.f.next ≡ σ → Operands t p.f.routine σ
    operands_of σ e = subst (λ (τ : Statement). Operands t p.f.routine τ) e (accepted.operands p.f.routine p.f.next p.room.there p.room.inside)

    on : set a.nexts slot (next + 1) ≡ set a.nexts slot (p.f.next + 1)
    on = ap (λ (i : ℕ). set a.nexts slot (i + 1)) next_is

    pub read_step : (h : Handle) → statement t p.f.next ≡ Read h
        → Stepped t
        (arrays a.started (set a.nexts slot (next + 1)) a.values a.counts
        (set a.accumulators n (get_or a.cells (get_or a.values (value_place slot h.number) 0) (pos 0))) a.locks a.cells)
        state n (Ok (Read h))
    unfolding operate
    read_step h e =
        rw on
        (ran _ (Read h) _ e refl refl
        (goes (p.f.next + 1) _ _ a.locks a.cells state.cells state.locks
        (accumulated_set _ _ (ap₂ (λ (l : List ℤ) (i : ℕ). get_or l i (pos 0)) (sym s.cells_are) (own_value h.number ((operands_of (Read h) e).reads h.number refl).own)))
        refl s.cells_are s.locks_are))

    pub write_step : (h : Handle) → statement t p.f.next ≡ Write h
        → Stepped t
        (arrays a.started (set a.nexts slot (next + 1)) a.values a.counts a.accumulators a.locks
        (set a.cells (get_or a.values (value_place slot h.number) 0) (get_or a.accumulators n (pos 0))))
        state n (Ok (Write h))
    unfolding operate
    write_step h e =
        rw on
        (ran _ (Write h) _ e refl refl
        (goes (p.f.next + 1) _ a.accumulators a.locks _ _ state.locks accumulated_same
        (length-set a.cells (get_or a.values (value_place slot h.number) 0) (get_or a.accumulators n (pos 0)))
        (rw (s.cells_are, own_value h.number ((operands_of (Write h) e).writes h.number refl).own, p.accumulator_is))
        s.locks_are))

    pub set_step : (number : ℤ) → statement t p.f.next ≡ Set number
        → Stepped t (arrays a.started (set a.nexts slot (next + 1)) a.values a.counts (set a.accumulators n number) a.locks a.cells) state n (Ok (Set number))
    unfolding operate
    set_step number e =
        rw on
        (ran _ (Set number) _ e refl refl
        (goes (p.f.next + 1) _ _ a.locks a.cells state.cells state.locks (accumulated_set _ _ refl) refl s.cells_are s.locks_are))

    pub add_step : (number : ℤ) → statement t p.f.next ≡ Add number
        → Stepped t
        (arrays a.started (set a.nexts slot (next + 1)) a.values a.counts
        (set a.accumulators n (saturate (get_or a.accumulators n (pos 0) +ℤ number))) a.locks a.cells)
        state n (Ok (Add number))
    unfolding operate
    add_step number e =
        rw on
        (ran _ (Add number) _ e refl refl
        (goes (p.f.next + 1) _ _ a.locks a.cells state.cells state.locks
        (accumulated_set _ _ (ap (λ (z : ℤ). saturate (z +ℤ number)) p.accumulator_is)) refl s.cells_are s.locks_are))

    pub jump_step : (target : Target) → statement t p.f.next ≡ Jump target
        → Stepped t (arrays a.started (set a.nexts slot target.statement) a.values a.counts a.accumulators a.locks a.cells) state n (Ok (Jump target))
    unfolding operate
    jump_step target e =
        ran _ (Jump target) _ e refl refl
        (goes target.statement _ a.accumulators a.locks a.cells state.cells state.locks accumulated_same refl s.cells_are s.locks_are)

    pub jump_zero_step : (target : Target) → statement t p.f.next ≡ JumpZero target
        → Stepped t
        (arrays a.started (set a.nexts slot (cond (is_zero (get_or a.accumulators n (pos 0))) target.statement (next + 1))) a.values a.counts a.accumulators a.locks a.cells)
        state n (Ok (JumpZero target))
    unfolding operate
    jump_zero_step target e =
        rw there
        (ran _ (JumpZero target) _ e refl refl
        (goes (cond (is_zero (thread state n).accumulator) target.statement (p.f.next + 1)) _ a.accumulators a.locks a.cells state.cells state.locks
        accumulated_same refl s.cells_are s.locks_are))
      where
        there : set a.nexts slot (cond (is_zero (get_or a.accumulators n (pos 0))) target.statement (next + 1))
            ≡ set a.nexts slot (cond (is_zero (thread state n).accumulator) target.statement (p.f.next + 1))
        there = ap₂ (λ (z : ℤ) (i : ℕ). set a.nexts slot (cond (is_zero z) target.statement (i + 1))) p.accumulator_is next_is

    -- RETURN: the frame is no longer counted
    pub return_step : statement t p.f.next ≡ Return
        → Stepped t (arrays a.started a.nexts a.values (set a.counts n (get_or a.counts n 0 - 1)) a.accumulators a.locks a.cells) state n (Ok Return)
    unfolding operate
    return_step e =
        ran _ Return _ e refl refl
        (one_thread t a (arrays a.started a.nexts a.values (set a.counts n (get_or a.counts n 0 - 1)) a.accumulators a.locks a.cells) n
        (record {
          lengths =
              record {
                nexts = s.lengths.nexts;
                values = s.lengths.values;
                counts = length-set a.counts n (get_or a.counts n 0 - 1) ∙ s.lengths.counts;
                accumulators = s.lengths.accumulators;
                cells = s.lengths.cells;
              };
          slots = λ m apart. record { nexts_kept = λ i v w. refl; values_kept = λ i j v w k. refl };
          counts = λ m apart. get_or-set_other a.counts n m (get_or a.counts n 0 - 1) 0 apart;
          accumulators = λ m apart. refl;
        })
        state (record { accumulator = (thread state n).accumulator; frames = p.older }) state.cells state.locks s low refl
        (let c : get_or (set a.counts n (get_or a.counts n 0 - 1)) n 0 ≡ length p.older =
        get_or-set_same a.counts n (get_or a.counts n 0 - 1) 0 (omega (arith, s.lengths.counts, s.most)) ∙ ap (λ (i : ℕ). i - 1) p.count_is ∙ omega arith in
        record { count_is = c; few = omega (arith, c, p.few); accumulator_is = p.accumulator_is; frames = p.rest })
        s.cells_are s.locks_are)

    -- ---- TAKE, TAKER and GIVE

    -- what the operation does to the lock's word, it does to who holds the lock
    lock_step : {number : ℕ} {turn : ℕ → Holder → Turn} {word : ℕ → ℕ → LockTurn} → InWords number turn word → eqb number 0 ≡ false → (h : ℕ) (σ : Statement)
        → statement t p.f.next ≡ σ → OwnHandle t p.f.routine h → limit (length state.threads) σ ≡ 0
        → operate t state n (thread state n).accumulator p.f p.older σ
        ≡ turned t state n (thread state n).accumulator p.f p.older (refers p.f h) (turn n (holder state (refers p.f h)))
        → AtLock t a state n slot next (get_or a.values (value_place slot h) 0) σ (word n (get_or a.locks (get_or a.values (value_place slot h) 0) 0))
    lock_step {number} {turn} {word} w some h σ e own free does =
        let low16 : n < 16 = omega (arith, s.most) in
        let k = refers p.f h in
        let who = holder state k in
        rw (own_value h own, word_at a.locks state.locks s.locks_are k)
        (by (turn n who) (word n (word_of who)) (w.shown n who low16 (s.locks_are.low k)) does (w.refusal n who) (w.low n who low16 (s.locks_are.low k)))
      where
        by : (x : Turn) (y : LockTurn) → by_number y ≡ turn_word x
            → operate t state n (thread state n).accumulator p.f p.older σ ≡ turned t state n (thread state n).accumulator p.f p.older (refers p.f h) x
            → Stops number x → OnPass x Low → AtLock t a state n slot next (refers p.f h) σ y
        by (passes new) (Ok made) q o r l =
            rw (on, MatchResult-at_ok (λ v. made ≡ v) (λ v. Unit {0}) _ q refl)
            (ran _ σ _ e free o
            (goes (p.f.next + 1) _ a.accumulators _ a.cells state.cells _ accumulated_same refl s.cells_are
            (locks_set a.locks state.locks s.locks_are (refers p.f h) new l)))
        by (passes new) (Err why) q o r l = absurd (MatchResult-at_ok (λ v. ⊥) (λ v. Unit {0}) _ q tt)
        by (stops m) (Ok made) q o r l = absurd (MatchResult-at_err (λ v. Unit {0}) (λ v. ⊥) _ q tt)
        by (stops m) (Err why) q o r l =
            turned_down_lem σ m why (MatchResult-at_err (λ v. Unit {0}) (λ v. stop_number why ≡ v) _ q refl) e (by_operation σ e free ∙ o) (rw r some)

    module _ (h : Handle) where
      abbrev lock : ℕ
      lock = get_or a.values (value_place slot h.number) 0

      pub take_step : statement t p.f.next ≡ Take h → AtLock t a state n slot next lock (Take h) (taking_word n (get_or a.locks lock 0))
      unfolding operate
      take_step e = lock_step take_in_words refl h.number (Take h) e ((operands_of (Take h) e).takes h.number refl).own refl refl

      pub take_read_step : statement t p.f.next ≡ TakeRead h → AtLock t a state n slot next lock (TakeRead h) (reading_word n (get_or a.locks lock 0))
      unfolding operate
      take_read_step e = lock_step read_in_words refl h.number (TakeRead h) e ((operands_of (TakeRead h) e).takes h.number refl).own refl refl

      pub give_step : statement t p.f.next ≡ Give h → AtLock t a state n slot next lock (Give h) (giving_word n (get_or a.locks lock 0))
      unfolding operate
      give_step e = lock_step give_in_words refl h.number (Give h) e ((operands_of (Give h) e).gives h.number refl).own refl refl

    -- ---- POINT

    pub point_step : (h g : Handle) → statement t p.f.next ≡ Point h g
        → Stepped t
        (arrays a.started (set a.nexts slot (next + 1)) (set a.values (value_place slot h.number) (get_or a.values (value_place slot g.number) 0)) a.counts a.accumulators a.locks a.cells) state n (Ok (Point h g))
    unfolding operate
    point_step h g e =
        rw on
        (ran _ (Point h g) _ e refl refl
        (one_thread t a (arrays a.started nexts' values' a.counts a.accumulators a.locks a.cells) n
        (record {
          lengths = lengths_next (p.f.next + 1) values' a.counts a.accumulators a.locks a.cells (length-set a.values (value_place slot h.number) to) refl refl refl;
          slots = λ m apart. kept (m * 32) (m * 32 + 32) (λ i v w. own_slot m i apart v w);
          counts = λ m apart. refl;
          accumulators = λ m apart. refl;
        })
        state (record { accumulator = (thread state n).accumulator; frames = pointed ∷ p.older }) state.cells state.locks s low refl
        (record {
          count_is = p.count_is;
          few = omega (arith, p.count_is, p.few);
          accumulator_is = p.accumulator_is;
          frames = (subst (λ (i : ℕ). ShowsFrame t nexts' values' i pointed) p.slot_is shown, rest_kept nexts' values' (kept (n * 32) slot (λ i v w q. omega arith)));
        })
        s.cells_are s.locks_are))
      where
        to : ℕ
        to = get_or a.values (value_place slot g.number) 0

        nexts' : List ℕ
        nexts' = set a.nexts slot (p.f.next + 1)

        values' : List ℕ
        values' = set a.values (value_place slot h.number) to

        pointed : Frame
        pointed = pointing (going p.f (p.f.next + 1)) h.number (refers p.f g.number)

        kept : (from high : ℕ) → ((i : ℕ) → from ≤ i → i < high → i ≡ slot → ⊥) → Kept a.nexts nexts' a.values values' from high
        kept from high out =
            kept_both a.nexts nexts' nexts' a.values a.values values' from high
            (kept_next a.nexts a.values slot (p.f.next + 1) from high out)
            (kept_value nexts' a.values slot h.number to from high out)

        value : (k : ℕ) → OwnHandle t p.f.routine k → Dec (k ≡ h.number) → get_or values' (value_place slot k) 0 ≡ refers pointed k
        value k o (yes q) =
            let own = (operands_of (Point h g) e).points h.number refl in
            let here : value_place slot h.number < length a.values = omega (arith, s.lengths.values, s.most, p.slot_is, p.few) in
            subst (λ (i : ℕ). get_or values' (value_place slot i) 0 ≡ refers pointed i) (sym q)
            (get_or-set_same a.values (value_place slot h.number) to 0 here ∙ own_value g.number own.1
            ∙ sym (get_or-set_same p.f.values h.number (refers p.f g.number) 0 (omega (arith, own.0.there, p.shown.long))))
        value k o (no q) =
            let own = (operands_of (Point h g) e).points h.number refl in
            get_or-set_other a.values (value_place slot h.number) (value_place slot k) to 0
            (λ same. q (own_apart t accepted p.f.routine k h.number p.room.there o own.0 (omega (arith, same))))
            ∙ own_value k o ∙ sym (get_or-set_other p.f.values h.number k (refers p.f g.number) 0 q)

        shown : ShowsFrame t nexts' values' slot pointed
        shown =
            record {
              next_is = (going_shown (p.f.next + 1)).next_is;
              long = length-set p.f.values h.number (refers p.f g.number) ∙ p.shown.long;
              value_is = λ k o. value k o (ℕ_discrete k h.number);
            }

    -- ---- CALL and START: the frame goes on, and a new frame of the named routine stands in another slot

    abbrev going_on : List ℕ
    going_on = set a.nexts slot (p.f.next + 1)

    module _ (q : ℕ) (arguments : Arguments) (first from end : ℕ) (first_is : first ≡ (routine t q).first) (from_is : from ≡ (routine t q).handle)
        (end_is : end ≡ (routine t q).handle + (routine t q).handles) where
      module _ (values : List ℕ) (there : ℕ) (entered : Entered t a.values values there slot from end arguments) where
        moved_on : (there ≡ slot → ⊥) → set (set a.nexts there first) slot (next + 1) ≡ set going_on there first
        moved_on apart = set_comm a.nexts there slot first (next + 1) apart ∙ ap (λ (i : ℕ). set (set a.nexts slot (i + 1)) there first) next_is

        nexts_long : length (set going_on there first) ≡ 512
        nexts_long = length-set going_on there first ∙ length-set a.nexts slot (p.f.next + 1) ∙ s.lengths.nexts

        new_frame : there < 512 → Passes t p.f.routine q arguments → ShowsFrame t (set going_on there first) values there (opened t q p.f.values arguments)
        new_frame l given =
            opened_shown t accepted (set going_on there first) a.values values p.f.values there slot q arguments given.there
            (get_or-set_same going_on there first 0 (omega (arith, nexts_long, length-set going_on there first)) ∙ first_is)
            (subst (λ (i : ℕ). Entered t a.values values there slot (routine t q).handle i arguments) end_is
            (subst (λ (i : ℕ). Entered t a.values values there slot i end arguments) from_is entered))
            (λ k l. own_value (get_or (passed arguments) k 0) (given.argument k l).own)

        opening : (low high : ℕ) → ((i : ℕ) → low ≤ i → i < high → i ≡ there → ⊥) → Kept going_on (set going_on there first) a.values values low high
        opening low high out =
            kept_both going_on (set going_on there first) (set going_on there first) a.values a.values values low high
            (kept_next going_on a.values there first low high out)
            (kept_entered t (set going_on there first) a.values values there slot from end low high arguments entered out)

      -- ---- CALL

      pub call_step : (values : List ℕ) → statement t p.f.next ≡ Call q arguments → Entered t a.values values (slot + 1) slot from end arguments
          → Stepped t
          (arrays a.started (set (set a.nexts (slot + 1) first) slot (next + 1)) values (set a.counts n (get_or a.counts n 0 + 1)) a.accumulators a.locks a.cells)
          state n (Ok (Call q arguments))
      unfolding operate
      call_step values e entered =
          rw (moved_on values (slot + 1) entered (λ z. omega arith))
          (ran _ (Call q arguments) _ e refl refl
          (one_thread t a (arrays a.started nexts' values counts' a.accumulators a.locks a.cells) n
          (record {
            lengths =
                record {
                  nexts = nexts_long values (slot + 1) entered;
                  values = entered.long ∙ s.lengths.values;
                  counts = length-set a.counts n (get_or a.counts n 0 + 1) ∙ s.lengths.counts;
                  accumulators = s.lengths.accumulators;
                  cells = s.lengths.cells;
                };
            slots = λ m apart. kept (m * 32) (m * 32 + 32) (λ i v u. own_slot m i apart v u) (λ i v u z. omega (arith, p.slot_is, p.count_is, w, apart));
            counts = λ m apart. get_or-set_other a.counts n m (get_or a.counts n 0 + 1) 0 apart;
            accumulators = λ m apart. refl;
          })
          state (record { accumulator = (thread state n).accumulator; frames = opened t q p.f.values arguments ∷ going p.f (p.f.next + 1) ∷ p.older })
          state.cells state.locks s low refl
          (let c : get_or counts' n 0 ≡ suc (suc (length p.older)) =
          get_or-set_same a.counts n (get_or a.counts n 0 + 1) 0 (omega (arith, s.lengths.counts, s.most)) ∙ omega (arith, p.count_is) in
          record {
            count_is = c;
            few = omega (arith, c, p.count_is, w);
            accumulator_is = p.accumulator_is;
            frames = (
              subst (λ (i : ℕ). ShowsFrame t nexts' values i (opened t q p.f.values arguments)) above
                  (new_frame values (slot + 1) entered (omega (arith, s.most, p.slot_is, p.count_is, w)) ((operands_of (Call q arguments) e).passes q refl)),
              (
                subst (λ (i : ℕ). ShowsFrame t nexts' values i (going p.f (p.f.next + 1))) p.slot_is
                    (frame_kept t going_on nexts' a.values values slot (going p.f (p.f.next + 1)) (going_shown (p.f.next + 1))
                    (opening values (slot + 1) entered slot (slot + 1) (λ i v u z. omega arith))),
                rest_kept nexts' values (kept (n * 32) slot (λ i v u z. omega arith) (λ i v u z. omega arith)),
              ),
            );
          })
          s.cells_are s.locks_are))
        where
          w : get_or a.counts n 0 < frame_slots
          w = call_room q arguments e

          nexts' : List ℕ
          nexts' = set going_on (slot + 1) first

          counts' : List ℕ
          counts' = set a.counts n (get_or a.counts n 0 + 1)

          above : slot + 1 ≡ n * 32 + suc (length p.older)
          above = omega (arith, p.slot_is)

          kept : (low high : ℕ) → ((i : ℕ) → low ≤ i → i < high → i ≡ slot → ⊥) → ((i : ℕ) → low ≤ i → i < high → i ≡ slot + 1 → ⊥)
              → Kept a.nexts nexts' a.values values low high
          kept low high out out' =
              kept_both a.nexts going_on nexts' a.values a.values values low high (kept_next a.nexts a.values slot (p.f.next + 1) low high out)
              (opening values (slot + 1) entered low high out')

      -- ---- START

      pub start_refused : statement t p.f.next ≡ Start q arguments → 16 ≤ a.started → Stepped t a state n (Err (Stopped (Start q arguments) Full))
      start_refused e w =
          turned_down_lem (Start q arguments) 18 Full refl e (limited (Start q arguments) 18 e (rw (le-leb 16 (length state.threads) (omega (arith, w, s.started_is)))) refl) refl

      pub start_step : (values : List ℕ) → statement t p.f.next ≡ Start q arguments → a.started < 16 → Entered t a.values values (a.started * 32) slot from end arguments
          → Stepped t
          (arrays (a.started + 1) (set (set a.nexts (a.started * 32) first) slot (next + 1)) values (set a.counts a.started 1)
          (set a.accumulators a.started (pos 0)) a.locks a.cells)
          state n (Ok (Start q arguments))
      unfolding operate
      start_step values e w entered =
          rw (moved_on values (a.started * 32) entered (λ z. omega (arith, p.slot_is, p.few)))
          (ran _ (Start q arguments) _ e (rw (lt-leb 16 (length state.threads) (omega (arith, w, s.started_is)))) refl
          (added t mid new a.started
          (record {
            lengths =
                record {
                  nexts = nexts_long values (a.started * 32) entered;
                  values = entered.long ∙ s.lengths.values;
                  counts = length-set a.counts a.started 1 ∙ s.lengths.counts;
                  accumulators = length-set a.accumulators a.started (pos 0) ∙ s.lengths.accumulators;
                  cells = s.lengths.cells;
                };
            slots = λ m apart. opening values (a.started * 32) entered (m * 32) (m * 32 + 32) (λ i v u z. omega (arith, apart));
            counts = λ m apart. get_or-set_other a.counts a.started m 1 0 apart;
            accumulators = λ m apart. get_or-set_other a.accumulators a.started m (pos 0) (pos 0) apart;
          })
          (with_thread state n (thread state n).accumulator (going p.f (p.f.next + 1) ∷ p.older) state.cells state.locks)
          (record { accumulator = pos 0; frames = opened t q p.f.values arguments ∷ [] })
          (goes (p.f.next + 1) _ a.accumulators a.locks a.cells state.cells state.locks accumulated_same refl s.cells_are s.locks_are)
          refl (w) refl
          (let c = get_or-set_same a.counts a.started 1 0 (omega (arith, s.lengths.counts, w)) in
          record {
            count_is = c;
            few = omega (arith, c);
            accumulator_is = get_or-set_same a.accumulators a.started (pos 0) (pos 0) (omega (arith, s.lengths.accumulators, w));
            frames = (
              subst (λ (i : ℕ). ShowsFrame t new.nexts values i (opened t q p.f.values arguments)) above
                  (new_frame values (a.started * 32) entered (omega (arith, w)) ((operands_of (Start q arguments) e).passes q refl)),
              tt,
            );
          })
          refl refl))
        where
          mid : Arrays
          mid = arrays a.started going_on a.values a.counts a.accumulators a.locks a.cells

          new : Arrays
          new =
              arrays (a.started + 1) (set going_on (a.started * 32) first) values (set a.counts a.started 1) (set a.accumulators a.started (pos 0)) a.locks a.cells

          above : a.started * 32 ≡ a.started * 32 + 0
          above = omega arith
