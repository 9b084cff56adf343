-- What a step does to cells and holds: a cell that it does not WRITE and a hold that it does not GIVE up stay, a TAKE or TAKER that runs gets its lock, and a READ the
-- cell's value; so two READs with no WRITE between them get the same. Only started threads hold locks. Assumes nothing.
use Rattle.std.specs.Prelude.{ℕ, ◌+◌, ◌<◌, ◌≡◌, Bool, cond, ◌⊎◌, eqb, ltb, ℤ, pos, get_or, set, Some, None}
use Rattle.std.proofs.Math.Path.{refl, sym, ap, subst}
use Rattle.std.proofs.Common.{◌∙◌, inl, inr, arith, get_or-set_same, eqb-true, ltb-true, length-set, length-append}
use Rattle.std.proofs.Math.Bool.{true, false}
use mathlib.Core.List.{List, [], ◌∷◌, ◌++◌}
use Rattle.std.proofs.Math.ListN.{length}
use Rattle.std.proofs.Math.Seq.{get_or-set_other}
use Rattle.std.proofs.lemmas.Bool.{eqb-false}
use Rattle.table.specs.Table.{Table, statement}
use Rattle.table.specs.View.{view}
use Rattle.table.proofs.TabulateLaws.{replicate_at}
use Rattle.table.proofs.ViewLaws.{nothing_to, one_reference, write_alone}
use Rattle.table.specs.declared.Statement.{Statement}
use Rattle.table.specs.declared.Statement.TheVariants.{Read, Write, Set, Add, Take, Give, Point, Call, Start, Jump, JumpZero, Return, TakeRead}
use Rattle.machine.proofs.Lists.{set_case}
use Rattle.machine.specs.State.{State, Thread, Frame, Holder, free, holds_in, thread, ended, holder, refers, start}
use Rattle.machine.specs.Step.{Answer, moved, refused, Turn, passes, stops, taking, reading, giving, turned, operate, stepped, step, after, run, run_by}
use Rattle.machine.specs.Engine.{engine_step, engine_run}
use Rattle.machine.specs.Words.{AccessIn, ReleaseIn, Next, Access, Release, Holds}
use Rattle.machine.proofs.LockLaws.{never, free_held, OnPass, OthersSame, on_both, taking_gets, taking_keeps, taking_others_same, reading_gets, reading_keeps, reading_others, giving_others_same}
use Rattle.machine.specs.Stretch.{cell, Started, HeldByStarted, TakeIn, Stepping, Reads, Keeps, WritesNot, StaysPut}

-- ---- a step

-- what the answer to thread n's step means, by the cells that its statement writes and reads and the locks that it gives up and takes
pub record Leaves (state : State) (n : ℕ) (writes reads gives takes : ℕ → Type 0) (answer : Answer) : Type 0 where
  pub cells : (x : ℕ) → (writes x → ⊥) → cell (after state answer) x ≡ cell state x
  pub holds : (m k : ℕ) → (n ≡ m → gives k → ⊥) → Holds state m k → Holds (after state answer) m k
  pub gets : (new : State) → answer ≡ moved new → (k : ℕ) → k < length state.locks → takes k → Holds new n k
  pub value : (new : State) → answer ≡ moved new → (x : ℕ) → reads x → (thread new n).accumulator ≡ cell state x

moved_same : {one other : State} → moved one ≡ moved other → one ≡ other
moved_same e = cc

pub refused_moved {ℓ} : {C : Type ℓ} {number : ℕ} {new : State} → refused number ≡ moved new → C
refused_moved e = let z : ◌≡◌ {A = ℕ} 0 1 = cc in absurd (omega arith)

same_or : {C : Type 0} (m n : ℕ) → (m ≡ n → C) → ((m ≡ n → ⊥) → C) → C
same_or {C} m n same other = go (eqb m n) refl
  where
    go : (b : Bool) → eqb m n ≡ b → C
    go true e = same (eqb-true m n e)
    go false e = other (eqb-false m n e)

-- a refusal does nothing
refused_leaves : (state : State) (n : ℕ) (writes reads gives takes : ℕ → Type 0) (number : ℕ) → Leaves state n writes reads gives takes (refused number)
refused_leaves state n writes reads gives takes number =
    record {
      cells = λ x spared. refl;
      holds = λ m k spared has. has;
      gets = λ new e k l takes. refused_moved e;
      value = λ new e x reads. refused_moved e;
    }

module _ (t : Table) (state : State) (n : ℕ) (there : n < length state.threads) (a : ℤ) (f : Frame) (older : List Frame) where
  abbrev By : Statement → Answer → Type 0
  By σ = Leaves state n (AccessIn f σ true) (AccessIn f σ false) (ReleaseIn f σ) (TakeIn f σ)

  -- a statement that takes and reads nothing, and leaves cells and locks
  plain : (σ : Statement) (answer : Answer) → (view σ).takes ≡ None → (view σ).reads ≡ None → (after state answer).cells ≡ state.cells
      → (after state answer).locks ≡ state.locks → By σ answer
  plain σ answer takes reads cells locks =
      record {
        cells = λ x spared. ap (λ (l : List ℤ). get_or l x (pos 0)) cells;
        holds = λ m k spared has. subst (λ (l : List Holder). holds_in false (get_or l k free) m ≡ true) (sym locks) has;
        gets = λ new e k l (h, is, at). nothing_to (sym takes ∙ is);
        value = λ new e x (h, is, at). nothing_to (sym reads ∙ is);
      }

  -- what a turn at the lock of handle h has to do: who may not lose a hold keeps it, and where the statement takes, thread n gets one
  record AtTurn (σ : Statement) (h : ℕ) (new : Holder) : Type 0 where
    kept : (m : ℕ) → (n ≡ m → ReleaseIn f σ (refers f h) → ⊥) → holds_in false (holder state (refers f h)) m ≡ true → holds_in false new m ≡ true
    got : (j : ℕ) → (view σ).takes ≡ Some j → (j ≡ h) × (holds_in false new n ≡ true)

  turn : (σ : Statement) (h : ℕ) (turn : Turn) → (view σ).reads ≡ None → OnPass turn (AtTurn σ h) → By σ (turned t state n a f older (refers f h) turn)
  turn σ h (passes who) reads p =
      record {
        cells = λ x spared. refl;
        holds = λ m j spared has.
            set_case (λ (w : Holder). holds_in false w m ≡ true) state.locks (refers f h) j who free
            (λ at. p.kept m (λ e g. spared e (subst (ReleaseIn f σ) (sym at) g)) (subst (Holds state m) at has)) has;
        gets = λ new e k l (j, is, at).
            let own = p.got j is in
            let same : k ≡ refers f h = sym at ∙ ap (refers f) own.0 in
            subst (λ (s : State). Holds s n k) (moved_same e)
            (subst (λ (w : Holder). holds_in false w n ≡ true)
            (sym (ap (λ (i : ℕ). get_or (set state.locks i who) k free) (sym same) ∙ get_or-set_same state.locks k who free l)) own.1);
        value = λ new e x (j, is, at). nothing_to (sym reads ∙ is);
      }
  turn σ h (stops number) reads p = refused_leaves state n _ _ _ _ number

  -- "Given a thread number, the machine runs that thread's next statement once": by the statement
  operate_leaves : (σ : Statement) → By σ (operate t state n a f older σ)
  unfolding operate
  operate_leaves (Read h) =
      record {
        cells = λ x spared. refl;
        holds = λ m k spared has. has;
        gets = λ new e k l (j, is, at). nothing_to is;
        value = λ new e x (j, is, at).
            let own : j ≡ h.number = one_reference (Some j) refl (sym is) in
            subst (λ (s : State). (thread s n).accumulator ≡ cell state x) (moved_same e)
            (ap (λ (r : Thread). r.accumulator) (get_or-set_same state.threads n _ ended there)
            ∙ ap (cell state) (ap (refers f) (sym own) ∙ at));
      }
  operate_leaves (Write h) =
      record {
        cells = λ x spared. get_or-set_other state.cells (refers f h.number) x a (pos 0) (λ e. spared (h.number, refl, sym e));
        holds = λ m k spared has. has;
        gets = λ new e k l (j, is, at). nothing_to is;
        value = λ new e x (j, is, at). nothing_to is;
      }
  operate_leaves (Take h) =
      let who = holder state (refers f h.number) in
      turn (Take h) h.number (taking n who) refl
      (on_both (taking n who) {R = AtTurn (Take h) h.number}
      (λ new gets keeps. record { kept = λ m spared. keeps false m; got = λ j is. (one_reference (Some j) refl (sym is), gets false) })
      (taking_gets n who) (taking_keeps n who))
  operate_leaves (TakeRead h) =
      let who = holder state (refers f h.number) in
      turn (TakeRead h) h.number (reading n who) refl
      (on_both (reading n who) {R = AtTurn (TakeRead h) h.number}
      (λ new gets keeps. record { kept = λ m spared. keeps false m; got = λ j is. (one_reference (Some j) refl (sym is), gets) })
      (reading_gets n who) (reading_keeps n who))
  operate_leaves (Give h) =
      let who = holder state (refers f h.number) in
      turn (Give h) h.number (giving n who) refl
      (on_both (giving n who) {R = AtTurn (Give h) h.number}
      (λ new others too. record {
        kept = λ m spared has.
            same_or n m (λ e. absurd (spared e (h.number, refl, refl))) (λ other. others false m (λ e. other (sym e)) ∙ has);
        got = λ j is. nothing_to is;
      })
      (giving_others_same n who) (giving_others_same n who))
  operate_leaves (Set number) = plain (Set number) _ refl refl refl refl
  operate_leaves (Add number) = plain (Add number) _ refl refl refl refl
  operate_leaves (Point h g) = plain (Point h g) _ refl refl refl refl
  operate_leaves (Call r arguments) = plain (Call r arguments) _ refl refl refl refl
  operate_leaves (Start r arguments) = plain (Start r arguments) _ refl refl refl refl
  operate_leaves (Jump s) = plain (Jump s) _ refl refl refl refl
  operate_leaves (JumpZero s) = plain (JumpZero s) _ refl refl refl refl
  operate_leaves Return = plain Return _ refl refl refl refl

module _ (t : Table) (state : State) (n : ℕ) where
  abbrev ByFrames : List Frame → Answer → Type 0
  ByFrames fs =
      Leaves state n (λ x. Next t (λ f σ. AccessIn f σ true x) fs) (λ x. Next t (λ f σ. AccessIn f σ false x) fs) (λ k. Next t (λ f σ. ReleaseIn f σ k) fs)
      (λ k. Next t (λ f σ. TakeIn f σ k) fs)

  -- a step, by the thread's next statement
  step_leaves : ByFrames (thread state n).frames (step t state n)
  unfolding step stepped
  step_leaves = started? (ltb n (length state.threads)) refl
    where
      go : n < length state.threads → (fs : List Frame) → ByFrames fs (stepped t state n (thread state n).accumulator fs)
      go there [] = refused_leaves state n _ _ _ _ 15
      go there (f ∷ older) = operate_leaves t state n there (thread state n).accumulator f older (statement t f.next)

      started? : (b : Bool) → ltb n (length state.threads) ≡ b
          → ByFrames (thread state n).frames (cond b (stepped t state n (thread state n).accumulator (thread state n).frames) (refused 14))
      started? true e = go (ltb-true n (length state.threads) e) (thread state n).frames
      started? false e = refused_leaves state n _ _ _ _ 14

-- ---- only started threads hold locks: thread m is not given one but by a step of its own

module _ (t : Table) (state : State) (n : ℕ) (there : n < length state.threads) (started : HeldByStarted state) (a : ℤ) (f : Frame) (older : List Frame) where
  -- the locks stay, and no thread goes
  stays : (answer : Answer) → (after state answer).locks ≡ state.locks → length state.threads < length (after state answer).threads + 1
      → HeldByStarted (after state answer)
  stays answer locks more m k has =
      let before = started m k (subst (λ (l : List Holder). holds_in false (get_or l k free) m ≡ true) locks has) in
      omega (arith, before, more)

  same_threads : (b : Thread) → length state.threads < length (set state.threads n b) + 1
  same_threads b = omega (arith, length-set state.threads n b)

  one_more : (b new : Thread) → length state.threads < length (set state.threads n b ++ new ∷ []) + 1
  one_more b new = omega (arith, same_threads b, length-append (set state.threads n b) (new ∷ []))

  turn_started : (lock : ℕ) (turn : Turn) → OnPass turn (OthersSame n (holder state lock)) → HeldByStarted (after state (turned t state n a f older lock turn))
  turn_started lock (passes who) same = λ m k.
      rw length-set
      (set_case (λ (w : Holder). holds_in false w m ≡ true → Started state m) state.locks lock k who free
      (λ at has. same_or m n (λ e. omega (arith, there, e)) (λ other. started m lock (sym (same false m other) ∙ has))) (started m k))
  turn_started lock (stops number) same = started

  operate_started : (σ : Statement) → HeldByStarted (after state (operate t state n a f older σ))
  unfolding operate
  operate_started (Read h) = stays (operate t state n a f older (Read h)) refl (same_threads _)
  operate_started (Write h) = stays (operate t state n a f older (Write h)) refl (same_threads _)
  operate_started (Set number) = stays (operate t state n a f older (Set number)) refl (same_threads _)
  operate_started (Add number) = stays (operate t state n a f older (Add number)) refl (same_threads _)
  operate_started (Take h) = let lock = refers f h.number in turn_started lock (taking n (holder state lock)) (taking_others_same n (holder state lock))
  operate_started (Give h) = let lock = refers f h.number in turn_started lock (giving n (holder state lock)) (giving_others_same n (holder state lock))
  operate_started (Point h g) = stays (operate t state n a f older (Point h g)) refl (same_threads _)
  operate_started (Call r arguments) = stays (operate t state n a f older (Call r arguments)) refl (same_threads _)
  operate_started (Start r arguments) =
      stays (operate t state n a f older (Start r arguments)) refl (one_more _ _)
  operate_started (Jump s) = stays (operate t state n a f older (Jump s)) refl (same_threads _)
  operate_started (JumpZero s) = stays (operate t state n a f older (JumpZero s)) refl (same_threads _)
  operate_started Return = stays (operate t state n a f older Return) refl (same_threads _)
  operate_started (TakeRead h) = let lock = refers f h.number in turn_started lock (reading n (holder state lock)) (reading_others n (holder state lock))

module _ (t : Table) (state : State) (n : ℕ) (started : HeldByStarted state) where
  -- a step keeps it
  step_started : HeldByStarted (after state (step t state n))
  unfolding step stepped
  step_started = started? (ltb n (length state.threads)) refl
    where
      go : n < length state.threads → (fs : List Frame) → HeldByStarted (after state (stepped t state n (thread state n).accumulator fs))
      go there [] = started
      go there (f ∷ older) = operate_started t state n there started (thread state n).accumulator f older (statement t f.next)

      started? : (b : Bool) → ltb n (length state.threads) ≡ b
          → HeldByStarted (after state (cond b (stepped t state n (thread state n).accumulator (thread state n).frames) (refused 14)))
      started? true e = go (ltb-true n (length state.threads) e) (thread state n).frames
      started? false e = started

-- where a thread holds a lock and another one was started, there are several
pub several_started : (state : State) → HeldByStarted state → (m n k : ℕ) → (n ≡ m → ⊥) → Holds state m k → Started state n → 1 < length state.threads
several_started state started m n k other holds here = omega (arith, started m k holds, here)

-- nobody holds a lock at the start
pub start_started : (t : Table) → HeldByStarted (start t)
unfolding start
start_started t n k has = never (sym (ap (λ (h : Holder). holds_in false h n) (replicate_at t.locks k free) ∙ free_held false n) ∙ has)

-- ---- the runs of the machine and of the engine are runs by their steps

pub run_is_by : (t : Table) (state : State) (ns : List ℕ) → run t state ns ≡ run_by (step t) state ns
unfolding run run_by
run_is_by t state [] = refl
run_is_by t state (n ∷ ns) = run_is_by t (after state (step t state n)) ns

pub engine_run_is_by : (t : Table) (state : State) (ns : List ℕ) → engine_run t state ns ≡ run_by (engine_step t) state ns
unfolding engine_run run_by
engine_run_is_by t state [] = refl
engine_run_is_by t state (n ∷ ns) = engine_run_is_by t (after state (engine_step t state n)) ns

-- ---- every way to step the machine

pub machine_steps : (t : Table) → Stepping t (step t)
machine_steps t state n = inl refl

module _ (t : Table) (by : State → ℕ → Answer) (steps : Stepping t by) where
  pub by_leaves : (state : State) (n : ℕ) → ByFrames t state n (thread state n).frames (by state n)
  by_leaves state n = go (steps state n)
    where
      go : (by state n ≡ step t state n) ⊎ ((number : ℕ) × (by state n ≡ refused number)) → ByFrames t state n (thread state n).frames (by state n)
      go (inl e) = subst (ByFrames t state n (thread state n).frames) (sym e) (step_leaves t state n)
      go (inr (number, e)) = subst (ByFrames t state n (thread state n).frames) (sym e) (refused_leaves state n _ _ _ _ number)

  pub by_started : (state : State) (n : ℕ) → HeldByStarted state → HeldByStarted (after state (by state n))
  by_started state n started = go (steps state n)
    where
      go : (by state n ≡ step t state n) ⊎ ((number : ℕ) × (by state n ≡ refused number)) → HeldByStarted (after state (by state n))
      go (inl e) = subst (λ (answer : Answer). HeldByStarted (after state answer)) (sym e) (step_started t state n started)
      go (inr (number, e)) = subst (λ (answer : Answer). HeldByStarted (after state answer)) (sym e) started

  -- only started threads hold locks, over a list of steps, and so after every one
  pub run_started : (state : State) (ns : List ℕ) → HeldByStarted state → HeldByStarted (run_by by state ns)
  unfolding run_by
  run_started state [] started = started
  run_started state (n ∷ ns) started = run_started (after state (by state n)) ns (by_started state n started)

  pub reached_started : (ns : List ℕ) → HeldByStarted (run_by by (start t) ns)
  reached_started ns = run_started (start t) ns (start_started t)

  -- "A thread holds a lock from the step by which it gets it to the step by which it gives it up": over a step that is no GIVE of it by thread m, and over many
  pub keeps_hold : (m k : ℕ) (state : State) (n : ℕ) → (n ≡ m → Release t state m k → ⊥) → Holds state m k → Holds (after state (by state n)) m k
  keeps_hold m k state n not_given = (by_leaves state n).holds m k (λ e gives. not_given e (subst (λ (j : ℕ). Release t state j k) e gives))

  pub keeps_holding : (m k : ℕ) (state : State) (ns : List ℕ) → Keeps t by m k state ns → Holds state m k → Holds (run_by by state ns) m k
  unfolding run_by
  keeps_holding m k state [] keeps holds = holds
  keeps_holding m k state (n ∷ ns) (not_given, keeps) holds =
      keeps_holding m k (after state (by state n)) ns keeps (keeps_hold m k state n not_given holds)

  -- where neither another thread nor thread m WRITEs the cell, it keeps its value
  pub stays_put_value : (m x : ℕ) (state : State) (ns : List ℕ) → StaysPut t by m x state ns → WritesNot t by m x state ns → cell (run_by by state ns) x ≡ cell state x
  unfolding run_by
  stays_put_value m x state [] still writes_not = refl
  stays_put_value m x state (n ∷ ns) (others, still) (own, writes_not) =
      stays_put_value m x (after state (by state n)) ns still writes_not
      ∙ same_or n m (λ e. (by_leaves state n).cells x (λ writes. own e (subst (λ (j : ℕ). Access t state j true x) e writes))) (λ other. (others other).0)

  -- the steps behind the first ones
  stays_put_behind : (m x : ℕ) (state : State) (first later : List ℕ) → StaysPut t by m x state (first ++ later) → StaysPut t by m x (run_by by state first) later
  unfolding run_by
  stays_put_behind m x state [] later still = still
  stays_put_behind m x state (n ∷ first) later (others, still) = stays_put_behind m x (after state (by state n)) first later still

  -- "Customers read a cell twice under its lock and compare": over steps of which none of another thread's changes the cell, two READs of thread m between which it
  -- does not WRITE the cell get the same value
  pub readings_agree : (m x : ℕ) (state one other : State) (first between : List ℕ) → StaysPut t by m x state (first ++ m ∷ between)
      → Reads t by x (run_by by state first) m one → WritesNot t by m x one between → Reads t by x (run_by by one between) m other
      → (thread one m).accumulator ≡ (thread other m).accumulator
  readings_agree m x state one other first between still read writes_not again =
      (by_leaves before m).value one read.runs x read.stands
      ∙ sym (subst (λ (new : State). cell new x ≡ cell before x) here ((by_leaves before m).cells x no_write))
      ∙ sym (stays_put_value m x one between (subst (λ (new : State). StaysPut t by m x new between) here (stays_put_behind m x state first (m ∷ between) still).1) writes_not)
      ∙ sym ((by_leaves (run_by by one between) m).value other again.runs x again.stands)
    where
      before : State
      before = run_by by state first

      here : after before (by before m) ≡ one
      here = ap (after before) read.runs

      read_no_write : (fs : List Frame) → Next t (λ f σ. AccessIn f σ false x) fs → Next t (λ f σ. AccessIn f σ true x) fs → ⊥
      read_no_write [] reads writes = reads
      read_no_write (f ∷ older) (h, is, at) (j, too, there) = nothing_to (sym (write_alone (statement t f.next) too).0 ∙ is)

      no_write : Access t before m true x → ⊥
      no_write = read_no_write (thread before m).frames read.stands
