-- What is known where a thread's next statement is looked at, and what each operation leaves there. Assumes nothing.
use Prim.Native.Nat.{ℕ, ◌+◌, ◌-◌, ◌*◌, ◌<◌, ◌≤◌}
use mathlib.Core.Path.{◌≡◌, refl, sym, ap, ◌∙◌, subst}
use mathlib.Core.Bool.{Bool, true, false, cond}
use mathlib.Core.List.{List}
use mathlib.Core.Logic.{◌⊎◌, inl, inr}
use native.Mathlib.Omega.{arith}
use lib.IntN.{ℤ, pos, ◌+ℤ◌}
use lib.ListN.{length, get_or, set}
use Rattle.std.specs.Prelude.{Some, None, Ok, Err}
use Rattle.table.specs.Fields.{field}
use Rattle.table.specs.Header.{statements, statement_line}
use Rattle.table.proofs.TabulateLaws.{length_tabulate}
use Rattle.table.specs.Table.{Table, table_of, statement, statement_in, statement_of, InRoutine}
use Rattle.table.specs.Extents.{first_statements, first_handles}
use Rattle.table.specs.Accepted.{Accepted, Operands}
use Rattle.table.specs.declared.Arguments.{Arguments}
use Rattle.table.specs.declared.Handle.{Handle}
use Rattle.table.specs.declared.Target.{Target}
use Rattle.table.specs.declared.Statement.{Statement}
use Rattle.table.specs.declared.Statement.TheVariants.{Read, Write, Set, Add, Take, Give, Point, Call, Start, Jump, JumpZero, Return, TakeRead}
use Rattle.declarations.specs.declared.outline.Extents.{Extents}
use Rattle.declarations.specs.Laid.{Laid}
use Rattle.machine.specs.State.{State}
use Rattle.machine.specs.Step.{saturate, is_zero}
use Rattle.machine.specs.Engine.{frame_slots}
use Rattle.run_state.specs.declared.Loaded.{Loaded}
use Rattle.run_state.specs.declared.State as Run
use Rattle.run_state.specs.Lists.{locks_in, cells_in, put_cell}
use Rattle.run_state.specs.ListLaws.{parts_lock, parts_cell}
use Rattle.run_state.specs.Shown.{Arrays, arrays, parts_of, value_place, ShowsBounded, Standing}
use Rattle.run_state.specs.TableLaws.{statement_read, LookedUp, looked_up}
use Rattle.operations.specs.declared.place.Place.{Place}
use Rattle.operations.specs.declared.Stop.{Stop}
use Rattle.operations.specs.declared.Stop.TheVariants.{Full}
use Rattle.operations.specs.declared.TurnedDown.TheVariants.{Stopped}
use Rattle.operations.specs.Step.{Step}
use Rattle.operations.specs.Operation.{Move, on, Called, Started}
use Rattle.locks.specs.Turns.{LockTurn, taking_word, reading_word, giving_word, Handed, Turned}
use Rattle.steps.specs.Stepped.{Stepped, Here, stored, Storable, answer_by, Operated}
use Rattle.steps.specs.StepLaws.{Top, top, Placed, placed, read_step, write_step, set_step, add_step, jump_step, jump_zero_step, return_step, AtLock, take_step, take_read_step, give_step, point_step, call_room, call_step, start_refused, start_step}

-- the statement of a line is the table's
line_said : (numbers : List ℤ) (base next : ℕ) (σ : Statement) → base ≡ statement_line numbers 0
    → σ ≡ statement_in numbers (base + next) (field numbers (base + next) 1) → σ ≡ statement_of numbers next
unfolding statement_of
line_said numbers base next σ b q =
    let e : base + next ≡ statement_line numbers next = omega arith in
    subst (λ (line : ℕ). σ ≡ statement_in numbers line (field numbers line 1)) e q

-- ---- before the statement is read

-- the line of a statement is there
pub record Lined (numbers : List ℤ) (line : ℕ) : Type 0 where
  pub small : line < 65536
  pub there : line * 8 + 8 ≤ length numbers

-- a thread that is started and has a frame open
module _ (loaded : Loaded) {base : ℕ} {extents : Extents} (laid : Laid loaded.program base extents) (run : Run.State) (n count : ℕ)
    (s : Standing (table_of loaded.program) run) (inside : n < run.started) (count_is : count ≡ get_or run.counts n 0) (some : count ≡ 0 → ⊥) where
  -- its newest frame's slot
  pub newest_low : n * 32 + count - 1 < 512
  newest_low = omega (arith, s.shows.shows.most, inside, count_is, (s.shows.shows.thread_is n inside).few)

  newest_is : n * 32 + count - 1 + 1 ≡ n * 32 + get_or run.counts n 0
  newest_is = omega (arith, count_is, some)

  some_open : 0 < get_or run.counts n 0
  some_open = omega (arith, count_is, some)

  pub lined : (next : ℕ) → next ≡ get_or run.nexts (n * 32 + count - 1) 0 → Lined loaded.program (base + next)
  unfolding table_of
  lined next q =
      let p = top (table_of loaded.program) (parts_of (table_of loaded.program) run) s.state n (n * 32 + count - 1) s.shows inside some_open newest_is in
      let accepted = laid.accepted in
      let facts = accepted.routine_facts p.f.routine p.room.there in
      let within : next < statements loaded.program = omega (arith, q ∙ p.shown.next_is, p.room.inside.high, rw length_tabulate at facts.statements_there) in
      let base_is : base ≡ statement_line loaded.program 0 = laid.base_is in
      record {
        small =
            omega (
              arith,
              rw length_tabulate at accepted.handles_most,
              rw length_tabulate at accepted.routines_most,
              rw length_tabulate at accepted.statements_most,
            );
        there = omega (arith, loaded.long);
      }

  pub placed_there : (next : ℕ) → next ≡ get_or run.nexts (n * 32 + count - 1) 0 → Placed n (n * 32 + count - 1) next
  placed_there next q =
      let t = table_of loaded.program in
      let slot = n * 32 + count - 1 in
      let p = top t (parts_of t run) s.state n slot s.shows inside some_open newest_is in
      subst (Placed n slot) (sym (q ∙ p.shown.next_is)) (placed t laid.accepted (parts_of t run) s.state n slot s.shows inside p)

  pub here_at : (next : ℕ) (σ : Statement) (thread_low : n < 16) (slot_low : n * 32 + count - 1 < 512) (next_low : next < 512)
      → next ≡ get_or run.nexts (n * 32 + count - 1) 0
      → σ ≡ statement_in loaded.program (base + next) (field loaded.program (base + next) 1)
      → Here loaded.program run (record { thread = n; slot = n * 32 + count - 1; next = next; thread_low = thread_low; slot_low = slot_low; next_low = next_low }) σ
  here_at next σ thread_low slot_low next_low q e =
      record {
        standing = s;
        low = inside;
        newest = record { some = some_open; few = (s.shows.shows.thread_is n inside).few; slot_is = newest_is };
        next_is = q;
        statement_is = line_said loaded.program base next σ laid.base_is e;
      }

-- ---- at the statement

module _ (loaded : Loaded) (accepted : Accepted (table_of loaded.program)) (run : Run.State) (at : Place) (σ : Statement) (here : Here loaded.program run at σ) where
  abbrev t : Table
  t = table_of loaded.program

  abbrev a : Arrays
  a = parts_of (table_of loaded.program) run

  module _ (state : State) (s : ShowsBounded (table_of loaded.program) (parts_of (table_of loaded.program) run) state) where
    abbrev p : Top (table_of loaded.program) (parts_of (table_of loaded.program) run) state at.thread at.slot
    p = top t a state at.thread at.slot s here.low here.newest.some here.newest.slot_is

    stands_at : at.next ≡ p.f.next
    stands_at = here.next_is ∙ p.shown.next_is

    is : (τ : Statement) → σ ≡ τ → statement (table_of loaded.program) p.f.next ≡ τ
    is τ e =
        statement_read loaded.program p.f.next
        (omega (arith, p.room.inside.high, (accepted.routine_facts p.f.routine p.room.there).statements_there))
        ∙ ap (statement_of loaded.program) (sym stands_at) ∙ sym here.statement_is ∙ e

    operands : (τ : Statement) → σ ≡ τ → Operands (table_of loaded.program) p.f.routine τ
    operands τ e =
        subst (λ (τ : Statement). Operands (table_of loaded.program) p.f.routine τ) (is τ e) (accepted.operands p.f.routine p.f.next p.room.there p.room.inside)

  -- ---- what the operations ask

  abbrev shown_here : ShowsBounded (table_of loaded.program) (parts_of (table_of loaded.program) run) here.standing.state
  shown_here = here.standing.shows

  abbrev stands : Top (table_of loaded.program) (parts_of (table_of loaded.program) run) here.standing.state at.thread at.slot
  stands = p here.standing.state shown_here

  pub slot_below : at.slot < run.started * 32
  slot_below = omega (arith, here.low, stands.slot_is, stands.few)

  target_low : (s : ℕ) → InRoutine (table_of loaded.program) stands.f.routine s → s < 512
  target_low s i = omega (arith, i.high, (accepted.routine_facts stands.f.routine stands.room.there).statements_there, accepted.statements_most)

  pub routine_there : (q : ℕ) (arguments : Arguments) → (σ ≡ Call q arguments) ⊎ (σ ≡ Start q arguments) → q < length (table_of loaded.program).routines
  routine_there q arguments (inl e) = ((operands here.standing.state shown_here (Call q arguments) e).passes q refl).there
  routine_there q arguments (inr e) = ((operands here.standing.state shown_here (Start q arguments) e).passes q refl).there

  looked : (q : ℕ) → q < length (table_of loaded.program).routines → LookedUp loaded.program q
  looked q l = looked_up loaded.program accepted q l

  pub named : (q : ℕ) (arguments : Arguments) → (σ ≡ Call q arguments) ⊎ (σ ≡ Start q arguments) → q < 32
  named q arguments e = omega (arith, routine_there q arguments e, accepted.routines_most)

  -- "32 frames always suffice": a CALL finds a slot free
  pub room_here : (q : ℕ) (arguments : Arguments) → σ ≡ Call q arguments → get_or run.counts at.thread 0 < frame_slots
  room_here q arguments e =
      call_room t accepted a here.standing.state at.thread at.slot shown_here here.low stands q arguments (is here.standing.state shown_here (Call q arguments) e)

  -- ---- what the operations leave

  -- by what the state holds after the operation and the store
  left : (run' : Run.State) (r m : Move) (new : Arrays) (answer : Step) → r ≡ m → Storable m
      → parts_of (table_of loaded.program) (stored at.slot m run') ≡ new → answer_by m σ ≡ answer
      → ((state : State) (s : ShowsBounded (table_of loaded.program) (parts_of (table_of loaded.program) run) state) → Stepped (table_of loaded.program) new state at.thread answer)
      → Operated (table_of loaded.program) run run' at σ r
  left run' r m new answer e l v k did =
      subst (λ (q : Move). Operated t run run' at σ q) (sym e)
      (record {
        storable = l;
        steps = λ state s.
            subst (λ (x : Step). Stepped t (parts_of t (stored at.slot m run')) state at.thread x) (sym k)
            (subst (λ (b : Arrays). Stepped t b state at.thread answer) (sym v) (did state s));
      })

  went_to : (run' : Run.State) (r : Move) (x : ℕ) (new : Arrays) (τ : Statement) → σ ≡ τ → r ≡ Ok (Some x) → x < 4294967296
      → parts_of (table_of loaded.program) run' ≡ new
      → ((state : State) (s : ShowsBounded (table_of loaded.program) (parts_of (table_of loaded.program) run) state)
      → Stepped (table_of loaded.program) (arrays new.started (set new.nexts at.slot x) new.values new.counts new.accumulators new.locks new.cells) state at.thread (Ok τ))
      → Operated (table_of loaded.program) run run' at σ r
  went_to run' r x new τ e q l v did =
      left run' r (Ok (Some x)) _ (Ok τ) q l
      (ap (λ (b : Arrays). arrays b.started (set b.nexts at.slot x) b.values b.counts b.accumulators b.locks b.cells) v)
      (ap Ok e) did

  next_small : at.next + 1 < 4294967296
  next_small = omega (arith, at.next_low)

  went_on : (run' : Run.State) (r : Move) (new : Arrays) (τ : Statement) → σ ≡ τ → r ≡ on at
      → parts_of (table_of loaded.program) run' ≡ new
      → ((state : State) (s : ShowsBounded (table_of loaded.program) (parts_of (table_of loaded.program) run) state)
      → Stepped (table_of loaded.program) (arrays new.started (set new.nexts at.slot (at.next + 1)) new.values new.counts new.accumulators new.locks new.cells) state at.thread (Ok τ))
      → Operated (table_of loaded.program) run run' at σ r
  went_on run' r new τ e q v did = went_to run' r (at.next + 1) new τ e q next_small v did

  was_refused : (why : Stop) (run' : Run.State) (r : Move) (τ : Statement) → σ ≡ τ → r ≡ Err why → run' ≡ run
      → ((state : State) (s : ShowsBounded (table_of loaded.program) (parts_of (table_of loaded.program) run) state)
      → Stepped (table_of loaded.program) (parts_of (table_of loaded.program) run) state at.thread (Err (Stopped τ why)))
      → Operated (table_of loaded.program) run run' at σ r
  was_refused why run' r τ e q x did =
      left run' r (Err why) a (Err (Stopped τ why)) q tt (ap (parts_of t) x) (ap (λ (ρ : Statement). Err (Stopped ρ why)) e) did

  pub did_read : (h : Handle) (run' : Run.State) (r : Move) → σ ≡ Read h → r ≡ on at
      → run' ≡ record run { accumulators = set run.accumulators at.thread (get_or (cells_in loaded.cells run) (get_or run.values (value_place at.slot h.number) 0) (pos 0)) }
      → Operated (table_of loaded.program) run run' at σ r
  did_read h run' r e q x =
      let value : ℕ → ℤ = λ cells. get_or (cells_in cells run) (get_or run.values (value_place at.slot h.number) 0) (pos 0) in
      went_on run' r _ (Read h) e q
      (ap (parts_of t) (x ∙ ap (λ (cells : ℕ). record run { accumulators = set run.accumulators at.thread (value cells) }) loaded.cells_are))
      (λ state s. read_step t accepted a state at.thread at.slot s here.low (p state s) at.next (stands_at state s) h (is state s (Read h) e))

  pub did_write : (h : Handle) (run' : Run.State) (r : Move) → σ ≡ Write h → r ≡ on at
      → run' ≡ put_cell loaded.cells run (get_or run.values (value_place at.slot h.number) 0) (get_or run.accumulators at.thread (pos 0))
      → Operated (table_of loaded.program) run run' at σ r
  did_write h run' r e q x =
      let k = get_or run.values (value_place at.slot h.number) 0 in
      let value = get_or run.accumulators at.thread (pos 0) in
      went_on run' r _ (Write h) e q
      (ap (parts_of t) (x ∙ ap (λ (cells : ℕ). put_cell cells run k value) loaded.cells_are) ∙ parts_cell t run k value)
      (λ state s. write_step t accepted a state at.thread at.slot s here.low (p state s) at.next (stands_at state s) h (is state s (Write h) e))

  pub did_set : (number : ℤ) (run' : Run.State) (r : Move) → σ ≡ Set number → r ≡ on at
      → run' ≡ record run { accumulators = set run.accumulators at.thread number } → Operated (table_of loaded.program) run run' at σ r
  did_set number run' r e q x =
      went_on run' r _ (Set number) e q (ap (parts_of t) x)
      (λ state s. set_step t accepted a state at.thread at.slot s here.low (p state s) at.next (stands_at state s) number (is state s (Set number) e))

  pub did_add : (number : ℤ) (run' : Run.State) (r : Move) → σ ≡ Add number → r ≡ on at
      → run' ≡ record run { accumulators = set run.accumulators at.thread (saturate (get_or run.accumulators at.thread (pos 0) +ℤ number)) }
      → Operated (table_of loaded.program) run run' at σ r
  did_add number run' r e q x =
      went_on run' r _ (Add number) e q (ap (parts_of t) x)
      (λ state s. add_step t accepted a state at.thread at.slot s here.low (p state s) at.next (stands_at state s) number (is state s (Add number) e))

  -- TAKE, TAKER or GIVE of a handle, by what it does to the lock's word
  did_turn : (h : Handle) (turn : ℕ → ℕ → LockTurn) (run' : Run.State) (r : Move) (τ : Statement) → σ ≡ τ
      → ((state : State) (s : ShowsBounded (table_of loaded.program) (parts_of (table_of loaded.program) run) state)
      → AtLock (table_of loaded.program) (parts_of (table_of loaded.program) run) state at.thread at.slot at.next (get_or run.values (value_place at.slot h.number) 0) τ
      (turn at.thread (get_or (locks_in (table_of loaded.program).locks run) (get_or run.values (value_place at.slot h.number) 0) 0)))
      → Turned turn h.number at loaded.locks r run run'
      → Operated (table_of loaded.program) run run' at σ r
  did_turn h turn run' r τ e did w =
      go (turn at.thread (get_or (locks_in t.locks run) k 0)) did (subst (λ (locks : ℕ). Turned turn h.number at locks r run run') loaded.locks_are w)
    where
      k : ℕ
      k = get_or run.values (value_place at.slot h.number) 0

      go : (x : LockTurn)
          → ((state : State) (s : ShowsBounded (table_of loaded.program) (parts_of (table_of loaded.program) run) state)
          → AtLock (table_of loaded.program) (parts_of (table_of loaded.program) run) state at.thread at.slot at.next k τ x)
          → Handed x k at (table_of loaded.program).locks r run run' → Operated (table_of loaded.program) run run' at σ r
      go (Ok word) did w = went_on run' r _ τ e w.0 (ap (parts_of t) w.1 ∙ parts_lock t run k word) did
      go (Err why) did w = was_refused why run' r τ e w.0 w.1 did

  pub did_take : (h : Handle) (run' : Run.State) (r : Move) → σ ≡ Take h → Turned taking_word h.number at loaded.locks r run run'
      → Operated (table_of loaded.program) run run' at σ r
  did_take h run' r e w =
      did_turn h taking_word run' r (Take h) e
      (λ state s. take_step t accepted a state at.thread at.slot s here.low (p state s) at.next (stands_at state s) h (is state s (Take h) e)) w

  pub did_take_read : (h : Handle) (run' : Run.State) (r : Move) → σ ≡ TakeRead h → Turned reading_word h.number at loaded.locks r run run'
      → Operated (table_of loaded.program) run run' at σ r
  did_take_read h run' r e w =
      did_turn h reading_word run' r (TakeRead h) e
      (λ state s. take_read_step t accepted a state at.thread at.slot s here.low (p state s) at.next (stands_at state s) h (is state s (TakeRead h) e)) w

  pub did_give : (h : Handle) (run' : Run.State) (r : Move) → σ ≡ Give h → Turned giving_word h.number at loaded.locks r run run'
      → Operated (table_of loaded.program) run run' at σ r
  did_give h run' r e w =
      did_turn h giving_word run' r (Give h) e
      (λ state s. give_step t accepted a state at.thread at.slot s here.low (p state s) at.next (stands_at state s) h (is state s (Give h) e)) w

  pub did_point : (h g : Handle) (run' : Run.State) (r : Move) → σ ≡ Point h g → r ≡ on at
      → run' ≡ record run { values = set run.values (value_place at.slot h.number) (get_or run.values (value_place at.slot g.number) 0) }
      → Operated (table_of loaded.program) run run' at σ r
  did_point h g run' r e q x =
      went_on run' r _ (Point h g) e q (ap (parts_of t) x)
      (λ state s. point_step t accepted a state at.thread at.slot s here.low (p state s) at.next (stands_at state s) h g (is state s (Point h g) e))

  pub did_call : (q : ℕ) (arguments : Arguments) (run' : Run.State) (r : Move) → σ ≡ Call q arguments → Called loaded.program q arguments at r run run'
      → Operated (table_of loaded.program) run run' at σ r
  did_call q arguments run' r e w =
      let u = looked q (routine_there q arguments (inl e)) in
      went_on run' r _ (Call q arguments) e w.answer_is (ap (parts_of t) w.state_is)
      (λ state s. call_step t accepted a state at.thread at.slot s here.low (p state s) at.next (stands_at state s) q arguments
      (get_or (first_statements loaded.program) q 0) (get_or (first_handles loaded.program) q 0) (get_or (first_handles loaded.program) (q + 1) 0) u.first_is u.from_is u.end_is run'.values (is state s (Call q arguments) e) w.entered)

  pub did_start : (q : ℕ) (arguments : Arguments) (run' : Run.State) (r : Move) → σ ≡ Start q arguments → Started loaded.program q arguments at r run run'
      → Operated (table_of loaded.program) run run' at σ r
  did_start q arguments run' r e (inl w) =
      let u = looked q (routine_there q arguments (inr e)) in
      was_refused Full run' r (Start q arguments) e w.answer_is w.state_is
      (λ state s. start_refused t accepted a state at.thread at.slot s here.low (p state s) at.next (stands_at state s) q arguments
      (get_or (first_statements loaded.program) q 0) (get_or (first_handles loaded.program) q 0) (get_or (first_handles loaded.program) (q + 1) 0) u.first_is u.from_is u.end_is (is state s (Start q arguments) e) w.full)
  did_start q arguments run' r e (inr w) =
      let u = looked q (routine_there q arguments (inr e)) in
      went_on run' r _ (Start q arguments) e w.answer_is (ap (parts_of t) w.state_is)
      (λ state s. start_step t accepted a state at.thread at.slot s here.low (p state s) at.next (stands_at state s) q arguments
      (get_or (first_statements loaded.program) q 0) (get_or (first_handles loaded.program) q 0) (get_or (first_handles loaded.program) (q + 1) 0) u.first_is u.from_is u.end_is run'.values (is state s (Start q arguments) e) w.free w.entered)

  pub did_jump : (target : Target) (r : Move) → σ ≡ Jump target → r ≡ Ok (Some target.statement) → Operated (table_of loaded.program) run run at σ r
  did_jump target r e q =
      went_to run r target.statement a (Jump target) e q
      (omega (arith, target_low target.statement ((operands here.standing.state shown_here (Jump target) e).target target.statement refl))) refl
      (λ state s. jump_step t accepted a state at.thread at.slot s here.low (p state s) at.next (stands_at state s) target (is state s (Jump target) e))

  pub did_jump_zero : (target : Target) (r : Move) → σ ≡ JumpZero target
      → r ≡ Ok (Some (cond (is_zero (get_or run.accumulators at.thread (pos 0))) target.statement (at.next + 1)))
      → Operated (table_of loaded.program) run run at σ r
  did_jump_zero target r e q =
      let z = is_zero (get_or run.accumulators at.thread (pos 0)) in
      went_to run r (cond z target.statement (at.next + 1)) a (JumpZero target) e q (small z) refl
      (λ state s. jump_zero_step t accepted a state at.thread at.slot s here.low (p state s) at.next (stands_at state s) target (is state s (JumpZero target) e))
    where
      small : (b : Bool) → cond b target.statement (at.next + 1) < 4294967296
      small true = omega (arith, target_low target.statement ((operands here.standing.state shown_here (JumpZero target) e).target target.statement refl))
      small false = next_small

  pub did_return : (run' : Run.State) (r : Move) → σ ≡ Return → r ≡ Ok None
      → run' ≡ record run { counts = set run.counts at.thread (get_or run.counts at.thread 0 - 1) }
      → Operated (table_of loaded.program) run run' at σ r
  did_return run' r e q x =
      left run' r (Ok None) _ (Ok Return) q tt (ap (parts_of t) x) (ap Ok e)
      (λ state s. return_step t accepted a state at.thread at.slot s here.low (p state s) at.next (stands_at state s) (is state s Return e))
