-- The invariant holds at the start of a run and is kept by every step, so it holds after every run. Assumes nothing.
use Rattle.std.specs.Prelude.{ℕ, ◌<◌, ◌≡◌, Bool, true, false, cond, ◌⊎◌, ltb, pos, length, replicate}
use Rattle.std.proofs.Math.Path.{refl}
use Rattle.std.proofs.Common.{sym, ap, subst, inl, inr, ltb-true, arith}
use mathlib.Core.List.{List, [], ◌∷◌}
use Rattle.std.proofs.Math.IntN.{ℤ}
use Rattle.std.proofs.Math.ListN.{length-replicate}
use Rattle.table.specs.Table.{Table, routine, statement}
use Rattle.table.specs.Accepted.{Accepted}
use Rattle.table.specs.declared.Arguments.{Arguments}
use Rattle.machine.specs.State.{State, Frame, Holder, free, thread, opened, start}
use Rattle.machine.specs.Step.{Answer, refused, stepped, step, after, run, run_by}
use Rattle.machine.specs.Stretch.{Stepping}
use Rattle.report.specs.Rules.{Copies, Families, Rules}
use Rattle.guarantee.specs.Invariant.{Mark, newest, frames, Stands, Invariant}
use Rattle.guarantee.proofs.Shrink.{first_place}
use Rattle.guarantee.proofs.Frames.{opened_valued}
use Rattle.guarantee.proofs.Threads.{thread_added}
use Rattle.guarantee.proofs.Operations.{Kept, operated}

module _ {t : Table} (accepted : Accepted t) (copies : Copies t) (f : Families) (rules : Rules copies f) where
  -- ---- a step

  pub step_keeps : (state : State) (marks : ℕ → List Mark) → Invariant copies f state marks → (n : ℕ) → Kept copies f state (step t state n)
  unfolding step
  step_keeps state marks inv n = started? (ltb n (length state.threads)) refl
    where
      a : ℤ
      a = (thread state n).accumulator

      go_on : n < length state.threads → (ms : List Mark) → marks n ≡ ms → Kept copies f state (stepped t state n a (frames copies f ms))
      go_on there [] e = (marks, inv)
      go_on there (m ∷ ms) e = operated accepted copies f rules state marks inv n there a m ms e (statement t m.place) refl

      started? : (b : Bool) → ltb n (length state.threads) ≡ b → Kept copies f state (cond b (stepped t state n a (thread state n).frames) (refused 14))
      started? true e =
          subst (λ (fs : List Frame). Kept copies f state (stepped t state n a fs)) (sym (inv.shape n))
          (go_on (ltb-true n (length state.threads) e) (marks n) refl)
      started? false e = (marks, inv)

  -- ---- a run

  pub run_keeps : (ns : List ℕ) (state : State) (marks : ℕ → List Mark) → Invariant copies f state marks
      → (marks' : ℕ → List Mark) × Invariant copies f (run t state ns) marks'
  unfolding run
  run_keeps [] state marks inv = (marks, inv)
  run_keeps (n ∷ ns) state marks inv =
      let kept = step_keeps state marks inv n in
      run_keeps ns (after state (step t state n)) kept.0 kept.1

  -- ---- the start: a thread is added where there is none

  no_threads : State
  no_threads = record { threads = []; cells = replicate t.cells (pos 0); locks = replicate t.locks free }

  no_arguments : Arguments
  no_arguments = record { first = 0; second = 0; third = 0; fourth = 0 }

  main_mark : Mark
  unfolding no_arguments
  main_mark = record { copy = copies.main; place = (routine t 0).first; values = (opened t 0 [] no_arguments).values }

  nobody : Invariant copies f no_threads (λ n. [])
  unfolding no_threads
  nobody =
      record {
        all_locks_lem = length-replicate t.locks free;
        shape = λ n. refl;
        good = λ n. tt;
        apart = λ m n x other clash. absurd clash.touches;
        behind = λ several. absurd (omega arith);
      }

  main_stands : (locks : List Holder) → Stands copies f locks 0 main_mark
  unfolding main_mark
  main_stands locks =
      record {
        here = first_place accepted copies copies.main 0 copies.main_there copies.main_of;
        valued = opened_valued accepted copies f rules copies.main 0 [] no_arguments copies.main_there copies.main_of (λ k h. absurd (none k h));
        holds = λ w k held. absurd ((rules.held_rules w).by_main k held);
      }
    where
      none : (k : ℕ) → k < (routine t 0).parameters → ⊥
      none k h = omega (arith, accepted.first_parameters)

  main_frame : opened t 0 [] no_arguments ≡ newest copies f main_mark
  unfolding main_mark opened
  main_frame = rw copies.main_of

  pub start_keeps : (marks : ℕ → List Mark) × Invariant copies f (start t) marks
  unfolding start no_threads no_arguments
  start_keeps = (
    _,
    thread_added copies f rules no_threads (λ n. []) nobody (pos 0) (opened t 0 [] no_arguments ∷ []) (main_mark ∷ [])
        (ap (λ (g : Frame). g ∷ []) main_frame) (main_stands no_threads.locks, tt) (λ m x clash. absurd clash.touches_too)
        (λ some_thread. absurd (omega arith)),
  )

  -- ---- by any way to step the machine

  module _ (by : State → ℕ → Answer) (steps : Stepping t by) where
    -- a step is the machine's step, or a refusal
    pub by_keeps : (state : State) (marks : ℕ → List Mark) → Invariant copies f state marks → (n : ℕ) → Kept copies f state (by state n)
    by_keeps state marks inv n = go (steps state n)
      where
        go : (by state n ≡ step t state n) ⊎ ((number : ℕ) × (by state n ≡ refused number)) → Kept copies f state (by state n)
        go (inl e) = subst (Kept copies f state) (sym e) (step_keeps state marks inv n)
        go (inr (number, e)) = subst (Kept copies f state) (sym e) (marks, inv)

    run_by_keeps : (ns : List ℕ) (state : State) (marks : ℕ → List Mark) → Invariant copies f state marks
        → (marks' : ℕ → List Mark) × Invariant copies f (run_by by state ns) marks'
    unfolding run_by
    run_by_keeps [] state marks inv = (marks, inv)
    run_by_keeps (n ∷ ns) state marks inv =
        let kept = by_keeps state marks inv n in
        run_by_keeps ns (after state (by state n)) kept.0 kept.1

  -- so it holds after every list of thread numbers
  pub reached : (by : State → ℕ → Answer) → Stepping t by → (ns : List ℕ) → (marks : ℕ → List Mark) × Invariant copies f (run_by by (start t) ns) marks
  reached by steps ns = run_by_keeps by steps ns (start t) start_keeps.0 start_keeps.1
