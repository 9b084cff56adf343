-- C-22 over sets that satisfy the rules: while a thread holds a lock that is common to a cell, no step of another thread changes the cell. It needs no clean report, and
-- the cell need not be shared. Assumes nothing.
use Rattle.std.specs.Prelude.{ℕ, ◌<◌, ◌≡◌, true, false, List, [], ◌∷◌, length}
use Rattle.std.proofs.Common.{ap, subst}
use Rattle.table.specs.Table.{Table}
use Rattle.table.specs.Accepted.{Accepted}
use Rattle.machine.specs.State.{State, holder, start}
use Rattle.machine.specs.Step.{Answer, after, run_by}
use Rattle.machine.specs.Words.{Next, Access, Holds}
use Rattle.machine.proofs.LockLaws.{writer_alone}
use Rattle.machine.specs.Stretch.{HeldByStarted, TakeIn, Stepping, Gets, Keeps, StaysPut}
use Rattle.machine.proofs.StretchLaws.{several_started, by_leaves, by_started, reached_started, keeps_hold}
use Rattle.report.specs.Rules.{Copies, Families, Rules, Common}
use Rattle.guarantee.specs.Invariant.{Mark, Several, frames, Good, Invariant}
use Rattle.guarantee.proofs.Runs.{by_keeps, reached}
use Rattle.guarantee.proofs.Theorem.{Before, before, operands}

module _ {t : Table} (accepted : Accepted t) (copies : Copies t) (f : Families) (rules : Rules copies f) where
  -- of a state that is reached: while thread m holds a common lock of cell x, in either way, no other thread stands before a WRITE of x. Two threads
  -- were started, so the WRITE is a counted one, and its thread holds the lock for writing
  pub no_write_beside : (state : State) (marks : ℕ → List Mark) → Invariant copies f state marks → (x k : ℕ) → Common copies f.flow f.held f.preceded x k
      → HeldByStarted state → (m : ℕ) → Holds state m k → (n : ℕ) → (n ≡ m → ⊥) → Access t state n true x → ⊥
  no_write_beside state marks inv x k common held m holds n other writes =
      let here : Before copies f state n (marks n) true x = before accepted copies f rules state marks inv n true x writes in
      let several : Several state = several_started state held m n k other holds here.started in
      other
      (writer_alone false (holder state k) n m
      (here.holds true k (common here.copy here.place true here.here here.accesses (here.preceded several))) holds)

  module _ (by : State → ℕ → Answer) (steps : Stepping t by) where
    -- a lock that a statement takes is there
    takes_there : (state : State) (m k : ℕ) (ms : List Mark) → Good copies f state.locks m ms → Next t (λ g σ. TakeIn g σ k) (frames copies f ms) → k < t.locks
    takes_there state m k [] good takes = absurd takes
    takes_there state m k (mark ∷ ms) (top, below) (h, is, at) =
        let own = (operands accepted copies f rules mark top.here).takes h is in
        subst (λ (j : ℕ). j < t.locks) at ((top.valued h own.own).lock own.kind)

    -- so the next step leaves the cell, unless it is thread m's own
    next_stays_put : (x k : ℕ) → Common copies f.flow f.held f.preceded x k → (m : ℕ) (state : State) (marks : ℕ → List Mark)
        → Invariant copies f state marks → HeldByStarted state → Holds state m k → (n : ℕ) → StaysPut t by m x state (n ∷ [])
    next_stays_put x k common m state marks inv held holds n = (
      λ other. let none = no_write_beside state marks inv x k common held m holds n other in ((by_leaves t by steps state n).cells x none, none),
      tt,
    )

    -- and so do all steps during which the lock is not given up
    later_stays_put : (x k : ℕ) → Common copies f.flow f.held f.preceded x k → (m : ℕ) (ns : List ℕ) (state : State) (marks : ℕ → List Mark)
        → Invariant copies f state marks → HeldByStarted state → Holds state m k → Keeps t by m k state ns → StaysPut t by m x state ns
    later_stays_put x k common m [] state marks inv held holds keeps = tt
    later_stays_put x k common m (n ∷ ns) state marks inv held holds (not_given, keeps) =
        let kept = by_keeps accepted copies f rules by steps state marks inv n in (
          (next_stays_put x k common m state marks inv held holds n).0,
          later_stays_put x k common m ns (after state (by state n)) kept.0 kept.1 (by_started t by steps state n held)
              (keeps_hold t by steps m k state n not_given holds) keeps,
        )

    -- the step form, after every list of thread numbers
    pub common_lock_next : (x k : ℕ) → Common copies f.flow f.held f.preceded x k → (ns : List ℕ) (m : ℕ) → Holds (run_by by (start t) ns) m k → (n : ℕ)
        → StaysPut t by m x (run_by by (start t) ns) (n ∷ [])
    common_lock_next x k common ns m holds n =
        let before = reached accepted copies f rules by steps ns in
        next_stays_put x k common m (run_by by (start t) ns) before.0 before.1 (reached_started t by steps ns) holds n

    -- C-22: "From the step by which a thread gets that lock, for reading or writing, until it gives it up, no step of another thread changes the cell", after every
    -- list of thread numbers
    pub common_lock_stays_put : (x k : ℕ) → Common copies f.flow f.held f.preceded x k → (ns : List ℕ) (m : ℕ) (taken : State)
        → Gets t by k (run_by by (start t) ns) m taken → (later : List ℕ) → Keeps t by m k taken later → StaysPut t by m x taken later
    common_lock_stays_put x k common ns m taken gets later =
        let state = run_by by (start t) ns in
        let before = reached accepted copies f rules by steps ns in
        let inv = before.1 in
        let kept = by_keeps accepted copies f rules by steps state before.0 inv m in
        let there : k < length state.locks =
        rw inv.all_locks_lem (takes_there state m k (before.0 m) (inv.good m) (subst (Next t (λ g σ. TakeIn g σ k)) (inv.shape m) gets.stands)) in
        later_stays_put x k common m later taken kept.0 (subst (λ (s : State). Invariant copies f s kept.0) (ap (after state) gets.runs) kept.1)
        (subst HeldByStarted (ap (after state) gets.runs) (by_started t by steps state m (reached_started t by steps ns)))
        ((by_leaves t by steps state m).gets taken gets.runs k there gets.stands)
