-- Demand 3 over sets that satisfy the rules: if the report is clean, then after every run (a) and (b) hold. Assumes nothing.
use Rattle.std.specs.Prelude.{ℕ, ◌<◌, ◌≡◌, Bool, true, false, List, [], ◌∷◌, ◌⊎◌, length, Some}
use Rattle.std.proofs.Common.{sym, subst, ◌∙◌, inl, inr, ⊎_elim, arith}
use Rattle.table.specs.Table.{Table, statement}
use Rattle.table.specs.View.{view, accesses}
use Rattle.table.specs.Accepted.{Accepted, Operands, OwnOfKind}
use Rattle.table.specs.declared.Statement.{Statement}
use Rattle.machine.specs.State.{State, Holder, holds_in, holder, thread, start}
use Rattle.machine.specs.Step.{Answer, run, run_by}
use Rattle.machine.specs.Stretch.{Stepping}
use Rattle.machine.specs.Words.{AccessIn, ReleaseIn, Next, Access, Release, HoldsIn, Holds, Safe}
use Rattle.machine.proofs.LockLaws.{writer_alone}
use Rattle.report.specs.Rules.{Copies, Place, Accesses, Families, Rules, Clean}
use Rattle.guarantee.specs.Invariant.{Mark, Several, newest, frames, Fits, Stands, Good, Potential, Behind, Invariant}
use Rattle.guarantee.proofs.Threads.{with_frames_started}
use Rattle.guarantee.proofs.Runs.{run_keeps, start_keeps, reached}

-- what the invariant says of a thread that stands before an access: where it stands, that the access is one by flow sets, that it may touch the cell, that
-- it was started, and that with another one a START can precede the access
pub record Before {t : Table} (copies : Copies t) (f : Families) (state : State) (n : ℕ) (ms : List Mark) (w : Bool) (x : ℕ) : Type 0 where
  pub copy : ℕ
  pub place : ℕ
  pub here : Place copies copy place
  pub accesses : Accesses copies f.flow copy (statement t place) w x
  pub is_cell : x < t.cells
  pub touches : Potential copies f ms w x
  pub holds : (w : Bool) (k : ℕ) → f.held w copy place k → HoldsIn w state n k
  pub started : n < length state.threads
  pub preceded : Several state → f.preceded copy place

-- two threads that hold one lock, one of them for writing, are one
one_of_two : (h : Holder) (m n : ℕ) (v w : Bool) → (v ≡ true) ⊎ (w ≡ true) → holds_in v h m ≡ true → holds_in w h n ≡ true → m ≡ n
one_of_two h m n v w (inl e) one too = writer_alone w h m n (subst (λ (b : Bool). holds_in b h m ≡ true) e one) too
one_of_two h m n v w (inr e) one too = sym (writer_alone v h n m (subst (λ (b : Bool). holds_in b h n ≡ true) e too) one)

module _ {t : Table} (accepted : Accepted t) (copies : Copies t) (f : Families) (rules : Rules copies f) where
  pub operands : (m : Mark) → Place copies m.copy m.place → Operands t (copies.of m.copy) (statement t m.place)
  operands m here = accepted.operands _ m.place (copies.of_there m.copy here.there) here.inside

  -- an access, by what the handle refers to, is one by flow sets, of a cell
  by_flow : (state : State) (n : ℕ) (m : Mark) (w : Bool) (x : ℕ) → Stands copies f state.locks n m → (σ : Statement)
      → Operands t (copies.of m.copy) σ → AccessIn (newest copies f m) σ w x → Accesses copies f.flow m.copy σ w x × (x < t.cells)
  by_flow state n m w x top σ ops (h, is, at) =
      let own = accessed_own w h is in
      let fits : Fits copies f m.copy h x = subst (Fits copies f m.copy h) at (top.valued h own.own) in
      ((h, is, fits.flows), fits.cell own.kind)
    where
      accessed_own : (w : Bool) (h : ℕ) → accesses w (view σ) ≡ Some h → OwnOfKind t (copies.of m.copy) 1 h
      accessed_own true h is = ops.writes h is
      accessed_own false h is = ops.reads h is

  access_before : (state : State) (n : ℕ) (w : Bool) (x : ℕ) (ms : List Mark) → (thread state n).frames ≡ frames copies f ms
      → Good copies f state.locks n ms → (Several state → Behind copies f ms) → Next t (λ g σ. AccessIn g σ w x) (frames copies f ms)
      → Before copies f state n ms w x
  access_before state n w x [] shape good behind access = absurd access
  access_before state n w x (m ∷ ms) shape (top, below) behind access =
      let known = by_flow state n m w x top (statement t m.place) (operands m top.here) access in
      record {
        copy = m.copy;
        place = m.place;
        here = top.here;
        accesses = known.0;
        is_cell = known.1;
        touches = inl (inl (inl known.0));
        holds = top.holds;
        started = with_frames_started state.threads n shape;
        preceded = λ several. (behind several).0;
      }

  -- a release of a GIVE that is not stray is of the lock that is held
  not_stray_releases : Clean copies f → (state : State) (n k : ℕ) (m : Mark) → Stands copies f state.locks n m
      → ReleaseIn (newest copies f m) (statement t m.place) k → Holds state n k
  not_stray_releases clean state n k m top (h, is, at) =
      let sound = clean.not_stray m.copy m.place h top.here is in
      let own = (operands m top.here).gives h is in
      let same : k ≡ sound.lock = sym at ∙ sound.one.alone _ (top.valued h own.own).flows in
      rw same (top.holds false sound.lock sound.before)

  release_held : Clean copies f → (state : State) (n k : ℕ) (ms : List Mark) → Good copies f state.locks n ms
      → Next t (λ g σ. ReleaseIn g σ k) (frames copies f ms) → Holds state n k
  release_held clean state n k [] good release = absurd release
  release_held clean state n k (m ∷ ms) (top, below) release =
      not_stray_releases clean state n k m top release

  -- a thread that stands before an access
  pub before : (state : State) (marks : ℕ → List Mark) → Invariant copies f state marks → (n : ℕ) (w : Bool) (x : ℕ) → Access t state n w x
      → Before copies f state n (marks n) w x
  before state marks inv n w x access =
      access_before state n w x (marks n) (inv.shape n) (inv.good n) (λ several. inv.behind several n)
      (subst (Next t (λ g σ. AccessIn g σ w x)) (inv.shape n) access)

  -- (a) and (b) follow from the invariant and a clean report
  pub invariant_safe : Clean copies f → (state : State) (marks : ℕ → List Mark) → Invariant copies f state marks → Safe t state
  invariant_safe clean state marks inv = record { no_race = no_race; no_stray = no_stray }
    where
      no_race : (m n x : ℕ) (v w : Bool) → (m ≡ n → ⊥) → Access t state m v x → Access t state n w x → (v ≡ true) ⊎ (w ≡ true) → ⊥
      no_race m n x v w other one another writes =
          let here = before state marks inv m v x one in
          let too = before state marks inv n w x another in
          let several : Several state = omega (arith, here.started, too.started) in
          ⊎_elim
          (λ unshared. unshared
          (inv.apart m n x other (record { v = v; w = w; touches = here.touches; touches_too = too.touches; one_writes = writes })))
          (λ lock. other
          (one_of_two (holder state lock.0) m n v w writes
          (here.holds v lock.0 (lock.1 here.copy here.place v here.here here.accesses (here.preceded several)))
          (too.holds w lock.0 (lock.1 too.copy too.place w too.here too.accesses (too.preceded several)))))
          (clean.guarded x here.is_cell)

      no_stray : (n k : ℕ) → Release t state n k → Holds state n k
      no_stray n k release =
          release_held clean state n k (marks n) (inv.good n) (subst (Next t (λ g σ. ReleaseIn g σ k)) (inv.shape n) release)

  -- demand 3, over any copies and any sets that satisfy the rules: a clean report means that (a) and (b) hold after every list of thread numbers
  pub clean_runs_safe : Clean copies f → (ns : List ℕ) → Safe t (run t (start t) ns)
  clean_runs_safe clean ns =
      let begun = start_keeps accepted copies f rules in
      let kept = run_keeps accepted copies f rules ns (start t) begun.0 begun.1 in
      invariant_safe clean (run t (start t) ns) kept.0 kept.1

  -- and by any way to step the machine
  pub clean_runs_by_safe : Clean copies f → (by : State → ℕ → Answer) → Stepping t by → (ns : List ℕ) → Safe t (run_by by (start t) ns)
  clean_runs_by_safe clean by steps ns = let r = reached accepted copies f rules by steps ns in invariant_safe clean (run_by by (start t) ns) r.0 r.1
