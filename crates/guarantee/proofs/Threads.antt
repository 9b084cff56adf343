-- The invariant is kept where one thread changes and where a thread is added. Assumes nothing.
use Rattle.std.specs.Prelude.{ℕ, zero, suc, ◌<◌, ◌≡◌, refl, Bool, List, [], ◌∷◌, ◌++◌, ℤ, get_or, length, set}
use Rattle.std.proofs.Common.{arith, length-set, length-append, get_or-set_same, get_or-set_other}
use Rattle.std.proofs.Math.Seq.{get_or-append_seam}
use Rattle.table.specs.Table.{Table}
use Rattle.machine.specs.State.{State, Thread, Frame, Holder, ended, thread}
use Rattle.machine.specs.Step.{with_thread}
use Rattle.report.specs.Rules.{Copies, Clash, Families, Rules}
use Rattle.guarantee.proofs.Lists.{get_d_snoc_other, replaced, replaced_all}
use Rattle.guarantee.specs.Invariant.{Mark, Several, frames, Has, Good, Potential, Behind, Invariant}
use Rattle.guarantee.proofs.Shrink.{clash_flip, clash_wider}
use Rattle.guarantee.proofs.Frames.{good_still}

-- a thread that has frames was started
pub with_frames_started : (l : List Thread) (n : ℕ) {g : Frame} {gs : List Frame} → (get_or l n ended).frames ≡ g ∷ gs → n < length l
with_frames_started [] n e = let z : ◌≡◌ {A = ℕ} 0 1 = cc in absurd (omega arith)
with_frames_started (x ∷ l) zero e = omega arith
with_frames_started (x ∷ l) (suc n) e = let there = with_frames_started l n e in omega arith

module _ {t : Table} (copies : Copies t) (f : Families) (rules : Rules copies f) where
  -- where thread n was started, a START can precede the statements of every other: it is a second one, or has no frames
  pub others_behind : (state : State) (marks : ℕ → List Mark) → Invariant copies f state marks → (n o : ℕ) → n < length state.threads → (o ≡ n → ⊥)
      → Behind copies f (marks o)
  others_behind state marks inv n o there other = go (marks o) (inv.shape o) (λ several. inv.behind several o)
    where
      go : (ms : List Mark) → (thread state o).frames ≡ frames copies f ms → (Several state → Behind copies f ms) → Behind copies f ms
      go [] shape behind = tt
      go (m ∷ ms) shape behind =
          let started : o < length state.threads = with_frames_started state.threads o shape in
          behind (omega arith)

  -- thread n changes: its new stack is good, may touch no more than before and is behind a START if there are several, and the others lose no lock
  pub thread_changed : (state : State) (marks : ℕ → List Mark) → Invariant copies f state marks → (n : ℕ) → n < length state.threads → (b : ℤ)
      (fs : List Frame) (cells : List ℤ) (locks : List Holder) (ms : List Mark) → fs ≡ frames copies f ms → length locks ≡ t.locks
      → Good copies f locks n ms → ((m : ℕ) (w : Bool) (k : ℕ) → (m ≡ n → ⊥) → Has copies f state.locks m w k → Has copies f locks m w k)
      → ((w : Bool) (x : ℕ) → Potential copies f ms w x → Potential copies f (marks n) w x) → (Several state → Behind copies f ms)
      → Invariant copies f (with_thread state n b fs cells locks) (replaced marks n ms)
  thread_changed state marks inv n there b fs cells locks ms shape all good others less behind =
      record {
        all_locks_lem = all;
        shape = replaced_all (λ m s. (get_or (set state.threads n new) m ended).frames ≡ frames copies f s) marks n ms this_shape other_shape;
        good = replaced_all (λ m s. Good copies f locks m s) marks n ms good
            (λ m other. good_still copies f rules state.locks locks m (marks m) (λ w k. others m w k other) (inv.good m));
        apart = λ m k x other clash. inv.apart m k x other (clash_wider (λ w. within m w x) (λ w. within k w x) clash);
        behind = λ several.
            let still : Several state = rw length-set at several in
            replaced_all (λ m s. Behind copies f s) marks n ms (behind still) (λ m other. inv.behind still m);
      }
    where
      new : Thread
      new = record { accumulator = b; frames = fs }

      this_shape : (get_or (set state.threads n new) n ended).frames ≡ frames copies f ms
      this_shape = rw (get_or-set_same state.threads n new ended there) shape

      other_shape : (m : ℕ) → (m ≡ n → ⊥) → (get_or (set state.threads n new) m ended).frames ≡ frames copies f (marks m)
      other_shape m other = rw (get_or-set_other state.threads n m new ended other) (inv.shape m)

      within : (m : ℕ) (w : Bool) (x : ℕ) → Potential copies f (replaced marks n ms m) w x → Potential copies f (marks m) w x
      within m w x =
          replaced_all (λ m s. Potential copies f s w x → Potential copies f (marks m) w x) marks n ms (less w x) (λ m other p. p) m

  -- a thread is added: its stack is good, what clashes with another thread is shared, and if it is not the first, all are behind a START
  pub thread_added : (state : State) (marks : ℕ → List Mark) → Invariant copies f state marks → (b : ℤ) (fs : List Frame) (ms : List Mark)
      → fs ≡ frames copies f ms → Good copies f state.locks (length state.threads) ms
      → ((m x : ℕ) → Clash (Potential copies f ms) (Potential copies f (marks m)) x → f.shared x)
      → (0 < length state.threads → Behind copies f ms × ((m : ℕ) → Behind copies f (marks m)))
      → Invariant copies f
      (record { threads = state.threads ++ record { accumulator = b; frames = fs } ∷ []; cells = state.cells; locks = state.locks })
      (replaced marks (length state.threads) ms)
  thread_added state marks inv b fs ms shape good parted behind =
      record {
        all_locks_lem = inv.all_locks_lem;
        shape = replaced_all (λ m s. (get_or (state.threads ++ new ∷ []) m ended).frames ≡ frames copies f s) marks n ms this_shape other_shape;
        good = replaced_all (λ m s. Good copies f state.locks m s) marks n ms good (λ m other. inv.good m);
        apart = λ m k x. replaced_all (λ m s. (m ≡ k → ⊥) → Clash (Potential copies f s) (Potential copies f (replaced marks n ms k)) x → f.shared x)
            marks n ms (new_old k x) (λ m other. old_any m k x) m;
        behind = λ several.
            let all = behind (omega (arith, length-append state.threads (new ∷ []))) in
            replaced_all (λ m s. Behind copies f s) marks n ms all.0 (λ m other. all.1 m);
      }
    where
      n : ℕ
      n = length state.threads

      new : Thread
      new = record { accumulator = b; frames = fs }

      this_shape : (get_or (state.threads ++ new ∷ []) n ended).frames ≡ frames copies f ms
      this_shape = rw (get_or-append_seam state.threads new [] ended) shape

      other_shape : (m : ℕ) → (m ≡ n → ⊥) → (get_or (state.threads ++ new ∷ []) m ended).frames ≡ frames copies f (marks m)
      other_shape m other = rw (get_d_snoc_other state.threads new ended m other) (inv.shape m)

      new_old : (k x : ℕ) → (n ≡ k → ⊥) → Clash (Potential copies f ms) (Potential copies f (replaced marks n ms k)) x → f.shared x
      new_old k x =
          replaced_all (λ k s. (n ≡ k → ⊥) → Clash (Potential copies f ms) (Potential copies f s) x → f.shared x) marks n ms
          (λ other clash. absurd (other refl)) (λ k differs other clash. parted k x clash) k

      old_any : (m k x : ℕ) → (m ≡ k → ⊥) → Clash (Potential copies f (marks m)) (Potential copies f (replaced marks n ms k)) x → f.shared x
      old_any m k x =
          replaced_all (λ k s. (m ≡ k → ⊥) → Clash (Potential copies f (marks m)) (Potential copies f s) x → f.shared x) marks n ms
          (λ other clash. parted m x (clash_flip clash)) (λ k differs other clash. inv.apart m k x other clash) k
