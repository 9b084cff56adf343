-- What the arrays show after a change: one thread's frames, one thread more, a new frame. Assumes nothing.
use Rattle.std.specs.Prelude.{ℕ, ◌+◌, ◌-◌, ◌*◌, ◌%◌, ◌<◌, ◌≤◌, ◌≡◌, refl, Bool, List, [], ◌∷◌, ◌++◌, ltb, ℤ, pos, length, set}
use Rattle.std.proofs.Math.Path.{sym, subst}
use Rattle.std.proofs.Common.{ap, ◌∙◌, arith, length-set, length-append, get_or-set_same, get_or-set_other}
use Rattle.std.proofs.Math.Bool.{true, false}
use Rattle.std.proofs.Math.Decide.{ℕ_discrete}
use borrow.Author.Tests.{eqb-true, eq-eqb, ltb-true, ltb-false}
use Rattle.std.proofs.Math.Dec.{eqb}
use Rattle.std.proofs.Math.ListN.{get_or, get_or-append}
use Rattle.std.proofs.Math.Seq.{get_or-append_seam}
use Rattle.table.specs.Table.{Table, declaration, routine, passed, OwnHandle}
use Rattle.table.specs.Tabulate.{tabulate}
use Rattle.table.proofs.TabulateLaws.{length_tabulate, get_d_tabulate}
use Rattle.table.specs.Accepted.{Accepted}
use Rattle.table.specs.declared.Arguments.{Arguments}
use Rattle.machine.specs.State.{State, Frame, Thread, Holder, ended, thread, entered, opened}
use Rattle.run_state.specs.Shown.{Arrays, value_place, ShowsFrame, ShowsFrames, ShowsThread, Lengths, ShowsLocks, Shows, entry_value, start_value, Entered}

-- ---- frames are shown as before where their slots are as before

-- the slots from `low` to `high` are as they were
pub record Kept (nexts nexts' values values' : List ℕ) (low high : ℕ) : Type 0 where
  pub nexts_kept : (s : ℕ) → low ≤ s → s < high → get_or nexts' s 0 ≡ get_or nexts s 0
  pub values_kept : (s j : ℕ) → low ≤ s → s < high → j < 8 → get_or values' (s * 8 + j) 0 ≡ get_or values (s * 8 + j) 0

pub kept_both : (n₁ n₂ n₃ v₁ v₂ v₃ : List ℕ) (low high : ℕ) → Kept n₁ n₂ v₁ v₂ low high → Kept n₂ n₃ v₂ v₃ low high → Kept n₁ n₃ v₁ v₃ low high
kept_both n₁ n₂ n₃ v₁ v₂ v₃ low high k l =
    record {
      nexts_kept = λ s a b. l.nexts_kept s a b ∙ k.nexts_kept s a b;
      values_kept = λ s j a b c. l.values_kept s j a b c ∙ k.values_kept s j a b c;
    }

-- a store to a slot's next statement outside
pub kept_next : (nexts values : List ℕ) (slot x low high : ℕ) → ((s : ℕ) → low ≤ s → s < high → s ≡ slot → ⊥) → Kept nexts (set nexts slot x) values values low high
kept_next nexts values slot x low high out =
    record { nexts_kept = λ s a b. get_or-set_other nexts slot s x 0 (out s a b); values_kept = λ s j a b c. refl }

-- a store to a value of a slot outside
pub kept_value : (nexts values : List ℕ) (slot h x low high : ℕ) → ((s : ℕ) → low ≤ s → s < high → s ≡ slot → ⊥)
    → Kept nexts nexts values (set values (value_place slot h) x) low high
kept_value nexts values slot h x low high out =
    record {
      nexts_kept = λ s a b. refl;
      values_kept = λ s j a b c. get_or-set_other values (value_place slot h) (s * 8 + j) x 0 (λ e. out s a b (omega (arith, e)));
    }

-- a new frame in a slot outside
pub kept_entered : (t : Table) (nexts values values' : List ℕ) (slot caller from end low high : ℕ) (arguments : Arguments)
    → Entered t values values' slot caller from end arguments → ((s : ℕ) → low ≤ s → s < high → s ≡ slot → ⊥) → Kept nexts nexts values values' low high
kept_entered t nexts values values' slot caller from end low high arguments e out =
    record { nexts_kept = λ s a b. refl; values_kept = λ s j a b c. at s j c (out s a b) (ltb s slot) refl }
  where
    at : (s j : ℕ) → j < 8 → (s ≡ slot → ⊥) → (b : Bool) → ltb s slot ≡ b → get_or values' (s * 8 + j) 0 ≡ get_or values (s * 8 + j) 0
    at s j c apart true q = e.kept_below (s * 8 + j) (omega (arith, ltb-true s slot q))
    at s j c apart false q = e.kept_above (s * 8 + j) (omega (arith, ltb-false s slot q, apart))

module _ (t : Table) where
  pub frame_kept : (nexts nexts' values values' : List ℕ) (slot : ℕ) (f : Frame) → ShowsFrame t nexts values slot f → Kept nexts nexts' values values' slot (slot + 1)
      → ShowsFrame t nexts' values' slot f
  frame_kept nexts nexts' values values' slot f s k =
      record {
        next_is = k.nexts_kept slot (omega arith) (omega arith) ∙ s.next_is;
        long = s.long;
        value_is = λ h o. k.values_kept slot (h % 8) (omega arith) (omega arith) (omega arith) ∙ s.value_is h o;
      }

  pub frames_kept : (nexts nexts' values values' : List ℕ) (base high : ℕ) (fs : List Frame) → ShowsFrames t nexts values base fs
      → Kept nexts nexts' values values' base high → base + length fs ≤ high → ShowsFrames t nexts' values' base fs
  frames_kept nexts nexts' values values' base high [] s k l = tt
  frames_kept nexts nexts' values values' base high (f ∷ fs) s k l = (
    frame_kept nexts nexts' values values' (base + length fs) f s.0
        (record { nexts_kept = λ i a b. k.nexts_kept i (omega arith) (omega arith); values_kept = λ i j a b c. k.values_kept i j (omega arith) (omega arith) c }),
    frames_kept nexts nexts' values values' base high fs s.1 k (omega arith),
  )

  pub thread_kept : (nexts nexts' values values' : List ℕ) (base count : ℕ) (a : ℤ) (th : Thread) → ShowsThread t nexts values base count a th
      → Kept nexts nexts' values values' base (base + 32) → ShowsThread t nexts' values' base count a th
  thread_kept nexts nexts' values values' base count a th s k =
      record {
        count_is = s.count_is;
        few = s.few;
        accumulator_is = s.accumulator_is;
        frames = frames_kept nexts nexts' values values' base (base + 32) th.frames s.frames k (omega (arith, s.count_is, s.few));
      }

-- ---- one thread changes, or is added

-- the arrays change in thread n alone
pub record Changed (t : Table) (a new : Arrays) (n : ℕ) : Type 0 where
  pub lengths : Lengths t new
  pub slots : (m : ℕ) → (m ≡ n → ⊥) → Kept a.nexts new.nexts a.values new.values (m * 32) (m * 32 + 32)
  pub counts : (m : ℕ) → (m ≡ n → ⊥) → get_or new.counts m 0 ≡ get_or a.counts m 0
  pub accumulators : (m : ℕ) → (m ≡ n → ⊥) → get_or new.accumulators m (pos 0) ≡ get_or a.accumulators m (pos 0)

-- what the arrays show of thread m
abbrev pub ThreadIn : Table → Arrays → ℕ → Thread → Type 0
ThreadIn t a m th = ShowsThread t a.nexts a.values (m * 32) (get_or a.counts m 0) (get_or a.accumulators m (pos 0)) th

module _ (t : Table) (a new : Arrays) (n : ℕ) (changed : Changed t a new n) where
  other_thread : (m : ℕ) (th : Thread) → (m ≡ n → ⊥) → ThreadIn t a m th → ThreadIn t new m th
  other_thread m th apart s =
      rw (changed.counts m apart, changed.accumulators m apart) (thread_kept t _ _ _ _ _ _ _ _ s (changed.slots m apart))

  pub one_thread : (state : State) (th : Thread) (cells : List ℤ) (locks : List Holder) → Shows t a state → n < a.started → new.started ≡ a.started
      → ThreadIn t new n th → cells ≡ new.cells → ShowsLocks new.locks locks
      → Shows t new (record { threads = set state.threads n th; cells = cells; locks = locks })
  one_thread state th cells locks s low e shown c l =
      record {
        lengths = changed.lengths;
        started_is = e ∙ s.started_is ∙ sym (length-set state.threads n th);
        most = omega (arith, e, s.most);
        cells_are = c;
        locks_are = l;
        thread_is = λ m b. at m (omega (arith, e)) (ℕ_discrete m n);
      }
    where
      at : (m : ℕ) → m < a.started → Dec (m ≡ n) → ThreadIn t new m (get_or (set state.threads n th) m ended)
      at m b (yes p) =
          subst (λ (i : ℕ). ThreadIn t new i (get_or (set state.threads n th) i ended)) (sym p)
          (rw (get_or-set_same state.threads n th ended (omega (arith, s.started_is))) shown)
      at m b (no q) = rw (get_or-set_other state.threads n m th ended q) (other_thread m (thread state m) q (s.thread_is m b))

  pub added : (state : State) (th : Thread) → Shows t a state → n ≡ a.started → a.started < 16 → new.started ≡ a.started + 1
      → ThreadIn t new n th → new.cells ≡ a.cells → new.locks ≡ a.locks
      → Shows t new (record { threads = state.threads ++ th ∷ []; cells = state.cells; locks = state.locks })
  added state th s is low e shown c l =
      record {
        lengths = changed.lengths;
        started_is = omega (arith, e, s.started_is, length-append state.threads (th ∷ []));
        most = omega (arith, e);
        cells_are = s.cells_are ∙ sym c;
        locks_are = rw l s.locks_are;
        thread_is = λ m b. at m (omega (arith, e)) (ℕ_discrete m n);
      }
    where
      at : (m : ℕ) → m < a.started + 1 → Dec (m ≡ n) → ThreadIn t new m (get_or (state.threads ++ th ∷ []) m ended)
      at m b (yes p) =
          let here : m ≡ length state.threads = p ∙ is ∙ s.started_is in
          subst (λ (x : Thread). ThreadIn t new m x) (sym (ap (λ (i : ℕ). get_or (state.threads ++ th ∷ []) i ended) here ∙ get_or-append_seam state.threads th [] ended))
          (subst (λ (i : ℕ). ThreadIn t new i th) (sym p) shown)
      at m b (no q) =
          let below : m < a.started = omega (arith, is, q) in
          rw (get_or-append state.threads (th ∷ []) ended m (omega (arith, s.started_is))) (other_thread m (thread state m) q (s.thread_is m below))

-- ---- a new frame

module _ (t : Table) (accepted : Accepted t) where
  -- two handles of one routine stand at different places of a slot
  pub own_apart : (r h g : ℕ) → r < length t.routines → OwnHandle t r h → OwnHandle t r g → h % 8 ≡ g % 8 → h ≡ g
  own_apart r h g low a b e =
      let fh = accepted.handle h a.there in
      let fg = accepted.handle g b.there in
      let x₁ : (routine t r).handle ≤ h = subst (λ (q : ℕ). (routine t q).handle ≤ h) a.own fh.from in
      let x₂ : h < (routine t r).handle + (routine t r).handles = subst (λ (q : ℕ). h < (routine t q).handle + (routine t q).handles) a.own fh.upto in
      let y₁ : (routine t r).handle ≤ g = subst (λ (q : ℕ). (routine t q).handle ≤ g) b.own fg.from in
      let y₂ : g < (routine t r).handle + (routine t r).handles = subst (λ (q : ℕ). g < (routine t q).handle + (routine t q).handles) b.own fg.upto in
      let few = (accepted.routine_facts r low).few_handles in
      omega arith

  -- a new frame of routine r, whose values are those that `enter` sets, with arguments from a slot that shows the caller's values
  pub opened_shown : (nexts values values' passed_values : List ℕ) (slot caller r : ℕ) (arguments : Arguments) → r < length t.routines
      → get_or nexts slot 0 ≡ (routine t r).first
      → Entered t values values' slot caller (routine t r).handle ((routine t r).handle + (routine t r).handles) arguments
      → ((k : ℕ) → k < (routine t r).parameters → get_or values (value_place caller (get_or (passed arguments) k 0)) 0 ≡ get_or passed_values (get_or (passed arguments) k 0) 0)
      → ShowsFrame t nexts values' slot (opened t r passed_values arguments)
  unfolding opened entered entry_value
  opened_shown nexts values values' passed_values slot caller r arguments low first_is e same =
      record {
        next_is = first_is;
        long = length_tabulate (length t.handles) (entered t r passed_values arguments);
        value_is = λ h o. at h o (eqb (declaration t h).origin 0) refl;
      }
    where
      at : (h : ℕ) → OwnHandle t r h → (b : Bool) → eqb (declaration t h).origin 0 ≡ b
          → get_or values' (value_place slot h) 0 ≡ get_or (tabulate (length t.handles) (entered t r passed_values arguments)) h 0
      at h o b q =
          let fh = accepted.handle h o.there in
          let x₁ : (routine t r).handle ≤ h = subst (λ (i : ℕ). (routine t i).handle ≤ h) o.own fh.from in
          let x₂ : h < (routine t r).handle + (routine t r).handles = subst (λ (i : ℕ). h < (routine t i).handle + (routine t i).handles) o.own fh.upto in
          e.set_here h x₁ x₂ ∙ value b q ∙ sym (get_d_tabulate (length t.handles) (entered t r passed_values arguments) h 0 o.there)
        where
          value : (b : Bool) → eqb (declaration t h).origin 0 ≡ b
              → start_value t values caller (routine t r).handle arguments h ≡ entered t r passed_values arguments h
          value true q =
              let fh = accepted.handle h o.there in
              let y : h < (routine t r).handle + (routine t r).parameters = subst (λ (i : ℕ). h < (routine t i).handle + (routine t i).parameters) o.own (fh.parameter (eqb-true _ 0 q)) in
              let x₁ : (routine t r).handle ≤ h = subst (λ (i : ℕ). (routine t i).handle ≤ h) o.own fh.from in
              rw (q, eq-eqb _ r o.own) (same (h - (routine t r).handle) (omega arith))
          value false q = rw (q, eq-eqb _ r o.own)
