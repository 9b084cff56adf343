-- A schedule's steps one after another: the answers written so far and the rest give the whole. Assumes nothing.
use Rattle.std.specs.Prelude.{ℕ, ◌+◌, ◌<◌, ◌≤◌, ◌≡◌, refl, Bool, true, false, cond, eqb, get_or, set}
use Rattle.std.proofs.Math.Path.{sym, ap, ap₂, subst}
use Rattle.std.proofs.Common.{◌∙◌, arith, add-one, take-append-drop, eqb-true}
use mathlib.Core.List.{List, [], ◌∷◌, ◌++◌, append_assoc, append-nil}
use Rattle.std.proofs.Math.ListN.{length, take, drop, length-set, drop_of_length-le}
use Rattle.std.proofs.Math.Seq.{drop-cons, take-suc-set, drop-set-lt, drop-drop}
use Rattle.table.specs.Table.{Table, statement}
use Rattle.machine.specs.State.{State, Frame, thread}
use Rattle.machine.specs.Step.{after}
use Rattle.machine.specs.Engine.{engine_step, answer, engine_run, answers}
use Rattle.machine.proofs.EngineLaws.{step_answered}
use Rattle.operations.specs.Step.{Step, Ran, Refused, numbered, number_of, case_of, step_of}
use Rattle.run_state.specs.declared.State as Run
use Rattle.run_state.specs.Shown.{ListsShow, Standing}
use Rattle.steps.specs.Stepped.{Steps, Follows}

-- ---- the number of a step's answer is the engine's answer

number_at : (number : ℕ) (t : Table) (fs : List Frame) → number_of (case_of t number fs) ≡ number
number_at number t [] = refl
number_at number t (f ∷ fs) = go (eqb number 0) refl
  where
    go : (b : Bool) → eqb number 0 ≡ b → number_of (cond b (Ran (statement t f.next)) (Refused number (statement t f.next))) ≡ number
    go true e = sym (eqb-true number 0 e)
    go false e = refl

pub step_number : (t : Table) (state : State) (n : ℕ) → number_of (step_of t state n) ≡ answer (engine_step t state n)
unfolding step_of
step_number t state n = number_at (answer (engine_step t state n)) t (thread state n).frames

-- and fits a byte
pub steps_small : (t : Table) (s : Run.State) → Standing t s
    → (s' : Run.State) (n : ℕ) (r : Step) → Steps t s s' n r → number_of (numbered r) < 256
steps_small t s standing s' n r did =
    omega (arith, ap number_of (did standing.state standing.shows).answered ∙ step_number t standing.state n, (step_answered t standing.state n).most)

-- ---- a schedule

-- i steps of a schedule lead from a state to the one that the lists show, and `lent` has their answers
pub record Reached (t : Table) (s : Run.State) (schedule lent : List ℕ) (i : ℕ) (begun : State) : Type 0 where
  pub state : State
  pub shows : ListsShow t s state
  pub rest : engine_run t state (drop i schedule) ≡ engine_run t begun schedule
  pub written : take i lent ++ answers t state (drop i schedule) ≡ answers t begun schedule

pub record Following (t : Table) (schedule answers₀ : List ℕ) (s₀ : Run.State) (lent : List ℕ) (s : Run.State) (i : ℕ) : Type 0 where
  pub standing : Standing t s₀
  pub low : i ≤ length schedule
  pub room : length schedule ≤ length answers₀
  pub long : length lent ≡ length answers₀
  pub behind : drop i lent ≡ drop i answers₀
  pub reached : (state : State) → ListsShow t s₀ state → Reached t s schedule lent i state

module _ (t : Table) (schedule answers₀ : List ℕ) (s₀ : Run.State) where
  pub following_start : Standing t s₀ → length schedule ≤ length answers₀
      → Following t schedule answers₀ s₀ answers₀ s₀ 0
  following_start started l =
      record {
        standing = started;
        low = omega arith;
        room = l;
        long = refl;
        behind = refl;
        reached = λ state shown. record { state = state; shows = shown; rest = refl; written = refl };
      }

  module _ (lent : List ℕ) (s : Run.State) (i : ℕ)
      (f : Following t schedule answers₀ s₀ lent s i) where
    -- the lists show some state all the way
    pub following_standing : Standing t s
    following_standing =
        let r = f.reached f.standing.state f.standing.shows in
        record { state = r.state; shows = r.shows }

    pub following_next : (s' : Run.State) (n v : ℕ) (r : Step) → i < length schedule → n ≡ get_or schedule i 0
        → Steps t s s' n r → v ≡ number_of (numbered r)
        → Following t schedule answers₀ s₀ (set lent i v) s' (i + 1)
    unfolding engine_run answers
    following_next s' n v r l e stepped w =
        record {
          standing = f.standing;
          low = omega arith;
          room = f.room;
          long = length-set lent i v ∙ f.long;
          behind = drop-set-lt (i + 1) lent i v (omega arith) ∙ sym (drop-drop 1 i lent) ∙ ap (drop 1) f.behind ∙ drop-drop 1 i answers₀;
          reached = λ begun shown. next begun (f.reached begun shown);
        }
      where
        next : (begun : State) → Reached t s schedule lent i begun
            → Reached t s' schedule (set lent i v) (i + 1) begun
        next begun before =
            let state = before.state in
            let q = stepped state before.shows in
            let here : drop i schedule ≡ n ∷ drop (i + 1) schedule = drop-cons schedule i 0 l ∙ ap₂ (λ (x j : ℕ). x ∷ drop j schedule) (sym e) (sym (add-one i)) in
            let value : v ≡ answer (engine_step t state n) = w ∙ ap number_of q.answered ∙ step_number t state n in
            let inside : i < length lent = omega (arith, f.long, f.room) in
            record {
              state = after state (engine_step t state n);
              shows = q.shows;
              rest = ap (λ (ns : List ℕ). engine_run t state ns) (sym here) ∙ before.rest;
              written =
                  ap (λ (l : List ℕ). l ++ answers t (after state (engine_step t state n)) (drop (i + 1) schedule))
                  (ap (λ (j : ℕ). take j (set lent i v)) (add-one i) ∙ take-suc-set lent i v inside)
                  ∙ append_assoc (take i lent) (v ∷ []) (answers t (after state (engine_step t state n)) (drop (i + 1) schedule))
                  ∙ ap (λ (x : ℕ). take i lent ++ x ∷ answers t (after state (engine_step t state n)) (drop (i + 1) schedule)) value
                  ∙ ap (λ (ns : List ℕ). take i lent ++ answers t state ns) (sym here) ∙ before.written;
            }

    pub following_done : length schedule ≤ i → Follows t s₀ s schedule answers₀ lent
    unfolding engine_run answers
    following_done l begun shown =
        let last = f.reached begun shown in
        let none : drop i schedule ≡ [] = drop_of_length-le schedule l in
        let end : i ≡ length schedule = omega (arith, f.low) in
        let all : take i lent ≡ answers t begun schedule =
        sym (append-nil (take i lent)) ∙ ap (λ (ns : List ℕ). take i lent ++ answers t last.state ns) (sym none) ∙ last.written in
        let same : last.state ≡ engine_run t begun schedule = ap (λ (ns : List ℕ). engine_run t last.state ns) (sym none) ∙ last.rest in
        record {
          answered =
              sym (take-append-drop i lent) ∙ ap₂ (λ (x y : List ℕ). x ++ y) all f.behind ∙ ap (λ (j : ℕ). answers t begun schedule ++ drop j answers₀) end;
          shows = subst (λ (state : State). ListsShow t s state) same last.shows;
        }
