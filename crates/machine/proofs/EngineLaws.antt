-- The engine runs as the machine does on the schedule without the steps that it answers 18; it answers 0 and 14 to 18 alone. Assumes nothing.
use Rattle.std.specs.Prelude.{ℕ, zero, suc, ◌≤◌, ◌<◌, ◌≡◌, refl, Bool, true, false, cond, List, [], ◌∷◌, ◌⊎◌, eqb, leb, length, get_or}
use Rattle.std.proofs.Common.{ap, ◌∙◌, inl, inr, ⊎_elim, arith, le-leb}
use Rattle.std.proofs.lemmas.Bool.{eqb-false, lt-leb}
use Rattle.table.specs.Table.{Table, statement}
use Rattle.table.specs.View.{view, starts}
use Rattle.table.proofs.ViewLaws.{on_or_lem}
use Rattle.table.specs.declared.Statement.{Statement}
use Rattle.machine.specs.State.{State, Frame, thread}
use Rattle.machine.specs.Step.{Answer, moved, refused, step, after, run}
use Rattle.machine.specs.Engine.{limit, limit_of, engine_step, answer, engine_run, answers}
use Rattle.machine.proofs.Laws.{Within, step_within}
use Rattle.machine.specs.Stretch.{Stepping}

-- the schedule without the steps that the engine answers 18
unfoldable pub unlimited : Table → State → List ℕ → List ℕ
unfolding engine_step
unlimited t state [] = []
unlimited t state (n ∷ ns) =
    let reply = engine_step t state n in
    let rest = unlimited t (after state reply) ns in
    cond (leb 18 (answer reply)) rest (n ∷ rest)

-- ---- the limit is 18, and the machine's own refusals are below

abbrev Limit : ℕ → Type 0
Limit k = (k ≡ 0) ⊎ (k ≡ 18)

limit_known : (started : ℕ) (σ : Statement) → Limit (limit started σ)
limit_known started σ = on_or_lem Limit (starts (view σ)) _ _ (λ q e. go (leb 16 started)) (inl refl)
  where
    go : (b : Bool) → Limit (cond b 18 0)
    go true = inr refl
    go false = inl refl

limit_of_known : (t : Table) (started : ℕ) (fs : List Frame) → Limit (limit_of t started fs)
limit_of_known t started [] = inl refl
limit_of_known t started (f ∷ older) = limit_known started (statement t f.next)

limit_is : (t : Table) (started : ℕ) (fs : List Frame) → eqb (limit_of t started fs) 0 ≡ false → limit_of t started fs ≡ 18
limit_is t started fs e = ⊎_elim (λ none. absurd (eqb-false (limit_of t started fs) 0 e none)) (λ some. some) (limit_of_known t started fs)

within_low : (reply : Answer) → Within reply → answer reply < 18
within_low (moved new) h = omega arith
within_low (refused k) h = omega arith

-- ---- the engine's run

pub engine_runs_as_machine : (t : Table) (state : State) (ns : List ℕ) → engine_run t state ns ≡ run t state (unlimited t state ns)
unfolding engine_run run unlimited
engine_runs_as_machine t state [] = refl
engine_runs_as_machine t state (n ∷ ns) =
    engine_runs_as_machine t (after state (engine_step t state n)) ns ∙ go (eqb over 0) refl (λ new. unlimited t new ns)
  where
    over : ℕ
    over = limit_of t (length state.threads) (thread state n).frames

    go : (b : Bool) → eqb over 0 ≡ b → (rest : State → List ℕ)
        → let reply = cond b (step t state n) (refused over) in
        let new = after state reply in
        run t new (rest new) ≡ run t state (cond (leb 18 (answer reply)) (rest new) (n ∷ rest new))
    go true e rest = rw (lt-leb 18 (answer (step t state n)) (within_low (step t state n) (step_within t state n)))
    go false e rest = rw (le-leb 18 over (omega (arith, limit_is t (length state.threads) (thread state n).frames e)))

-- the engine answers with the machine's step, or refuses
pub engine_steps : (t : Table) → Stepping t (engine_step t)
unfolding engine_step
engine_steps t state n = go (eqb over 0)
  where
    over : ℕ
    over = limit_of t (length state.threads) (thread state n).frames

    go : (b : Bool) → (cond b (step t state n) (refused over) ≡ step t state n) ⊎ ((number : ℕ) × (cond b (step t state n) (refused over) ≡ refused number))
    go true = inl refl
    go false = inr (over, refl)

-- ---- the numbers that it answers

-- 0, "when the step ran", or a refusal 14 to 18
pub record Answered (k : ℕ) : Type 0 where
  pub known : (k ≡ 0) ⊎ (14 ≤ k)
  pub most : k ≤ 18

within_answered : (reply : Answer) → Within reply → Answered (answer reply)
within_answered (moved new) h = record { known = inl refl; most = omega arith }
within_answered (refused k) h = record { known = inr h.0; most = omega (arith, h.1) }

pub step_answered : (t : Table) (state : State) (n : ℕ) → Answered (answer (engine_step t state n))
unfolding engine_step
step_answered t state n = go (eqb over 0) refl
  where
    over : ℕ
    over = limit_of t (length state.threads) (thread state n).frames

    go : (b : Bool) → eqb over 0 ≡ b → Answered (answer (cond b (step t state n) (refused over)))
    go true e = within_answered (step t state n) (step_within t state n)
    go false e = let k = limit_is t (length state.threads) (thread state n).frames e in record { known = inr (omega arith); most = omega arith }

-- of every table, state and schedule, each answer is one of these
pub answers_answered : (t : Table) (state : State) (ns : List ℕ) (i : ℕ) → i < length ns → Answered (get_or (answers t state ns) i 0)
unfolding answers
answers_answered t state [] i l = absurd (omega arith)
answers_answered t state (n ∷ ns) zero l = step_answered t state n
answers_answered t state (n ∷ ns) (suc i) l = answers_answered t (after state (engine_step t state n)) ns i (omega arith)

-- C-16: "answer 19 never occurs"
pub never_19 : (t : Table) (state : State) (ns : List ℕ) (i : ℕ) → i < length ns → get_or (answers t state ns) i 0 ≡ 19 → ⊥
never_19 t state ns i l e = omega (arith, (answers_answered t state ns i l).most)

pub answers_long : (t : Table) (state : State) (ns : List ℕ) → length (answers t state ns) ≡ length ns
unfolding answers
answers_long t state [] = refl
answers_long t state (n ∷ ns) = ap suc (answers_long t (after state (engine_step t state n)) ns)
