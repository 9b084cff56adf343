-- The engine's step: the machine's, or 18 at the engine's limit; its answers and its run. Assumes nothing.
use Rattle.std.specs.Prelude.{ℕ, cond, List, [], ◌∷◌, eqb, leb, length}
use Rattle.table.specs.Table.{Table, statement}
use Rattle.table.specs.View.{view, on_or, starts}
use Rattle.table.specs.declared.Statement.{Statement}
use Rattle.machine.specs.State.{State, Frame, thread}
use Rattle.machine.specs.Step.{Answer, moved, refused, step, after}

-- "32 frames a thread": those that the engine has room for. "32 frames always suffice" (C-16, FrameLaws), so no step looks at them
abbrev pub frame_slots : ℕ
frame_slots = 32

-- 18: "START finds 16 threads started", with so many threads started; 0 if it does not
abbrev pub limit : ℕ → Statement → ℕ
limit started σ = on_or (starts (view σ)) (λ q. cond (leb 16 started) 18 0) 0

-- the limit that the newest frame's next statement meets
abbrev pub limit_of : Table → ℕ → List Frame → ℕ
limit_of t started [] = 0
limit_of t started (f ∷ older) = limit started (statement t f.next)

-- "the engine has 16 threads in a run"
unfoldable pub engine_step : Table → State → ℕ → Answer
unfolding step
engine_step t state n =
    let over = limit_of t (length state.threads) (thread state n).frames in
    let run = step t state n in
    cond (eqb over 0) run (refused over)

-- "one answer byte for each (0 when the step ran)"
abbrev pub answer : Answer → ℕ
answer (moved new) = 0
answer (refused number) = number

-- the engine's state after a schedule; 14 to 18 "leave the run state, and the schedule goes on"
unfoldable pub engine_run : Table → State → List ℕ → State
unfolding engine_step
engine_run t state [] = state
engine_run t state (n ∷ ns) = engine_run t (after state (engine_step t state n)) ns

-- the answers to a schedule
unfoldable pub answers : Table → State → List ℕ → List ℕ
unfolding engine_step
answers t state [] = []
answers t state (n ∷ ns) = let reply = engine_step t state n in answer reply ∷ answers t (after state reply) ns
