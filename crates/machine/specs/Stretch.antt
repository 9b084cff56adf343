-- The words of C-22: from the step by which a thread gets a lock until it gives it up, in every order of steps. A step is answered by `by`: the machine, or the
-- engine. Assumes nothing.
use Rattle.std.specs.Prelude.{ℕ, ◌<◌, ◌≡◌, true, false, List, [], ◌∷◌, ◌⊎◌, ℤ, pos, get_or, length}
use Rattle.table.specs.Table.{Table}
use Rattle.table.specs.View.{view, On}
use Rattle.table.specs.declared.Statement.{Statement}
use Rattle.machine.specs.State.{State, Frame, thread, refers}
use Rattle.machine.specs.Step.{Answer, moved, refused, step, after}
use Rattle.machine.specs.Words.{AccessIn, Next, Access, Release, Holds}

-- the value of cell x
abbrev pub cell : State → ℕ → ℤ
cell state x = get_or state.cells x (pos 0)

-- thread n was started
abbrev pub Started : State → ℕ → Type 0
Started state n = n < length state.threads

-- only started threads hold locks
abbrev pub HeldByStarted : State → Type 0
HeldByStarted state = (n k : ℕ) → Holds state n k → Started state n

-- the statement, in frame f, takes lock k, for reading or writing: a TAKE or TAKER
abbrev pub TakeIn : Frame → Statement → ℕ → Type 0
TakeIn f σ k = On (view σ).takes (λ h. refers f h ≡ k)

-- `by` is a way to step the machine: it answers with the machine's step, or refuses
abbrev pub Stepping : Table → (State → ℕ → Answer) → Type 0
Stepping t by = (state : State) (n : ℕ) → (by state n ≡ step t state n) ⊎ ((number : ℕ) × (by state n ≡ refused number))

module _ (t : Table) (by : State → ℕ → Answer) where
  -- thread m's next statement is such a one, and its step runs, to the state `new`
  pub record Runs (P : Frame → Statement → Type 0) (state : State) (m : ℕ) (new : State) : Type 0 where
    pub stands : Next t P (thread state m).frames
    pub runs : by state m ≡ moved new

  -- "the step by which a thread gets that lock, for reading or writing"
  abbrev pub Gets : ℕ → State → ℕ → State → Type 0
  Gets k = Runs (λ f σ. TakeIn f σ k)

  -- a READ of cell x
  abbrev pub Reads : ℕ → State → ℕ → State → Type 0
  Reads x = Runs (λ f σ. AccessIn f σ false x)

  -- of these steps none is thread m's in a state like that
  abbrev pub Never : (State → Type 0) → ℕ → State → List ℕ → Type 0
  Never P m state [] = Unit {0}
  Never P m state (n ∷ ns) = (n ≡ m → P state → ⊥) × Never P m (after state (by state n)) ns

  -- "until it gives it up": none of these steps is a GIVE of lock k by thread m
  abbrev pub Keeps : ℕ → ℕ → State → List ℕ → Type 0
  Keeps m k = Never (λ state. Release t state m k) m

  -- none of them is a WRITE of cell x by thread m
  abbrev pub WritesNot : ℕ → ℕ → State → List ℕ → Type 0
  WritesNot m x = Never (λ state. Access t state m true x) m

  -- "no step of another thread changes the cell": of these steps, each that is not thread m's leaves cell x at its value, and is no WRITE of it, not even of the same
  -- value
  abbrev pub StaysPut : ℕ → ℕ → State → List ℕ → Type 0
  StaysPut m x state [] = Unit {0}
  StaysPut m x state (n ∷ ns) =
      ((n ≡ m → ⊥) → (cell (after state (by state n)) x ≡ cell state x) × (Access t state n true x → ⊥)) × StaysPut m x (after state (by state n)) ns
