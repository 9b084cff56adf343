-- The words of demand 3, and the demand's (a) and (b) of one state. Assumes nothing.
use Rattle.std.specs.Prelude.{ℕ, ◌≡◌, Bool, true, false, List, [], ◌∷◌, ◌⊎◌}
use Rattle.table.specs.Table.{Table, statement}
use Rattle.table.specs.View.{view, On, accesses}
use Rattle.table.specs.declared.Statement.{Statement}
use Rattle.machine.specs.State.{State, Frame, holds_in, thread, holder, refers}

-- "An access to a cell is a READ or WRITE whose handle refers to that cell in that frame; a WRITE is a write": the statement, in frame f, is an access to
-- cell x, a write if `writes` is true
abbrev pub AccessIn : Frame → Statement → Bool → ℕ → Type 0
AccessIn f σ writes x = On (accesses writes (view σ)) (λ h. refers f h ≡ x)

-- "A release is a GIVE, of the lock that its handle refers to there": the statement, in frame f, is a release of lock k
abbrev pub ReleaseIn : Frame → Statement → ℕ → Type 0
ReleaseIn f σ k = On (view σ).gives (λ h. refers f h ≡ k)

-- "A thread's next statement is that of its newest frame; an ended thread has none": what holds of the newest frame and the next statement
abbrev pub Next : Table → (Frame → Statement → Type 0) → List Frame → Type 0
Next t P [] = ⊥
Next t P (f ∷ older) = P f (statement t f.next)

-- thread n has as next statement an access to cell x
abbrev pub Access : Table → State → ℕ → Bool → ℕ → Type 0
Access t state n writes x = Next t (λ f s. AccessIn f s writes x) (thread state n).frames

-- thread n stands before a release of lock k
abbrev pub Release : Table → State → ℕ → ℕ → Type 0
Release t state n k = Next t (λ f s. ReleaseIn f s k) (thread state n).frames

-- thread n holds lock k for writing (true), or in either way (false)
abbrev pub HoldsIn : Bool → State → ℕ → ℕ → Type 0
HoldsIn w state n k = holds_in w (holder state k) n ≡ true

-- thread n holds lock k, for reading or writing: "from the step by which it gets it to the step by which it gives it up"
abbrev pub Holds : State → ℕ → ℕ → Type 0
Holds state n k = HoldsIn false state n k

-- (a) no two different threads both have as next statement an access to one cell with at least one a write, and
-- (b) no thread stands before a release of a lock that it does not hold
pub record Safe (t : Table) (state : State) : Type 0 where
  pub no_race : (m n x : ℕ) (v w : Bool) → (m ≡ n → ⊥) → Access t state m v x → Access t state n w x → (v ≡ true) ⊎ (w ≡ true) → ⊥
  pub no_stray : (n k : ℕ) → Release t state n k → Holds state n k
