-- What holds of every state that a run reaches: the shape of the stacks, the values of the handles, the locks, what threads may still touch, and what a START
-- can precede. Assumes nothing.
use Rattle.std.specs.Prelude.{ℕ, ◌+◌, ◌<◌, ◌≡◌, Bool, true, List, [], ◌∷◌, ◌⊎◌, get_or, length}
use Rattle.table.specs.Table.{Table, declaration, statement, OwnHandle}
use Rattle.table.specs.declared.Arguments.{Arguments}
use Rattle.table.specs.declared.Statement.TheVariants.{Call}
use Rattle.machine.specs.State.{State, Frame, Holder, free, holds_in, thread}
use Rattle.report.specs.Rules.{Copies, Place, Goes, Does, Clash, Families}

-- a frame as the proof sees it: its copy, its values, and its statement: the next one, or, for an older frame, the CALL that it waits at
pub record Mark : Type 0 where
  pub copy : ℕ
  pub place : ℕ
  pub values : List ℕ

-- more than one thread was started; ended ones count too
abbrev pub Several : State → Type 0
Several state = 1 < length state.threads

module _ {t : Table} (copies : Copies t) (f : Families) where
  -- ---- shape: the frames that marks stand for, the newest first

  abbrev pub newest : Mark → Frame
  newest m = record { routine = copies.of m.copy; next = m.place; values = m.values }

  abbrev pub waiting : Mark → Frame
  waiting m = record { routine = copies.of m.copy; next = m.place + 1; values = m.values }

  abbrev pub older : List Mark → List Frame
  older [] = []
  older (m ∷ ms) = waiting m ∷ older ms

  abbrev pub frames : List Mark → List Frame
  frames [] = []
  frames (m ∷ ms) = newest m ∷ older ms

  -- ---- values

  -- a handle of a copy may refer to x: x is in its flow set and is a cell or lock of the table
  pub record Fits (c h x : ℕ) : Type 0 where
    pub flows : f.flow c h x
    pub cell : (declaration t h).kind ≡ 1 → x < t.cells
    pub lock : (declaration t h).kind ≡ 2 → x < t.locks

  abbrev pub Valued : ℕ → List ℕ → Type 0
  Valued c values = (h : ℕ) → OwnHandle t (copies.of c) h → Fits c h (get_or values h 0)

  -- ---- locks

  -- thread n holds lock k: for writing (true), or in either way (false)
  abbrev pub Has : List Holder → ℕ → Bool → ℕ → Type 0
  Has locks n w k = holds_in w (get_or locks k free) n ≡ true

  -- the newest frame of thread n
  pub record Stands (locks : List Holder) (n : ℕ) (m : Mark) : Type 0 where
    pub here : Place copies m.copy m.place
    pub valued : Valued m.copy m.values
    pub holds : (w : Bool) (k : ℕ) → f.held w m.copy m.place k → Has locks n w k

  -- an older frame of thread n, which waits for the copy d
  pub record Waits (locks : List Holder) (n d : ℕ) (m : Mark) : Type 0 where
    pub named : ℕ
    pub arguments : Arguments
    pub here : Place copies m.copy m.place
    pub calls : statement t m.place ≡ Call named arguments
    pub leads : copies.leads m.copy m.place ≡ d
    pub valued : Valued m.copy m.values
    pub holds : (w : Bool) (k : ℕ) → f.held w m.copy m.place k → (f.gives d k → ⊥) → Has locks n w k

  abbrev pub AllWait : List Holder → ℕ → ℕ → List Mark → Type 0
  AllWait locks n d [] = Unit {0}
  AllWait locks n d (m ∷ ms) = Waits locks n d m × AllWait locks n m.copy ms

  abbrev pub Good : List Holder → ℕ → List Mark → Type 0
  Good locks n [] = Unit {0}
  Good locks n (m ∷ ms) = Stands locks n m × AllWait locks n m.copy ms

  -- ---- what a thread may still touch

  -- the effects of the statements that may follow a statement of copy c in its routine, round loops too
  pub data Inside (c : ℕ) (w : Bool) (x : ℕ) : ℕ → Type 0 where
    next : {s s' : ℕ} → Place copies c s' → Goes s (statement t s) s' → Does copies f.flow f.effect c s' (statement t s') w x → Inside c w x s
    later : {s s' : ℕ} → Place copies c s' → Goes s (statement t s) s' → Inside c w x s' → Inside c w x s

  -- the older frames: what may follow each CALL that waits
  abbrev pub Left : List Mark → Bool → ℕ → Type 0
  Left [] w x = ⊥
  Left (m ∷ ms) w x = Inside m.copy w x m.place ⊎ Left ms w x

  -- the newest frame: its next statement and what may follow
  abbrev pub Ahead : ℕ → ℕ → Bool → ℕ → Type 0
  Ahead c s w x = Does copies f.flow f.effect c s (statement t s) w x ⊎ Inside c w x s

  -- all that a thread may still read or write, in its frames and in the threads that it starts
  abbrev pub Potential : List Mark → Bool → ℕ → Type 0
  Potential [] w x = ⊥
  Potential (m ∷ ms) w x = Ahead m.copy m.place w x ⊎ Left ms w x

  -- ---- what a START can precede

  -- the older frames, below copy d: a START can precede the CALL that waits, or d holds or reaches one
  abbrev pub Called : ℕ → List Mark → Type 0
  Called d [] = Unit {0}
  Called d (m ∷ ms) = (f.preceded m.copy m.place ⊎ f.reaches d) × Called m.copy ms

  -- the newest frame: a START can precede its next statement
  abbrev pub Behind : List Mark → Type 0
  Behind [] = Unit {0}
  Behind (m ∷ ms) = f.preceded m.copy m.place × Called m.copy ms

  -- ---- the invariant of a state, with the marks of each thread

  pub record Invariant (state : State) (marks : ℕ → List Mark) : Type 0 where
    pub all_locks_lem : length state.locks ≡ t.locks
    pub shape : (n : ℕ) → (thread state n).frames ≡ frames (marks n)
    pub good : (n : ℕ) → Good state.locks n (marks n)
    pub apart : (m n x : ℕ) → (m ≡ n → ⊥) → Clash (Potential (marks m)) (Potential (marks n)) x → f.shared x
    pub behind : Several state → (n : ℕ) → Behind (marks n)
