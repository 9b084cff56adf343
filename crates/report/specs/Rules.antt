-- The rules of "The report", as document 01 words them, with C-13 and C-18: flow, held, effect, future, shared, common locks and stray, over copies of routines and over sets
-- that are predicates. Each record says that sets satisfy their rules; "least" and "greatest" are said elsewhere, of the sets that satisfy them. Assumes nothing.
use Rattle.std.specs.Prelude.{ℕ, ◌+◌, ◌<◌, ◌≡◌, Bool, true, false, ◌⊎◌, get_or, length, Some}
use Rattle.table.specs.Table.{Table, declaration, routine, statement, passed, InRoutine, OwnHandle}
use Rattle.table.specs.View.{view, On, accesses, calls, starts, takes_in}
use Rattle.table.specs.Accepted.{Names}
use Rattle.table.specs.declared.Arguments.{Arguments}
use Rattle.table.specs.declared.Statement.{Statement}

-- ---- copies

-- every rule is read over copies of routines, numbered from 0: the copy of routine 0, the routine of a copy, and the copy that the CALL or START
-- statement s of copy c leads to. Copies agree with the table if that copy is one of the routine named. With one copy a routine these are 0, the copy
-- itself, and the routine named; a copy's handles and statements keep the table's numbers
pub record Copies (t : Table) : Type 0 where
  pub count : ℕ
  pub main : ℕ
  pub of : ℕ → ℕ
  pub leads : ℕ → ℕ → ℕ
  pub main_there : main < count
  pub main_of : of main ≡ 0
  pub of_there : (c : ℕ) → c < count → of c < length t.routines
  pub leads_there : (c s q : ℕ) → c < count → InRoutine t (of c) s → Names (statement t s) q → leads c s < count
  pub leads_of : (c s q : ℕ) → c < count → InRoutine t (of c) s → Names (statement t s) q → of (leads c s) ≡ q

-- statement s is one of copy c
pub record Place {t : Table} (copies : Copies t) (c s : ℕ) : Type 0 where
  pub there : c < copies.count
  pub inside : InRoutine t (copies.of c) s

-- ---- ways

-- statement s' may follow statement s in its routine: "JUMPZ may go both ways and CALL goes on to the next statement, whatever the values"
abbrev pub Goes : ℕ → Statement → ℕ → Type 0
Goes s σ s' = ((view σ).target ≡ Some s') ⊎ (((view σ).onward ≡ true) × (s' ≡ s + 1))

-- ---- flow: sets of things for each copy and handle

module _ {t : Table} (copies : Copies t) (flow : ℕ → ℕ → ℕ → Type 0) where
  -- "CALL or START puts each argument's set into its parameter's": statement s of copy c passes the arguments a to routine q
  abbrev pub Passing : ℕ → ℕ → ℕ → Arguments → Type 0
  Passing c s q a =
      (k x : ℕ) → k < (routine t q).parameters → flow c (get_or (passed a) k 0) x → flow (copies.leads c s) ((routine t q).handle + k) x

  -- flow sets: "a local's set holds its start, POINT h g puts g's set into h's, and CALL or START puts each argument's set into its parameter's".
  -- Document 01's are the least
  pub record FlowRules : Type 0 where
    pub local : (c h : ℕ) → c < copies.count → OwnHandle t (copies.of c) h → (declaration t h).origin ≡ 1 → flow c h (declaration t h).start
    pub point : (c s h : ℕ) → Place copies c s → (view (statement t s)).points ≡ Some h → (x : ℕ) → flow c (view (statement t s)).source x → flow c h x
    pub passing : (c s q : ℕ) → Place copies c s → Names (statement t s) q → Passing c s q (view (statement t s)).arguments

-- k is the one member of a set
pub record Only (set : ℕ → Type 0) (k : ℕ) : Type 0 where
  pub member : set k
  pub alone : (x : ℕ) → set x → x ≡ k

-- ---- gives: sets of locks for each copy

-- the locks that "a GIVE in r, or in what r reaches by CALLs, has in its flow set". The least such sets
pub record GivesRules {t : Table} (copies : Copies t) (flow : ℕ → ℕ → ℕ → Type 0) (gives : ℕ → ℕ → Type 0) : Type 0 where
  pub by_give : (c s k h : ℕ) → Place copies c s → (view (statement t s)).gives ≡ Some h → flow c h k → gives c k
  pub by_call : (c s k q : ℕ) → Place copies c s → calls (view (statement t s)) ≡ Some q → gives (copies.leads c s) k → gives c k

-- ---- held: sets of locks before each statement of each copy; C-18: surely held for writing (mode true), and surely held in either way (mode false)

module _ {t : Table} (copies : Copies t) (mode : Bool) (flow : ℕ → ℕ → ℕ → Type 0) (gives : ℕ → ℕ → Type 0) (held : ℕ → ℕ → ℕ → Type 0) where
  -- "the intersection of the sets before r's RETURNs (all locks if there is none)", of copy c
  abbrev pub AtReturns : ℕ → ℕ → Type 0
  AtReturns c k = (z : ℕ) → Place copies c z → (view (statement t z)).ends ≡ true → held c z k

  -- lock k is added by statement s of copy c: "TAKE adds the lock if its flow set has exactly one", "to both sets; TAKER adds only to the second set, under
  -- TAKE's one-lock condition" (C-18). "After CALL r: the intersection of the sets before r's RETURNs"
  abbrev pub Gains : ℕ → ℕ → ℕ → Statement → Type 0
  Gains c s k σ = On (takes_in mode (view σ)) (λ h. Only (flow c h) k) ⊎ On (calls (view σ)) (λ q. AtReturns (copies.leads c s) k)

  -- or may be given up by it: "GIVE removes its whole flow set", and over a CALL go the locks that a "GIVE in r, or in what r reaches by CALLs, has in its
  -- flow set"
  abbrev pub Loses : ℕ → ℕ → ℕ → Statement → Type 0
  Loses c s k σ = On (view σ).gives (λ h. flow c h k) ⊎ On (calls (view σ)) (λ q. gives (copies.leads c s) k)

  -- it is held after it: added, or held before and not given up. "Other operations keep the set"
  abbrev pub After : ℕ → ℕ → ℕ → Statement → Type 0
  After c s k σ = Gains c s k σ ⊎ (held c s k × (Loses c s k σ → ⊥))

  -- held sets: "Where ways meet, intersect", so what is held before a statement is held after every statement that it may follow. "At the first statement
  -- of a routine every way in counts, the entry included. The entry set is the intersection over its CALLs, and empty for routine 0 and for a routine named
  -- by a START". Document 01's are the greatest sets of the table's locks with these rules
  pub record HeldRules : Type 0 where
    pub locks : (c s k : ℕ) → Place copies c s → held c s k → k < t.locks
    pub way : (c s s' k : ℕ) → Place copies c s → Goes s (statement t s) s' → held c s' k → After c s k (statement t s)
    pub by_call : (c s k q : ℕ) → Place copies c s → calls (view (statement t s)) ≡ Some q → held (copies.leads c s) (routine t q).first k → held c s k
    pub by_start : (c s k q : ℕ) → Place copies c s → starts (view (statement t s)) ≡ Some q → held (copies.leads c s) (routine t q).first k → ⊥
    pub by_main : (k : ℕ) → held copies.main (routine t 0).first k → ⊥

-- ---- effect and future: sets of reads (false) and writes (true) of cells

module _ {t : Table} (copies : Copies t) (flow : ℕ → ℕ → ℕ → Type 0) where
  -- statement s of copy c is an access of cell x by its flow set
  abbrev pub Accesses : ℕ → Statement → Bool → ℕ → Type 0
  Accesses c σ w x = On (accesses w (view σ)) (λ h. flow c h x)

  module _ (effect : ℕ → Bool → ℕ → Type 0) where
    -- the effect of statement s of copy c: reads and writes by flow sets; "the effect of a CALL or START statement is that of the routine it names"
    abbrev pub Does : ℕ → ℕ → Statement → Bool → ℕ → Type 0
    Does c s σ w x = Accesses c σ w x ⊎ On (view σ).names (λ q. effect (copies.leads c s) w x)

    -- "Effect of a routine: its reads and writes of cells by flow sets, with those of all it CALLs or STARTs". The least such sets
    pub record EffectRules : Type 0 where
      pub of_statement : (c s : ℕ) (w : Bool) (x : ℕ) → Place copies c s → Does c s (statement t s) w x → effect c w x

    -- "Future of a statement: the effects of all statements that may follow it in its routine, round loops too, with the futures of all CALLs of that
    -- routine" (of the CALLs that lead to its copy). The least such sets
    pub record FutureRules (future : ℕ → ℕ → Bool → ℕ → Type 0) : Type 0 where
      pub next : (c s s' : ℕ) (w : Bool) (x : ℕ) → Place copies c s → Place copies c s' → Goes s (statement t s) s' → Does c s' (statement t s') w x
          → future c s w x
      pub later : (c s s' : ℕ) (w : Bool) (x : ℕ) → Place copies c s → Place copies c s' → Goes s (statement t s) s' → future c s' w x
          → future c s w x
      pub callers : (c s z : ℕ) (w : Bool) (x q : ℕ) → Place copies c s → calls (view (statement t s)) ≡ Some q → Place copies (copies.leads c s) z
          → future c s w x → future (copies.leads c s) z w x

-- ---- C-13: what a START can precede

module _ {t : Table} (copies : Copies t) (reaches : ℕ → Type 0) where
  -- the copies that hold a START, or reach one by CALLs. The least such set
  pub record ReachRules : Type 0 where
    pub by_start : (c s q : ℕ) → Place copies c s → starts (view (statement t s)) ≡ Some q → reaches c
    pub by_call : (c s q : ℕ) → Place copies c s → calls (view (statement t s)) ≡ Some q → reaches (copies.leads c s) → reaches c

  -- statement s of copy c is "a START or a CALL that reaches one by CALLs"
  abbrev pub Brings : ℕ → ℕ → Statement → Type 0
  Brings c s σ = On (starts (view σ)) (λ q. Unit {0}) ⊎ On (calls (view σ)) (λ q. reaches (copies.leads c s))

  -- "A START can precede a statement if its routine is named by a START, if a START can precede some CALL of its routine, or if it may follow, in its
  -- routine, a START or a CALL that reaches one by CALLs", in one step or more. The least such sets of statements
  pub record PrecededRules (preceded : ℕ → ℕ → Type 0) : Type 0 where
    pub by_start : (c s z q : ℕ) → Place copies c s → starts (view (statement t s)) ≡ Some q → Place copies (copies.leads c s) z
        → preceded (copies.leads c s) z
    pub by_call : (c s z q : ℕ) → Place copies c s → calls (view (statement t s)) ≡ Some q → Place copies (copies.leads c s) z → preceded c s
        → preceded (copies.leads c s) z
    pub next : (c s s' : ℕ) → Place copies c s → Place copies c s' → Goes s (statement t s) s' → Brings c s (statement t s) → preceded c s'
    pub later : (c s s' : ℕ) → Place copies c s → Place copies c s' → Goes s (statement t s) s' → preceded c s → preceded c s'

-- ---- shared, common locks, stray

-- two sets of reads and writes "both touch it and one of them writes it"
pub record Clash (one other : Bool → ℕ → Type 0) (x : ℕ) : Type 0 where
  pub v : Bool
  pub w : Bool
  pub touches : one v x
  pub touches_too : other w x
  pub one_writes : (v ≡ true) ⊎ (w ≡ true)

-- "A cell is shared if at some START the effect of the started routine and the future of that START both touch it and one of them writes it"
pub record SharedRules {t : Table} (copies : Copies t) (effect : ℕ → Bool → ℕ → Type 0) (future : ℕ → ℕ → Bool → ℕ → Type 0) (shared : ℕ → Type 0)
    : Type 0 where
  pub at_start : (c s x q : ℕ) → Place copies c s → starts (view (statement t s)) ≡ Some q → Clash (effect (copies.leads c s)) (future c s) x → shared x

-- C-18: "A lock is now common to a cell if it is surely held for writing at each counted WRITE and surely held either way at each counted READ", and C-13:
-- "Leave an access out of the common locks if no START can precede it": lock k is one of cell x
abbrev pub Common : {t : Table} (copies : Copies t) (flow : ℕ → ℕ → ℕ → Type 0) (held : Bool → ℕ → ℕ → ℕ → Type 0) (preceded : ℕ → ℕ → Type 0)
    → ℕ → ℕ → Type 0
Common {t} copies flow held preceded x k =
    (c s : ℕ) (w : Bool) → Place copies c s → Accesses copies flow c (statement t s) w x → preceded c s → held w c s k

-- a GIVE whose "flow set is one lock surely held either way" (C-18)
pub record Sound (flow held : ℕ → ℕ → ℕ → Type 0) (c s h : ℕ) : Type 0 where
  pub lock : ℕ
  pub one : Only (flow c h) lock
  pub before : held c s lock

-- ---- all of it

-- the sets of a report
pub record Families : Type 1 where
  pub flow : ℕ → ℕ → ℕ → Type 0
  pub gives : ℕ → ℕ → Type 0
  pub held : Bool → ℕ → ℕ → ℕ → Type 0
  pub effect : ℕ → Bool → ℕ → Type 0
  pub future : ℕ → ℕ → Bool → ℕ → Type 0
  pub reaches : ℕ → Type 0
  pub preceded : ℕ → ℕ → Type 0
  pub shared : ℕ → Type 0

-- they satisfy the rules
pub record Rules {t : Table} (copies : Copies t) (f : Families) : Type 0 where
  pub flow_rules : FlowRules copies f.flow
  pub gives_rules : GivesRules copies f.flow f.gives
  pub held_rules : (mode : Bool) → HeldRules copies mode f.flow f.gives (f.held mode)
  pub effect_rules : EffectRules copies f.flow f.effect
  pub future_rules : FutureRules copies f.flow f.effect f.future
  pub reach_rules : ReachRules copies f.reaches
  pub preceded_rules : PrecededRules copies f.reaches f.preceded
  pub shared_rules : SharedRules copies f.effect f.future f.shared

-- the report is clean: no cell is unguarded (each is not shared or has a common lock), and no GIVE is stray
pub record Clean {t : Table} (copies : Copies t) (f : Families) : Type 0 where
  pub guarded : (x : ℕ) → x < t.cells → (f.shared x → ⊥) ⊎ ((k : ℕ) × Common copies f.flow f.held f.preceded x k)
  pub not_stray : (c s h : ℕ) → Place copies c s → (view (statement t s)).gives ≡ Some h → Sound f.flow (f.held false) c s h
