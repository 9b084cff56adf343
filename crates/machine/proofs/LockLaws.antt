-- C-18: what TAKE, TAKER and GIVE do to who holds a lock: one writer or readers alone, and nobody's hold but the thread's own changes. Assumes nothing.
use Rattle.std.specs.Prelude.{ℕ, ◌≡◌, refl, Bool, true, false, cond, ◌||◌, List, [], ◌∷◌, eqb}
use Rattle.std.proofs.Common.{sym, ap, ◌∙◌, arith, eqb-true, eq-eqb, ne_eqb}
use Rattle.machine.specs.State.{State, Holder, writer, readers, free, among, without, holds_in, holder}
use Rattle.machine.specs.Step.{Turn, passes, stops, taking, reading, giving}
use Rattle.machine.specs.Words.{HoldsIn, Holds}

pub never {ℓ} : {C : Type ℓ} → false ≡ true → C
never e = let z : ◌≡◌ {A = ℕ} 0 1 = cc in absurd (omega arith)

-- ---- threads in a list

among_first : (n : ℕ) (ms : List ℕ) → among n (n ∷ ms) ≡ true
among_first n ms = rw (eq-eqb n n refl)

among_later : (n m : ℕ) (ms : List ℕ) → among n ms ≡ true → among n (m ∷ ms) ≡ true
among_later n m ms h = go (eqb m n)
  where
    go : (b : Bool) → (b || among n ms) ≡ true
    go true = refl
    go false = h

without_others : (n o : ℕ) (ms : List ℕ) → (o ≡ n → ⊥) → among o (without n ms) ≡ among o ms
without_others n o [] other = refl
without_others n o (m ∷ ms) other = go (without_others n o ms other) (eqb m n) refl
  where
    go : among o (without n ms) ≡ among o ms → (b : Bool) → eqb m n ≡ b → among o (cond b (without n ms) (m ∷ without n ms)) ≡ (eqb m o || among o ms)
    go later true e = rw (ne_eqb m o (λ i. other (sym i ∙ eqb-true m n e))) later
    go later false e = ap (λ (b : Bool). eqb m o || b) later

without_none : (n : ℕ) (ms : List ℕ) → among n (without n ms) ≡ false
without_none n [] = refl
without_none n (m ∷ ms) = go (without_none n ms) (eqb m n) refl
  where
    go : among n (without n ms) ≡ false → (b : Bool) → eqb m n ≡ b → among n (cond b (without n ms) (m ∷ without n ms)) ≡ false
    go later true e = later
    go later false e = rw e later

-- ---- "A lock is free, held for writing by one thread, or held for reading by some"

-- who holds for writing also holds in either way
pub writing_holds : (w : Bool) (h : Holder) (n : ℕ) → holds_in true h n ≡ true → holds_in w h n ≡ true
writing_holds w (writer m) n e = e
writing_holds w (readers ms) n e = never e

-- one writer, or readers alone: beside a thread that holds a lock for writing nobody holds it, in either way
pub writer_alone : (w : Bool) (h : Holder) (m n : ℕ) → holds_in true h m ≡ true → holds_in w h n ≡ true → m ≡ n
writer_alone w (writer o) m n e i = sym (eqb-true o m e) ∙ eqb-true o n i
writer_alone w (readers ms) m n e i = never e

-- so in every state
pub one_writer_or_readers : (state : State) (k m n : ℕ) → HoldsIn true state m k → Holds state n k → m ≡ n
one_writer_or_readers state k m n writes holds = writer_alone false (holder state k) m n writes holds

-- nobody holds a free lock
pub free_held : (w : Bool) (n : ℕ) → holds_in w free n ≡ false
free_held true n = refl
free_held false n = refl

-- ---- a turn that passes

-- P holds of who holds the lock then
abbrev pub OnPass : Turn → (Holder → Type 0) → Type 0
OnPass (passes new) P = P new
OnPass (stops number) P = Unit {0}

-- what follows from two things that hold of it
pub on_both : (turn : Turn) {P Q R : Holder → Type 0} → ((new : Holder) → P new → Q new → R new) → OnPass turn P → OnPass turn Q → OnPass turn R
on_both (passes new) f p q = f new p q
on_both (stops number) f p q = tt

-- every other thread holds what it held
abbrev pub OthersKeep : ℕ → Holder → Holder → Type 0
OthersKeep n old new = (w : Bool) (o : ℕ) → (o ≡ n → ⊥) → holds_in w old o ≡ true → holds_in w new o ≡ true

-- every thread holds what it held
abbrev pub AllKeep : Holder → Holder → Type 0
AllKeep old new = (w : Bool) (o : ℕ) → holds_in w old o ≡ true → holds_in w new o ≡ true

-- every other thread holds what it held, and nothing else
abbrev pub OthersSame : ℕ → Holder → Holder → Type 0
OthersSame n old new = (w : Bool) (o : ℕ) → (o ≡ n → ⊥) → holds_in w new o ≡ holds_in w old o

others_keep : (n : ℕ) (old : Holder) (turn : Turn) → OnPass turn (OthersSame n old) → OnPass turn (OthersKeep n old)
others_keep n old turn same = on_both turn {R = OthersKeep n old} (λ new others too w o other has. others w o other ∙ has) same same

-- TAKE holds in both ways
pub taking_gets : (n : ℕ) (old : Holder) → OnPass (taking n old) (λ new. (w : Bool) → holds_in w new n ≡ true)
taking_gets n (writer m) = tt
taking_gets n (readers []) = λ w. eq-eqb n n refl
taking_gets n (readers (m ∷ ms)) = tt

pub taking_keeps : (n : ℕ) (old : Holder) → OnPass (taking n old) (AllKeep old)
taking_keeps n (writer m) = tt
taking_keeps n (readers []) = λ w o e. never (sym (free_held w o) ∙ e)
taking_keeps n (readers (m ∷ ms)) = tt

pub taking_others_same : (n : ℕ) (old : Holder) → OnPass (taking n old) (OthersSame n old)
taking_others_same n (writer m) = tt
taking_others_same n (readers []) = λ w o other. ne_eqb n o (λ e. other (sym e)) ∙ sym (free_held w o)
taking_others_same n (readers (m ∷ ms)) = tt

pub taking_others : (n : ℕ) (old : Holder) → OnPass (taking n old) (OthersKeep n old)
taking_others n old = others_keep n old (taking n old) (taking_others_same n old)

-- TAKER holds in one, and loses nothing
pub reading_gets : (n : ℕ) (old : Holder) → OnPass (reading n old) (λ new. holds_in false new n ≡ true)
reading_gets n (writer m) = tt
reading_gets n (readers ms) = go (among n ms)
  where
    go : (b : Bool) → OnPass (cond b (stops 16) (passes (readers (n ∷ ms)))) (λ new. holds_in false new n ≡ true)
    go true = tt
    go false = among_first n ms

pub reading_keeps : (n : ℕ) (old : Holder) → OnPass (reading n old) (λ new. (w : Bool) (o : ℕ) → holds_in w old o ≡ true → holds_in w new o ≡ true)
reading_keeps n (writer m) = tt
reading_keeps n (readers ms) = go (among n ms)
  where
    kept : AllKeep (readers ms) (readers (n ∷ ms))
    kept true o e = e
    kept false o e = among_later o n ms e

    go : (b : Bool) → OnPass (cond b (stops 16) (passes (readers (n ∷ ms)))) (AllKeep (readers ms))
    go true = tt
    go false = kept

pub reading_others : (n : ℕ) (old : Holder) → OnPass (reading n old) (OthersSame n old)
reading_others n (writer m) = tt
reading_others n (readers ms) = go (among n ms)
  where
    same : OthersSame n (readers ms) (readers (n ∷ ms))
    same true o other = refl
    same false o other = rw (ne_eqb n o (λ e. other (sym e)))

    go : (b : Bool) → OnPass (cond b (stops 16) (passes (readers (n ∷ ms)))) (OthersSame n (readers ms))
    go true = tt
    go false = same

-- "GIVE ends either hold", of this thread alone
pub giving_ends : (n : ℕ) (old : Holder) → OnPass (giving n old) (λ new. (w : Bool) → holds_in w new n ≡ false)
giving_ends n (writer m) = go (eqb m n)
  where
    go : (b : Bool) → OnPass (cond b (passes free) (stops 17)) (λ new. (w : Bool) → holds_in w new n ≡ false)
    go true = λ w. free_held w n
    go false = tt
giving_ends n (readers ms) = go (among n ms)
  where
    ended : (w : Bool) → holds_in w (readers (without n ms)) n ≡ false
    ended true = refl
    ended false = without_none n ms

    go : (b : Bool) → OnPass (cond b (passes (readers (without n ms))) (stops 17)) (λ new. (w : Bool) → holds_in w new n ≡ false)
    go true = ended
    go false = tt

pub giving_others_same : (n : ℕ) (old : Holder) → OnPass (giving n old) (OthersSame n old)
giving_others_same n (writer m) = go (eqb m n) refl
  where
    go : (b : Bool) → eqb m n ≡ b → OnPass (cond b (passes free) (stops 17)) (OthersSame n (writer m))
    go true e = λ w o other. free_held w o ∙ sym (ne_eqb m o (λ i. other (sym i ∙ eqb-true m n e)))
    go false e = tt
giving_others_same n (readers ms) = go (among n ms)
  where
    same : OthersSame n (readers ms) (readers (without n ms))
    same true o other = refl
    same false o other = without_others n o ms other

    go : (b : Bool) → OnPass (cond b (passes (readers (without n ms))) (stops 17)) (OthersSame n (readers ms))
    go true = same
    go false = tt

pub giving_others : (n : ℕ) (old : Holder) → OnPass (giving n old) (OthersKeep n old)
giving_others n old = others_keep n old (giving n old) (giving_others_same n old)

-- ---- when a turn passes

-- TAKE waits exactly while somebody holds the lock, in either way
pub held_stops_taking : (n o : ℕ) (old : Holder) → holds_in false old o ≡ true → taking n old ≡ stops 16
held_stops_taking n o (writer m) e = refl
held_stops_taking n o (readers []) e = never e
held_stops_taking n o (readers (m ∷ ms)) e = refl

pub nobody_lets_take : (n : ℕ) (old : Holder) → ((o : ℕ) → holds_in false old o ≡ true → ⊥) → taking n old ≡ passes (writer n)
nobody_lets_take n (writer m) none = absurd (none m (eq-eqb m m refl))
nobody_lets_take n (readers []) none = refl
nobody_lets_take n (readers (m ∷ ms)) none = absurd (none m (among_first m ms))

-- TAKER "waits (16) while a thread holds the lock for writing or this thread holds it at all", and else passes
pub writer_stops_reading : (n o : ℕ) (old : Holder) → holds_in true old o ≡ true → reading n old ≡ stops 16
writer_stops_reading n o (writer m) e = refl
writer_stops_reading n o (readers ms) e = never e

pub own_hold_stops_reading : (n : ℕ) (old : Holder) → holds_in false old n ≡ true → reading n old ≡ stops 16
own_hold_stops_reading n (writer m) e = refl
own_hold_stops_reading n (readers ms) e = rw e

pub others_let_read : (n : ℕ) (old : Holder) → ((o : ℕ) → holds_in true old o ≡ true → ⊥) → holds_in false old n ≡ false
    → OnPass (reading n old) (λ new. holds_in false new n ≡ true) × (reading n old ≡ stops 16 → ⊥)
others_let_read n (writer m) none own = absurd (none m (eq-eqb m m refl))
others_let_read n (readers ms) none own = rw own (among_first n ms, λ e. let z : ◌≡◌ {A = ℕ} 0 1 = cc in omega arith)

-- GIVE is refused exactly where this thread holds the lock in neither way
pub not_held_stops_giving : (n : ℕ) (old : Holder) → holds_in false old n ≡ false → giving n old ≡ stops 17
not_held_stops_giving n (writer m) e = rw e
not_held_stops_giving n (readers ms) e = rw e

pub held_lets_give : (n : ℕ) (old : Holder) → holds_in false old n ≡ true → (new : Holder) × (giving n old ≡ passes new)
held_lets_give n (writer m) e = (free, rw e)
held_lets_give n (readers ms) e = (readers (without n ms), rw e)

-- ---- "it refuses a step for 14 to 17 alone": a turn for 16 and 17

abbrev pub Stops : ℕ → Turn → Type 0
Stops number (passes new) = Unit {0}
Stops number (stops other) = other ≡ number

pub taking_stops : (n : ℕ) (old : Holder) → Stops 16 (taking n old)
taking_stops n (writer m) = refl
taking_stops n (readers []) = tt
taking_stops n (readers (m ∷ ms)) = refl

pub reading_stops : (n : ℕ) (old : Holder) → Stops 16 (reading n old)
reading_stops n (writer m) = refl
reading_stops n (readers ms) = go (among n ms)
  where
    go : (b : Bool) → Stops 16 (cond b (stops 16) (passes (readers (n ∷ ms))))
    go true = refl
    go false = tt

pub giving_stops : (n : ℕ) (old : Holder) → Stops 17 (giving n old)
giving_stops n (writer m) = go (eqb m n)
  where
    go : (b : Bool) → Stops 17 (cond b (passes free) (stops 17))
    go true = tt
    go false = refl
giving_stops n (readers ms) = go (among n ms)
  where
    go : (b : Bool) → Stops 17 (cond b (passes (readers (without n ms))) (stops 17))
    go true = tt
    go false = refl
