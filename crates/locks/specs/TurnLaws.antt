-- TAKE, TAKER and GIVE do to a lock's word what the machine says of who holds it. Assumes nothing.
use Rattle.std.specs.Prelude.{ℕ, ◌+◌, ◌^◌, ◌<◌, ◌≡◌, refl, Bool, true, false, cond, [], ◌∷◌, eqb, ltb, Result, Ok, Err}
use Rattle.std.proofs.Common.{◌∙◌, arith, eq-eqb, ne_eqb, lt-ltb, le-ltb, pow-add, pow_pos}
use Rattle.std.proofs.Math.Decide.{ℕ_discrete}
use Rattle.std.proofs.Math.Pow.{pow-lt}
use Rattle.sets.specs.Set.{has, one, with, minus, union}
use Rattle.sets.proofs.SetLaws.{has_one, has_beyond, has_positive, one_is, union_below, minus_below}
use Rattle.machine.specs.State.{Holder, writer, readers, free, among, without}
use Rattle.machine.specs.Step.{Turn, passes, stops, taking, reading, giving}
use Rattle.machine.proofs.LockLaws.{OnPass, Stops, taking_stops, reading_stops, giving_stops}
use Rattle.run_state.specs.Shown.{readers_word, word_of, Low}
use Rattle.run_state.specs.LockWordLaws.{readers_has, readers_below, without_low, without_word}
use Rattle.operations.specs.declared.Stop.TheVariants.{Held, NotHeld}
use Rattle.operations.specs.Step.{stop_number}
use Rattle.locks.specs.Turns.{LockTurn, taking_word, reading_word, giving_word, Storable}

-- ---- words that can be stored

element_below : (i : ℕ) → i < 32 → one i < 2 ^ 32
element_below i l = rw (one_is i (omega arith)) (pow-lt l)

pub taking_storable : (n word : ℕ) → n < 16 → Storable (taking_word n word)
taking_storable n word low = go (eqb word 0)
  where
    go : (b : Bool) → Storable (cond b (Ok (one (16 + n))) (Err Held))
    go true = omega (arith, element_below (16 + n) (omega (arith, low)))
    go false = tt

pub reading_storable : (n word : ℕ) → n < 16 → word < 4294967296 → Storable (reading_word n word)
unfolding with
reading_storable n word low l = go (ltb word 65536) (has word n)
  where
    go : (b c : Bool) → Storable (cond b (cond c (Err Held) (Ok (union word (one n)))) (Err Held))
    go true true = tt
    go true false = omega (arith, union_below 32 l (element_below n (omega (arith, low))))
    go false c = tt

pub giving_storable : (n word : ℕ) → word < 4294967296 → Storable (giving_word n word)
giving_storable n word l = go (has word (16 + n)) (has word n)
  where
    go : (b c : Bool) → Storable (cond b (Ok 0) (cond c (Ok (minus word (one n))) (Err NotHeld)))
    go true c = omega arith
    go false true = omega (arith, minus_below 32 (one n) l)
    go false false = tt

-- ---- turns in words

-- a turn of the machine, with the word of who holds the lock then, or the number of its refusal
abbrev pub turn_word : Turn → Result ℕ ℕ
turn_word (passes new) = Ok (word_of new)
turn_word (stops number) = Err number

-- a turn at a lock's word, by the number of what stopped it
abbrev pub by_number : LockTurn → Result ℕ ℕ
by_number (Ok word) = Ok word
by_number (Err why) = Err (stop_number why)

-- what an operation of the machine, refused with `number` alone, does to who holds a lock is what it does to the lock's word
pub record InWords (number : ℕ) (turn : ℕ → Holder → Turn) (word : ℕ → ℕ → LockTurn) : Type 0 where
  pub shown : (n : ℕ) (h : Holder) → n < 16 → Low h → by_number (word n (word_of h)) ≡ turn_word (turn n h)
  pub low : (n : ℕ) (h : Holder) → n < 16 → Low h → OnPass (turn n h) Low
  pub refusal : (n : ℕ) (h : Holder) → Stops number (turn n h)

writer_has : (m i : ℕ) → m < 16 → has (one (16 + m)) i ≡ eqb i (16 + m)
writer_has m i l = has_one (16 + m) i (omega (arith, l))

pub take_in_words : InWords 16 taking taking_word
take_in_words = record { shown = shown; low = low; refusal = taking_stops }
  where
    some : (h : Holder) (i : ℕ) → has (word_of h) i ≡ true → eqb (word_of h) 0 ≡ false
    some h i e = ne_eqb (word_of h) 0 (λ z. omega (arith, has_positive (word_of h) i e))

    shown : (n : ℕ) (h : Holder) → n < 16 → Low h → by_number (taking_word n (word_of h)) ≡ turn_word (taking n h)
    shown n (writer m) b l = rw (some (writer m) (16 + m) (writer_has m (16 + m) l ∙ eq-eqb (16 + m) (16 + m) refl))
    shown n (readers []) b l = refl
    shown n (readers (m ∷ ms)) b l = rw (some (readers (m ∷ ms)) m (readers_has (m ∷ ms) l m ∙ rw (eq-eqb m m refl)))

    low : (n : ℕ) (h : Holder) → n < 16 → Low h → OnPass (taking n h) Low
    low n (writer m) b l = tt
    low n (readers []) b l = b
    low n (readers (m ∷ ms)) b l = tt

pub read_in_words : InWords 16 reading reading_word
read_in_words = record { shown = shown; low = low; refusal = reading_stops }
  where
    high : (m : ℕ) → m < 16 → ltb (one (16 + m)) 65536 ≡ false
    high m l = le-ltb (one (16 + m)) 65536 (rw (one_is (16 + m) (omega (arith, l))) (omega (arith, pow-add 2 16 m, pow_pos m)))

    shown : (n : ℕ) (h : Holder) → n < 16 → Low h → by_number (reading_word n (word_of h)) ≡ turn_word (reading n h)
    shown n (writer m) b l = rw (high m l)
    shown n (readers ms) b l = rw (lt-ltb (readers_word ms) 65536 (omega (arith, readers_below ms l)), readers_has ms l n) (go (among n ms))
      where
        go : (c : Bool) → by_number (cond c (Err Held) (Ok (with (readers_word ms) n))) ≡ turn_word (cond c (stops 16) (passes (readers (n ∷ ms))))
        go true = refl
        go false = refl

    low : (n : ℕ) (h : Holder) → n < 16 → Low h → OnPass (reading n h) Low
    low n (writer m) b l = tt
    low n (readers ms) b l = go (among n ms)
      where
        go : (c : Bool) → OnPass (cond c (stops 16) (passes (readers (n ∷ ms)))) Low
        go true = tt
        go false = (b, l)

pub give_in_words : InWords 17 giving giving_word
give_in_words = record { shown = shown; low = low; refusal = giving_stops }
  where
    shown : (n : ℕ) (h : Holder) → n < 16 → Low h → by_number (giving_word n (word_of h)) ≡ turn_word (giving n h)
    shown n (writer m) b l = rw (writer_has m (16 + n) l, writer_has m n l) (go (ℕ_discrete m n))
      where
        go : Dec (m ≡ n) → by_number (cond (eqb (16 + n) (16 + m)) (Ok 0) (cond (eqb n (16 + m)) (Ok (minus (one (16 + m)) (one n))) (Err NotHeld)))
            ≡ turn_word (cond (eqb m n) (passes free) (stops 17))
        go (yes e) = rw (eq-eqb m n e, eq-eqb (16 + n) (16 + m) (omega (arith, e)))
        go (no q) = rw (ne_eqb m n q, ne_eqb (16 + n) (16 + m) (λ e. omega (arith, q, e)), ne_eqb n (16 + m) (λ e. omega (arith, b, e)))
    shown n (readers ms) b l =
        rw (has_beyond 16 (16 + n) (readers_below ms l) (omega arith), readers_has ms l n, without_word n ms b l) (go (among n ms))
      where
        go : (c : Bool) → by_number (cond c (Ok (readers_word (without n ms))) (Err NotHeld)) ≡ turn_word (cond c (passes (readers (without n ms))) (stops 17))
        go true = refl
        go false = refl

    low : (n : ℕ) (h : Holder) → n < 16 → Low h → OnPass (giving n h) Low
    low n (writer m) b l = go (eqb m n)
      where
        go : (c : Bool) → OnPass (cond c (passes free) (stops 17)) Low
        go true = tt
        go false = tt
    low n (readers ms) b l = go (among n ms)
      where
        go : (c : Bool) → OnPass (cond c (passes (readers (without n ms))) (stops 17)) Low
        go true = without_low n ms l
        go false = tt
