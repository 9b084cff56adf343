-- What the loops of the field reader need of its definitions: each step keeps what is left to read, and a number of six digits fits.
-- Assumes nothing.
use Rattle.std.specs.Prelude.{◌≡◌, refl, ℕ, zero, suc, ◌+◌, ◌*◌, ◌-◌, ◌≤◌, ◌<◌, ◌^◌, Bool, true, false, ◌⊎◌, not, ◌==◌, List, [], ◌∷◌, leb, ltb, eqb, pos, negsuc, ◌-ℤ◌, neg_ℤ, length, get_or, take, drop}
use Rattle.std.specs.Prelude as R
use Rattle.std.specs.List.{position, position_or_len}
use Rattle.std.proofs.Common.{sym, ap, ◌∙◌, inl, inr, arith, one-mul, mul_assoc, mul-le-mul_right, lt_of_lt_of_le, add-one, one-add, to_z, SFits, drop_of_length-le, length-take, length-drop, take_all, drop-cons, leb-true, leb-false, eq-eqb, ne_eqb, le-leb, lt-ltb, ltb-true, ltb-false, eqb-true}
use Rattle.std.proofs.Math.Nat.{pow-zero, pow-succ', pow-le-pow_right}
use Rattle.std.proofs.Math.Option.{Option, none, some}
use Rattle.std.specs.Int.{w32}
use Rattle.std.proofs.Math.Facts.{to_z_pos}
use Rattle.std.proofs.lemmas.Bool.{lt-leb, eqb-false}
use Rattle.fields.specs.Field.{is_digit, digits_from, decimal_of, signed_of, spaced_of, field_of, positive, negative, answer}

-- spaces

pub spaced_space : (c : ℕ) (cs : List ℕ) → c ≡ 32 → spaced_of (c ∷ cs) ≡ spaced_of cs
unfolding spaced_of
spaced_space c cs e = rw (eq-eqb c 32 e, spaced_of)

pub spaced_other : (c : ℕ) (cs : List ℕ) → (c ≡ 32 → ⊥) → spaced_of (c ∷ cs) ≡ signed_of (c ∷ cs)
unfolding spaced_of
spaced_other c cs e = rw (ne_eqb c 32 e, spaced_of)

pub spaced_none : spaced_of [] ≡ signed_of []
unfolding spaced_of signed_of
spaced_none = refl

-- digits

pub is_digit_lem : (c : ℕ) → 48 ≤ c → c ≤ 57 → is_digit c ≡ true
is_digit_lem c h k = rw (le-leb 48 c h, is_digit) (le-leb c 57 k)

below_digit : (c : ℕ) → c < 48 → is_digit c ≡ false
below_digit c h = rw (lt-leb 48 c h, is_digit)

above_digit : (c : ℕ) → 57 < c → is_digit c ≡ false
above_digit c h = rw (le-leb 48 c (omega arith), is_digit) (lt-leb c 57 h)

pub not_digit : (c : ℕ) → (c < 48) ⊎ (57 < c) → is_digit c ≡ false
not_digit c (inl h) = below_digit c h
not_digit c (inr h) = above_digit c h

pub digit_small : (c : ℕ) → is_digit c ≡ true → c - 48 ≤ 9
digit_small c e = go (leb 48 c) refl
  where
    go : (b : Bool) → leb 48 c ≡ b → c - 48 ≤ 9
    go true f = omega (arith, leb-true c 57 (rw (f, is_digit) at e))
    go false f = omega (arith, leb-false 48 c f)

pub digit_least : (c : ℕ) → is_digit c ≡ true → 48 ≤ c
digit_least c e = go (leb 48 c) refl
  where
    go : (b : Bool) → leb 48 c ≡ b → 48 ≤ c
    go true f = leb-true 48 c f
    go false f = let g : false ≡ true = rw (f, is_digit) at e in let z : ◌≡◌ {A = ℕ} 0 1 = cc in absurd (omega arith)

pub digits_digit : (m c : ℕ) (cs : List ℕ) → is_digit c ≡ true → digits_from m (c ∷ cs) ≡ digits_from (10 * m + (c - 48)) cs
unfolding digits_from
digits_digit m c cs e = rw (e, digits_from)

pub digits_other : (m c : ℕ) (cs : List ℕ) → is_digit c ≡ false → digits_from m (c ∷ cs) ≡ none
unfolding digits_from
digits_other m c cs e = rw (e, digits_from)

pub digits_none : (m : ℕ) → digits_from m [] ≡ some m
unfolding digits_from
digits_none m = refl

-- the digits before place i say m
pub record Digits (cs : List ℕ) (i m : ℕ) : Type 0 where
  pub size : length cs ≤ 6
  pub small : m < 10 ^ i
  pub left : digits_from 0 cs ≡ digits_from m (drop i cs)

pub digits_start : {cs : List ℕ} → length cs ≤ 6 → Digits cs 0 0
digits_start e = record { size = e; small = rw pow-zero (omega arith); left = refl }

module _ {cs : List ℕ} {i m : ℕ} (d : Digits cs i m) where
  pub digits_fit : i < length cs → m < 100000
  digits_fit h =
      let k : i ≤ 5 = omega (arith, d.size) in
      omega (arith, d.small, pow-le-pow_right {n = 10} (omega arith) k)

  pub digits_next : i < length cs → 48 ≤ get_or cs i 0 → get_or cs i 0 ≤ 57 → Digits cs (i + 1) (10 * m + (get_or cs i 0 - 48))
  digits_next h lo hi =
      let s : m < 10 ^ i = d.small in
      record {
        size = d.size;
        small = rw (add-one, pow-succ') (omega arith);
        left = d.left ∙ rw (add-one, drop-cons cs i 0 h) (digits_digit _ _ _ (is_digit_lem _ lo hi));
      }

  pub digits_stop : i < length cs → is_digit (get_or cs i 0) ≡ false → digits_from 0 cs ≡ none
  digits_stop h e = d.left ∙ rw (drop-cons cs i 0 h) (digits_other _ _ _ e)

  pub digits_done : length cs ≤ i → digits_from 0 cs ≡ some m
  digits_done h = d.left ∙ rw (drop_of_length-le cs h) (digits_none m)

-- one case of a definition each

pub decimal_empty : decimal_of [] ≡ none
unfolding decimal_of
decimal_empty = refl

pub decimal_zero : (c : ℕ) → c ≡ 48 → decimal_of (c ∷ []) ≡ some 0
unfolding decimal_of
decimal_zero c e = rw (eq-eqb c 48 e, decimal_of)

pub decimal_leading : (c d : ℕ) (cs : List ℕ) → c ≡ 48 → decimal_of (c ∷ d ∷ cs) ≡ none
unfolding decimal_of
decimal_leading c d cs e = rw (eq-eqb c 48 e, decimal_of)

-- nothing, a 0 alone, and a 0 that leads
pub decimal_nil : (cs : List ℕ) → length cs ≡ 0 → decimal_of cs ≡ none
decimal_nil [] h = decimal_empty
decimal_nil (c ∷ cs) h = absurd (omega arith)

pub decimal_lone : (c : ℕ) (rest : List ℕ) → c ≡ 48 → length rest ≡ 0 → decimal_of (c ∷ rest) ≡ some 0
decimal_lone c [] e h = decimal_zero c e
decimal_lone c (d ∷ rest) e h = absurd (omega arith)

pub decimal_led : (c : ℕ) (rest : List ℕ) → c ≡ 48 → (length rest ≡ 0 → ⊥) → decimal_of (c ∷ rest) ≡ none
decimal_led c [] e n = absurd (n refl)
decimal_led c (d ∷ rest) e n = decimal_leading c d rest e

pub decimal_digits : (c : ℕ) (cs : List ℕ) → (c ≡ 48 → ⊥) → decimal_of (c ∷ cs) ≡ digits_from 0 (c ∷ cs)
unfolding decimal_of
decimal_digits c cs e = rw (ne_eqb c 48 e, decimal_of)

pub signed_empty : signed_of [] ≡ none
unfolding signed_of
signed_empty = refl

pub signed_minus : (c : ℕ) (cs : List ℕ) → c ≡ 45 → signed_of (c ∷ cs) ≡ negative (decimal_of cs)
unfolding signed_of
signed_minus c cs e = rw (eq-eqb c 45 e, signed_of)

pub signed_other : (c : ℕ) (cs : List ℕ) → (c ≡ 45 → ⊥) → signed_of (c ∷ cs) ≡ positive (decimal_of (c ∷ cs))
unfolding signed_of
signed_other c cs e = rw (ne_eqb c 45 e, signed_of)

pub field_six : (cs : List ℕ) → length cs ≡ 6 → field_of cs ≡ spaced_of cs
unfolding field_of
field_six cs e = rw (eq-eqb (length cs) 6 e, field_of)

pub field_short : (cs : List ℕ) → (length cs ≡ 6 → ⊥) → field_of cs ≡ none
unfolding field_of
field_short cs e = rw (ne_eqb (length cs) 6 e, field_of)

-- digits say a number below a power of ten

digits_below' : (m c n : ℕ) (cs : List ℕ) (b : Bool) → is_digit c ≡ b
    → ((k : ℕ) → digits_from k cs ≡ some n → n < suc k * 10 ^ length cs)
    → digits_from m (c ∷ cs) ≡ some n → n < suc m * 10 ^ suc (length cs)
digits_below' m c n cs true e ih h =
    let d : c - 48 ≤ 9 = digit_small c e in
    let k : suc (10 * m + (c - 48)) ≤ suc m * 10 = omega arith in
    let g : n < suc (10 * m + (c - 48)) * 10 ^ length cs = ih _ (sym (digits_digit m c cs e) ∙ h) in
    let u : suc (10 * m + (c - 48)) * 10 ^ length cs ≤ (suc m * 10) * 10 ^ length cs = mul-le-mul_right (10 ^ length cs) k in
    rw (pow-succ', ← mul_assoc) (lt_of_lt_of_le g u)
digits_below' m c n cs false e ih h = let z : ◌≡◌ {A = ℕ} 0 1 = cc (digits_other m c cs e) in absurd (omega arith)

pub digits_below : (m n : ℕ) (cs : List ℕ) → digits_from m cs ≡ some n → n < suc m * 10 ^ length cs
digits_below m n [] h = let e : m ≡ n = cc (digits_none m) in omega (arith, e, pow-zero 10)
digits_below m n (c ∷ cs) h = digits_below' m c n cs (is_digit c) refl (λ k. digits_below k n cs) h

decimal_below' : (c n : ℕ) (cs : List ℕ) (b : Bool) → eqb c 48 ≡ b → decimal_of (c ∷ cs) ≡ some n → n < 10 ^ suc (length cs)
decimal_below' c n [] true e h = let z : 0 ≡ n = cc (decimal_zero c (eqb-true c 48 e)) in rw (← z) (omega arith)
decimal_below' c n (d ∷ cs) true e h = let z : ◌≡◌ {A = ℕ} 0 1 = cc (decimal_leading c d cs (eqb-true c 48 e)) in absurd (omega arith)
decimal_below' c n cs false e h =
    rw (one-mul) at (digits_below 0 n (c ∷ cs) (sym (decimal_digits c cs (eqb-false c 48 e)) ∙ h))

pub decimal_below : (n : ℕ) (cs : List ℕ) → decimal_of cs ≡ some n → n < 10 ^ length cs
decimal_below n [] h = let z : ◌≡◌ {A = ℕ} 0 1 = cc (decimal_empty) in absurd (omega arith)
decimal_below n (c ∷ cs) h = decimal_below' c n cs (eqb c 48) refl h

pub decimal_six : (cs : List ℕ) {n : ℕ} → length cs ≤ 6 → decimal_of cs ≡ some n → n < 1000000
decimal_six cs {n} l h = omega (arith, decimal_below n cs h, pow-le-pow_right {n = 10} (omega arith) l)

-- what is no space
abbrev no_space : ℕ → Bool
no_space c = not (c == 32)

-- what a search over spaces has passed changes nothing
pub record PastSpaces (cs : List ℕ) (r : ℕ) : Type 0 where
  pub within : r ≤ length cs
  pub rest : spaced_of cs ≡ signed_of (drop r cs)

spaces_passed : (cs : List ℕ) → PastSpaces cs (position_or_len no_space cs)
spaces_passed [] = record { within = omega arith; rest = spaced_none }
spaces_passed (c ∷ cs) = go (eqb c 32) refl (spaces_passed cs)
  where
    go : (b : Bool) → eqb c 32 ≡ b → PastSpaces cs (position_or_len no_space cs) → PastSpaces (c ∷ cs) (position_or_len no_space (c ∷ cs))
    go true e p = rw e (record { within = omega (arith, p.within); rest = spaced_space c cs (eqb-true c 32 e) ∙ p.rest ∙ rw one-add })
    go false e p = rw e (record { within = omega arith; rest = spaced_other c cs (eqb-false c 32 e) })

pub past_some : {cs : List ℕ} {r : ℕ} → R.Some r ≡ position (λ c. not (c == 32)) cs → (r < length cs) × PastSpaces cs r
past_some {cs} {r} e = go (ltb (position_or_len no_space cs) (length cs)) refl
  where
    go : (b : Bool) → ltb (position_or_len no_space cs) (length cs) ≡ b → (r < length cs) × PastSpaces cs r
    go true t =
        let h : R.Some r ≡ R.Some (position_or_len no_space cs) = rw t at e in
        let u : r ≡ position_or_len no_space cs = cc in
        rw u (ltb-true (position_or_len no_space cs) (length cs) t, spaces_passed cs)
    go false t = let h : R.Some r ≡ R.None = rw t at e in let z : ◌≡◌ {A = ℕ} 0 1 = cc in absurd (omega arith)

pub past_none : (cs : List ℕ) → R.None ≡ position (λ c. not (c == 32)) cs → PastSpaces cs (length cs)
past_none cs e = go (ltb (position_or_len no_space cs) (length cs)) refl
  where
    go : (b : Bool) → ltb (position_or_len no_space cs) (length cs) ≡ b → PastSpaces cs (length cs)
    go true t = let h : R.None ≡ R.Some (position_or_len no_space cs) = rw t at e in let z : ◌≡◌ {A = ℕ} 0 1 = cc in absurd (omega arith)
    go false t =
        let p = spaces_passed cs in
        let u : position_or_len no_space cs ≡ length cs = omega (arith, p.within, ltb-false (position_or_len no_space cs) (length cs) t) in
        rw u at p

-- what six characters say, by the first that is no space

module _ {cs : List ℕ} {r : ℕ} (six : length cs ≡ 6) (p : PastSpaces cs r) where
  pub field_blank : 6 ≤ r → field_of cs ≡ none
  field_blank h = field_six cs six ∙ p.rest ∙ rw (drop_of_length-le cs {i = r} (rw six h)) signed_empty

  pub field_minus : r < 6 → get_or cs r 0 ≡ 45 → field_of cs ≡ negative (decimal_of (drop (r + 1) cs))
  field_minus h e = field_six cs six ∙ p.rest ∙ rw (add-one, drop-cons cs r 0 (rw six h)) (signed_minus _ _ e)

  pub field_plus : r < 6 → (get_or cs r 0 ≡ 45 → ⊥) → field_of cs ≡ positive (decimal_of (drop r cs))
  field_plus h e = field_six cs six ∙ p.rest ∙ rw (drop-cons cs r 0 (rw six h)) (signed_other _ _ e)

-- the characters from place k on, as code takes them
abbrev rest_from : ℕ → List ℕ → List ℕ
rest_from k cs = take (length cs - k) (drop k cs)

rest_from_lem : (k : ℕ) (cs : List ℕ) → rest_from k cs ≡ drop k cs
rest_from_lem k cs = take_all (length cs - k) (drop k cs) (rw length-drop (omega arith))

-- the same of what the search finds
module _ (cs : List ℕ) {r : ℕ} (first : R.Some r ≡ position (λ c. not (c == 32)) cs) (six : length cs ≡ 6) where
  pub found_minus : get_or cs r 0 ≡ 45 → field_of cs ≡ negative (decimal_of (rest_from (r + 1) cs))
  found_minus e = let p = past_some first in rw rest_from_lem (field_minus six p.1 (rw six at p.0) e)

  pub found_plus : (get_or cs r 0 ≡ 45 → ⊥) → field_of cs ≡ positive (decimal_of (rest_from r cs))
  found_plus e = let p = past_some first in rw rest_from_lem (field_plus six p.1 (rw six at p.0) e)

pub found_blank : (cs : List ℕ) → R.None ≡ position (λ c. not (c == 32)) cs → length cs ≡ 6 → field_of cs ≡ none
found_blank cs e six = field_blank six (past_none cs e) (omega (arith, six))

pub decimal_rest : (k : ℕ) (cs : List ℕ) {n : ℕ} → length cs ≡ 6 → decimal_of (rest_from k cs) ≡ some n → n < 1000000
decimal_rest k cs six h = decimal_six (rest_from k cs) (rw (length-take, length-drop) (omega arith)) h

-- an answer tells what was found

module _ {A : Type 0} where
  pub told_some : {o : Option A} {x : A} → R.Some x ≡ answer o → o ≡ some x
  told_some {o = none} e = let z : ◌≡◌ {A = ℕ} 0 1 = cc in absurd (omega arith)
  told_some {o = some y} e = cc

  pub told_none : {o : Option A} → R.None ≡ answer o → o ≡ none
  told_none {o = none} e = refl
  told_none {o = some y} e = let z : ◌≡◌ {A = ℕ} 0 1 = cc in absurd (omega arith)

-- signed words

pub word_plus : (m : ℕ) → m < 1000000 → to_z w32 m ≡ pos m
word_plus m h = to_z_pos w32 (omega arith)

pub word_minus : (m : ℕ) → m < 1000000 → (m ≡ 0 → ⊥) → (pos 0 -ℤ to_z w32 m) ≡ neg_ℤ (pos m)
word_minus zero h n = absurd (n refl)
word_minus (suc k) h n = rw (to_z_pos w32 {n = suc k} (omega arith), lt-ltb 0 (suc k) (omega arith)) (ap negsuc (omega arith))

pub minus_fits : (m : ℕ) → m < 1000000 → (m ≡ 0 → ⊥) → SFits w32 (pos 0 -ℤ to_z w32 m)
minus_fits zero h n = absurd (n refl)
minus_fits (suc k) h n = rw (word_minus (suc k) h n) (record { sfits = omega arith })

pub negative_some : (m : ℕ) → (m ≡ 0 → ⊥) → negative (some m) ≡ some (neg_ℤ (pos m))
negative_some zero n = absurd (n refl)
negative_some (suc k) n = refl

pub negative_zero : (m : ℕ) → m ≡ 0 → negative (some m) ≡ none
negative_zero zero e = refl
negative_zero (suc k) e = absurd (omega arith)

-- a decimal number that begins at a place of six characters

pub decimal_stops : (cs : List ℕ) (from : ℕ) → length cs ≡ 6 → from ≡ 6 → decimal_of (drop from cs) ≡ none
decimal_stops cs from six e = rw (drop_of_length-le cs {i = from} (omega arith)) decimal_empty

pub decimal_last : (cs : List ℕ) (from : ℕ) → length cs ≡ 6 → from ≡ 5 → get_or cs from 0 ≡ 48 → decimal_of (drop from cs) ≡ some 0
decimal_last cs from six f e =
    rw (drop-cons cs from 0 (omega arith), drop_of_length-le cs {i = suc from} (omega arith)) (decimal_zero _ e)

pub decimal_more : (cs : List ℕ) (from : ℕ) → length cs ≡ 6 → from < 5 → get_or cs from 0 ≡ 48 → decimal_of (drop from cs) ≡ none
decimal_more cs from six f e =
    rw (drop-cons cs from 0 (omega arith), drop-cons cs (suc from) 0 (omega arith)) (decimal_leading _ _ _ e)

pub decimal_other : (cs : List ℕ) (from : ℕ) → length cs ≡ 6 → from < 6 → (get_or cs from 0 ≡ 48 → ⊥) → decimal_of (drop from cs) ≡ digits_from 0 (drop from cs)
decimal_other cs from six f e = rw (drop-cons cs from 0 (omega arith)) (decimal_digits _ _ e)
