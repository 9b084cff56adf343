-- Fields of one, two or three digits, seen without a loop: six characters, three spaces or more and digits. Assumes nothing.
use Rattle.std.specs.Prelude.{◌≡◌, refl, ℕ, suc, ◌+◌, ◌*◌, ◌-◌, ◌/◌, ◌%◌, ◌≤◌, ◌<◌, Bool, true, false, ◌&&◌, List, [], ◌∷◌, eqb, pos, length, get_or, take, drop}
use Rattle.std.proofs.Common.{ap, ◌∙◌, arith, Fits, w8, drop-cons, eqb-true}
use Rattle.std.proofs.Math.Option.{Option, some}
use Rattle.std.proofs.lemmas.Bool.{eqb-false, and_parts}
use Rattle.fields.specs.Field.{decimal_of, positive, spaced_of, field_of}
use Rattle.fields.specs.FieldLoops.{spaced_space, spaced_other, is_digit_lem, digits_digit, digits_none, decimal_zero, decimal_digits, signed_other, field_six}

-- four bytes as one number
pub record Four (a b c d r : ℕ) : Type 0 where
  pub whole : r ≡ a + 256 * b + 65536 * c + 16777216 * d
  pub bytes : (a < 256) × (b < 256) × (c < 256) × (d < 256)

-- the first four bytes from a place on
module _ (t : List ℕ) (at : ℕ) {r : ℕ} where
  pub four_of : r ≡ get_or t at 0 + get_or t (at + 1) 0 * 256 + get_or t (at + 2) 0 * 65536 + get_or t (at + 3) 0 * 16777216 → ((i : ℕ) → Fits w8 (get_or t i 0))
      → Four (get_or t at 0) (get_or t (at + 1) 0) (get_or t (at + 2) 0) (get_or t (at + 3) 0) r
  four_of e b = record { whole = omega arith; bytes = ((b at).fits, (b (at + 1)).fits, (b (at + 2)).fits, (b (at + 3)).fits) }

-- three digits, the first as its character less 32
pub record Hundreds (lead e ones n : ℕ) : Type 0 where
  pub form : (16 < lead) × (lead ≤ 25) × (48 ≤ e) × (e ≤ 57) × (n ≡ 100 * (lead - 16) + 10 * (e - 48) + ones)

-- the number below 1,000 that the characters say
pub record Quick (cs : List ℕ) (n : ℕ) : Type 0 where
  pub small : n < 1000
  pub said : field_of cs ≡ some (pos n)

-- the six characters at a place say 0
pub record ZeroField (t : List ℕ) (at : ℕ) : Type 0 where
  pub zero : field_of (take 6 (drop at t)) ≡ some (pos 0)

-- the six characters at a place, one by one
six_at : (t : List ℕ) (at : ℕ) → at + 6 ≤ length t
    → take 6 (drop at t) ≡ get_or t at 0 ∷ get_or t (at + 1) 0 ∷ get_or t (at + 2) 0 ∷ get_or t (at + 3) 0 ∷ get_or t (at + 4) 0 ∷ get_or t (at + 5) 0 ∷ []
six_at t at h =
    let u : at + 1 ≡ suc at = omega arith in
    let v : at + 2 ≡ suc (suc at) = omega arith in
    let w : at + 3 ≡ suc (suc (suc at)) = omega arith in
    let x : at + 4 ≡ suc (suc (suc (suc at))) = omega arith in
    let y : at + 5 ≡ suc (suc (suc (suc (suc at)))) = omega arith in
    rw (
      u,
      v,
      w,
      x,
      y,
      drop-cons t at 0 (omega arith),
      drop-cons t (suc at) 0 (omega arith),
      drop-cons t (suc (suc at)) 0 (omega arith),
      drop-cons t (suc (suc (suc at))) 0 (omega arith),
      drop-cons t (suc (suc (suc (suc at)))) 0 (omega arith),
      drop-cons t (suc (suc (suc (suc (suc at))))) 0 (omega arith),
    )

-- digits behind spaces

spaced_digit : (c : ℕ) (cs : List ℕ) → 48 ≤ c → spaced_of (c ∷ cs) ≡ positive (decimal_of (c ∷ cs))
spaced_digit c cs h = spaced_other c cs (λ e. omega arith) ∙ signed_other c cs (λ e. omega arith)

one_digit : (f : ℕ) → 48 ≤ f → f ≤ 57 → decimal_of (f ∷ []) ≡ some (f - 48)
one_digit f lo hi = go (eqb f 48) refl
  where
    go : (b : Bool) → eqb f 48 ≡ b → decimal_of (f ∷ []) ≡ some (f - 48)
    go true e = let u : f - 48 ≡ 0 = omega (arith, eqb-true f 48 e) in rw u (decimal_zero f (eqb-true f 48 e))
    go false e = rw (decimal_digits f [] (eqb-false f 48 e), digits_digit 0 f [] (is_digit_lem f lo hi), digits_none) (ap {B = Option ℕ} some (omega arith))

two_digits : (e f : ℕ) → 48 < e → e ≤ 57 → 48 ≤ f → f ≤ 57 → decimal_of (e ∷ f ∷ []) ≡ some (10 * (e - 48) + (f - 48))
two_digits e f a b lo hi =
    rw (decimal_digits e (f ∷ []) (λ u. omega arith), digits_digit 0 e (f ∷ []) (is_digit_lem e (omega arith) b), digits_digit _ f [] (is_digit_lem f lo hi), digits_none)
    (ap {B = Option ℕ} some (omega arith))

three_digits : (d e f : ℕ) → 48 < d → d ≤ 57 → 48 ≤ e → e ≤ 57 → 48 ≤ f → f ≤ 57
    → decimal_of (d ∷ e ∷ f ∷ []) ≡ some (100 * (d - 48) + 10 * (e - 48) + (f - 48))
three_digits d e f p q a b lo hi =
    rw (decimal_digits d (e ∷ f ∷ []) (λ u. omega arith), digits_digit 0 d (e ∷ f ∷ []) (is_digit_lem d (omega arith) q), digits_digit _ e (f ∷ []) (is_digit_lem e a b), digits_digit _ f [] (is_digit_lem f lo hi), digits_none)
    (ap {B = Option ℕ} some (omega arith))

-- spaces as the lower three bytes of four, and as all of them

three_spaces : {a b c d r : ℕ} → Four a b c d r → r % 16777216 ≡ 2105376 → (a ≡ 32) × (b ≡ 32) × (c ≡ 32)
three_spaces {a} {b} {c} {d} {r} w e = (omega (arith, w.whole, w.bytes), omega (arith, w.whole, w.bytes), omega (arith, w.whole, w.bytes))

four_spaces : {a b c d r : ℕ} → Four a b c d r → r ≡ 538976288 → (a ≡ 32) × (b ≡ 32) × (c ≡ 32) × (d ≡ 32)
four_spaces {a} {b} {c} {d} {r} w e =
    let u : (a ≡ 32) × (b ≡ 32) × (c ≡ 32) = three_spaces w (omega arith) in
    (u.0, u.1, u.2, omega (arith, w.whole, u))

-- the three quick forms

module _ (t : List ℕ) (at : ℕ) (room : at + 6 ≤ length t) where
  abbrev place : ℕ → ℕ
  place i = get_or t (at + i) 0

  module _ {r : ℕ} (w : Four (get_or t at 0) (place 1) (place 2) (place 3) r) (lo : 48 ≤ place 5) (hi : place 5 ≤ 57) where
    pub quick_one : r ≡ 538976288 → place 4 ≡ 32 → Quick (take 6 (drop at t)) (place 5 - 48)
    quick_one h s =
        let u = four_spaces w h in
        record {
          small = omega arith;
          said = ap field_of (six_at t at room) ∙ field_six _ refl
              ∙ spaced_space _ _ u.0 ∙ spaced_space _ _ u.1 ∙ spaced_space _ _ u.2 ∙ spaced_space _ _ u.3 ∙ spaced_space _ _ s
              ∙ spaced_digit _ [] lo ∙ ap positive (one_digit _ lo hi);
        }

    pub quick_two : r ≡ 538976288 → 48 < place 4 → place 4 ≤ 57 → Quick (take 6 (drop at t)) (10 * (place 4 - 48) + (place 5 - 48))
    quick_two h p q =
        let u = four_spaces w h in
        record {
          small = omega arith;
          said = ap field_of (six_at t at room) ∙ field_six _ refl
              ∙ spaced_space _ _ u.0 ∙ spaced_space _ _ u.1 ∙ spaced_space _ _ u.2 ∙ spaced_space _ _ u.3
              ∙ spaced_digit _ (place 5 ∷ []) (omega arith) ∙ ap positive (two_digits _ _ p q lo hi);
        }

    pub quick_three : (lead n : ℕ) → (538976288 ≤ r) × (lead ≡ r - 538976288) → lead % 16777216 ≡ 0 → Hundreds (lead / 16777216) (place 4) (place 5 - 48) n → Quick (take 6 (drop at t)) n
    quick_three lead n least h o =
        let m = o.form in
        let u : (get_or t at 0 ≡ 32) × (place 1 ≡ 32) × (place 2 ≡ 32) = three_spaces w (omega arith) in
        let v : lead / 16777216 + 32 ≡ place 3 = omega (arith, w.whole, u) in
        let q : 100 * (place 3 - 48) + 10 * (place 4 - 48) + (place 5 - 48) ≡ n = omega (arith, v, m.4) in
        record {
          small = omega (arith, m, v);
          said = ap field_of (six_at t at room) ∙ field_six _ refl
              ∙ spaced_space _ _ u.0 ∙ spaced_space _ _ u.1 ∙ spaced_space _ _ u.2
              ∙ spaced_digit _ (place 4 ∷ place 5 ∷ []) (omega (arith, v, m.0))
              ∙ ap positive (three_digits _ _ _ (omega (arith, v, m.0)) (omega (arith, v, m.1)) m.2 m.3 lo hi)
              ∙ rw q;
        }

-- zeros

pub zero_field : (t : List ℕ) (at : ℕ) {r s : ℕ} → at + 6 ≤ length t → Four (get_or t at 0) (get_or t (at + 1) 0) (get_or t (at + 2) 0) (get_or t (at + 3) 0) r
    → Four (get_or t (at + 4) 0) (get_or t (at + 5) 0) 0 0 s → (eqb r 538976288 && eqb s 12320) ≡ true → ZeroField t at
zero_field t at {r} {s} h w v e =
    let u : (eqb r 538976288 ≡ true) × (eqb s 12320 ≡ true) = and_parts _ _ e in
    let l : r ≡ 538976288 = eqb-true r 538976288 u.0 in
    let k : s ≡ 12320 = eqb-true s 12320 u.1 in
    let f : get_or t (at + 5) 0 ≡ 48 = omega (arith, v.whole, v.bytes, k) in
    let g : get_or t (at + 4) 0 ≡ 32 = omega (arith, v.whole, v.bytes, k) in
    let z : get_or t (at + 5) 0 - 48 ≡ 0 = omega (arith, f) in
    let q : Quick _ (get_or t (at + 5) 0 - 48) = quick_one t at h w (omega (arith, f)) (omega (arith, f)) l g in
    record { zero = q.said ∙ rw z }

-- the same where the spaces and the 0 that the characters are held to stand as numbers, `blank` and `nought`
pub zero_read : (t : List ℕ) (at : ℕ) {head tail blank nought : ℕ} → at + 6 ≤ length t
    → Four (get_or t at 0) (get_or t (at + 1) 0) (get_or t (at + 2) 0) (get_or t (at + 3) 0) head
    → tail ≡ get_or t (at + 4) 0 + get_or t (at + 5) 0 * 256 → ((i : ℕ) → Fits w8 (get_or t i 0))
    → blank ≡ 538976288 → nought ≡ 12320 → (eqb head blank && eqb tail nought) ≡ true → ZeroField t at
zero_read t at room w two bytes b n e =
    zero_field t at room w (record { whole = omega (arith, two); bytes = ((bytes (at + 4)).fits, (bytes (at + 5)).fits, omega arith, omega arith) }) (rw (b, n) at e)
