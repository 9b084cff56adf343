-- What the loops of the printer need: bytes copied one after the other, digits written from the last, fields from the first.
-- Assumes nothing.
use Rattle.std.specs.Prelude.{◌≡◌, refl, ℕ, zero, suc, ◌+◌, ◌*◌, ◌-◌, ◌/◌, ◌%◌, ◌≤◌, ◌<◌, ◌^◌, Bool, true, false, ◌&&◌, List, [], ◌∷◌, ◌++◌, ℤ, pos, negsuc, nat_abs, ◌-ℤ◌, length, get_or, take, drop, set, replicate, Result, Ok, Err}
use Rattle.std.specs.List.{list_all}
use Rattle.std.proofs.Common.{sym, ap, ◌∙◌, arith, add-one, zero-add, append_assoc, append-nil, length-set, length-drop, drop_of_length-le, drop-cons, drop-drop, take_all, drop_at, ltb-true, ltb-false, lt-ltb, le-ltb, le-leb}
use Rattle.std.proofs.lemmas.Bool.{lt-leb}
use Rattle.std.proofs.Math.Nat.{pow-succ'}
use Rattle.std.specs.Int.Signed.{lt_z}
use Rattle.std.proofs.lemmas.List.{length-replicate, set_split}
use Rattle.std.proofs.Math.Seq.{paste, append_snoc}
use Rattle.std.proofs.lemmas.List.Edits.{length-paste, take-paste, drop-paste}
use Rattle.fields.specs.Field.{in_field, decimal_text, field_text}
use Rattle.fields.specs.FieldLaws.{text_last, text_more, text_width, field_text_lem, field_text_length, signed_pos, signed_negsuc}
use Rattle.lines.specs.Line.{all_in_field, line_text}
use Rattle.lines.proofs.LineLaws.{all_none, all_good, all_bad, text_end, text_cons, line_text_length}
use Rattle.line_printer.specs.declared.PrintError as P
use Rattle.line_printer.specs.Print.{print_answer, printed_at}

-- the range and the sign, from tests on signed numbers

pub range_low : (z : ℤ) → lt_z z (negsuc 99998) ≡ true → in_field z ≡ false
range_low (pos n) h = let u : ◌≡◌ {A = ℕ} 0 1 = cc in absurd (omega arith)
range_low (negsuc n) h = le-ltb n 99999 (omega (arith, ltb-true 99998 n h))

pub range_high : (z : ℤ) → lt_z (pos 999999) z ≡ true → in_field z ≡ false
range_high (pos n) h = le-ltb n 1000000 (omega (arith, ltb-true 999999 n h))
range_high (negsuc n) h = let u : ◌≡◌ {A = ℕ} 0 1 = cc in absurd (omega arith)

pub range_between : (z : ℤ) → lt_z z (negsuc 99998) ≡ false → lt_z (pos 999999) z ≡ false → in_field z ≡ true
range_between (pos n) h k = lt-ltb n 1000000 (omega (arith, ltb-false 999999 n k))
range_between (negsuc n) h k = lt-ltb n 99999 (omega (arith, ltb-false 99998 n h))

pub abs_small : (z : ℤ) → in_field z ≡ true → nat_abs z < 1000000
abs_small (pos n) h = ltb-true n 1000000 h
abs_small (negsuc n) h = omega (arith, ltb-true n 99999 h)

pub abs_less : (z : ℤ) → in_field z ≡ true → lt_z z (pos 0) ≡ true → nat_abs z < 100000
abs_less (pos n) h k = absurd (omega (arith, ltb-true n 0 k))
abs_less (negsuc n) h k = omega (arith, ltb-true n 99999 h)

pub minus_abs : (z : ℤ) → lt_z z (pos 0) ≡ true → (pos 0 -ℤ z) ≡ pos (nat_abs z)
minus_abs (pos n) k = absurd (omega (arith, ltb-true n 0 k))
minus_abs (negsuc n) k = ap pos (zero-add (suc n))

pub plus_abs : (z : ℤ) → lt_z z (pos 0) ≡ false → z ≡ pos (nat_abs z)
plus_abs (pos n) k = refl
plus_abs (negsuc n) k = let u : ◌≡◌ {A = ℕ} 0 1 = cc in absurd (omega arith)

-- numbers in the range
pub all_are_in_field : (zs : List ℤ) → list_all in_field zs ≡ all_in_field zs
all_are_in_field [] = sym all_none
all_are_in_field (z ∷ zs) = go (in_field z) refl (all_are_in_field zs)
  where
    go : (b : Bool) → in_field z ≡ b → list_all in_field zs ≡ all_in_field zs → (in_field z && list_all in_field zs) ≡ all_in_field (z ∷ zs)
    go true e ih = rw e (ih ∙ sym (all_good z zs e))
    go false e ih = rw (e, all_bad z zs e)

-- digits written from the last

-- the digits of m and those written behind place k are the digits of m₀, and up to place k stand spaces
pub record Filling (m₀ : ℕ) (cs : List ℕ) (m k : ℕ) : Type 0 where
  pub room : k ≤ 5
  pub sized : length cs ≡ 6
  pub small : m < 10 ^ suc k
  pub spaces : cs ≡ replicate (suc k) 32 ++ drop (suc k) cs
  pub left : decimal_text (suc k) m ++ drop (suc k) cs ≡ decimal_text 6 m₀

pub filling_start : (m : ℕ) → m < 1000000 → Filling m (replicate 6 32) m 5
filling_start m h = record { room = omega arith; sized = refl; small = h; spaces = refl; left = append-nil (decimal_text 6 m) }

-- a character at the last space
put_last : (k d : ℕ) (r : List ℕ) → set (replicate (suc k) 32 ++ r) k d ≡ replicate k 32 ++ d ∷ r
put_last zero d r = refl
put_last (suc k) d r = ap (λ (l : List ℕ). 32 ∷ l) (put_last k d r)

drop_put : (k d : ℕ) (r : List ℕ) → drop k (replicate k 32 ++ d ∷ r) ≡ d ∷ r
drop_put k d r = drop_at (replicate k 32) (d ∷ r) k (length-replicate k 32)

pub filling_put : {m₀ : ℕ} {cs : List ℕ} {m k : ℕ} → Filling m₀ cs m k → (d : ℕ) → set cs k d ≡ replicate k 32 ++ d ∷ drop (suc k) cs
filling_put {m₀} {cs} {m} {k} f d = ap (λ (l : List ℕ). set l k d) f.spaces ∙ put_last k d (drop (suc k) cs)

filling_step : {m₀ : ℕ} {cs : List ℕ} {m : ℕ} (k : ℕ) → Filling m₀ cs m (suc k) → 10 ≤ m → Filling m₀ (set cs (suc k) (48 + m % 10)) (m / 10) k
filling_step {m₀} {cs} {m} k f h =
    let p : set cs (suc k) (48 + m % 10) ≡ replicate (suc k) 32 ++ (48 + m % 10) ∷ drop (suc (suc k)) cs = filling_put f (48 + m % 10) in
    let q : drop (suc k) (set cs (suc k) (48 + m % 10)) ≡ (48 + m % 10) ∷ drop (suc (suc k)) cs = ap (drop (suc k)) p ∙ drop_put (suc k) (48 + m % 10) (drop (suc (suc k)) cs) in
    let u : m < 10 * 10 ^ suc k = rw pow-succ' at f.small in
    record {
      room = omega (arith, f.room);
      sized = length-set cs (suc k) (48 + m % 10) ∙ f.sized;
      small = omega arith;
      spaces = rw q p;
      left = rw q (sym (append_assoc (decimal_text (suc k) (m / 10)) ((48 + m % 10) ∷ []) (drop (suc (suc k)) cs)) ∙ rw (← text_more (suc k) m h) f.left);
    }

pub filling_more : {m₀ : ℕ} {cs : List ℕ} {m k : ℕ} → Filling m₀ cs m k → 10 ≤ m → 1 ≤ k
filling_more {k = zero} f h = absurd (omega (arith, f.small))
filling_more {k = suc k} f h = omega arith

pub filling_next : {m₀ : ℕ} {cs : List ℕ} {m k : ℕ} → Filling m₀ cs m k → 10 ≤ m → Filling m₀ (set cs k (48 + m % 10)) (m / 10) (k - 1)
filling_next {k = zero} f h = absurd (omega (arith, f.small))
filling_next {m₀} {cs} {m} {k = suc k} f h =
    let e : suc k - 1 ≡ k = omega arith in
    rw e (filling_step k f h)

module _ {m₀ : ℕ} {cs : List ℕ} {m k : ℕ} (f : Filling m₀ cs m k) (h : m < 10) where
  digits_done : (48 + m) ∷ drop (suc k) cs ≡ decimal_text 6 m₀
  digits_done = rw (text_last k m h) at f.left

  digits_width : length (decimal_text 6 m₀) ≡ 6 - k
  digits_width = ap length (sym digits_done) ∙ rw length-drop (omega (arith, f.room, f.sized))

  put_digit : set cs k (48 + m) ≡ replicate k 32 ++ decimal_text 6 m₀
  put_digit = filling_put f (48 + m) ∙ ap (λ (l : List ℕ). replicate k 32 ++ l) digits_done

  pub filled_plus : (n : ℕ) → m₀ ≡ n → set cs k (48 + m) ≡ field_text (pos n)
  filled_plus n e =
      let w : 6 - length (decimal_text 6 n) ≡ k = rw (← e, digits_width) (omega (arith, f.room)) in
      put_digit ∙ rw (field_text_lem, signed_pos, w, e)

  pub room_minus : m₀ < 100000 → 1 ≤ k
  room_minus l = omega (arith, digits_width, text_width 6 4 m₀ l)

put_minus : (k : ℕ) (t : List ℕ) → 1 ≤ k → set (replicate k 32 ++ t) (k - 1) 45 ≡ replicate (k - 1) 32 ++ 45 ∷ t
put_minus zero t h = absurd (omega arith)
put_minus (suc k) t h = let e : suc k - 1 ≡ k = omega arith in rw e (put_last k 45 t)

pub filled_minus : {m₀ : ℕ} {cs : List ℕ} {m k : ℕ} → Filling m₀ cs m k → m < 10 → (n : ℕ) → m₀ ≡ suc n → suc n < 100000
    → set (set cs k (48 + m)) (k - 1) 45 ≡ field_text (negsuc n)
filled_minus {m₀} {cs} {m} {k} f h n e l =
    let r : 1 ≤ k = room_minus f h (omega arith) in
    let w : 6 - suc (length (decimal_text 6 (suc n))) ≡ k - 1 = rw (← e, digits_width f h) (omega (arith, f.room)) in
    ap (λ (l : List ℕ). set l (k - 1) 45) (put_digit f h) ∙ put_minus k (decimal_text 6 m₀) r ∙ rw (field_text_lem, signed_negsuc, w, e)

pub filled_field : {m₀ : ℕ} {cs : List ℕ} {m k : ℕ} → Filling m₀ cs m k → m < 10 → (z : ℤ) → m₀ ≡ nat_abs z → lt_z z (pos 0) ≡ false
    → set cs k (48 + m) ≡ field_text z
filled_field f h (pos n) e g = filled_plus f h n e
filled_field f h (negsuc n) e g = let u : ◌≡◌ {A = ℕ} 0 1 = cc in absurd (omega arith)

pub filled_minus_field : {m₀ : ℕ} {cs : List ℕ} {m k : ℕ} → Filling m₀ cs m k → m < 10 → (z : ℤ) → m₀ ≡ nat_abs z → in_field z ≡ true
    → lt_z z (pos 0) ≡ true → set (set cs k (48 + m)) (k - 1) 45 ≡ field_text z
filled_minus_field f h (pos n) e r g = absurd (omega (arith, ltb-true n 0 g))
filled_minus_field f h (negsuc n) e r g = filled_minus f h n e (omega (arith, ltb-true n 99999 r))

-- fields written from the first

-- before place 6 i stand the fields of the first i numbers, the places behind are as in a₀
pub record Lining (a₀ : List ℕ) (zs : List ℤ) (i : ℕ) (a : List ℕ) : Type 0 where
  pub few : i ≤ 8
  pub numbers : length zs ≡ 8
  pub room : 49 ≤ length a₀
  pub sized : length a ≡ length a₀
  pub rest : drop (6 * i) a ≡ drop (6 * i) a₀
  pub left : line_text zs ≡ take (6 * i) a ++ line_text (drop i zs)

pub lining_start : (a₀ : List ℕ) (zs : List ℤ) → length zs ≡ 8 → 49 ≤ length a₀ → Lining a₀ zs 0 a₀
lining_start a₀ zs e h = record { few = omega arith; numbers = e; room = h; sized = refl; rest = refl; left = refl }

pub lining_next : {a₀ : List ℕ} {zs : List ℤ} {i : ℕ} {a : List ℕ} → Lining a₀ zs i a → i < 8 → in_field (get_or zs i (pos 0)) ≡ true
    → Lining a₀ zs (i + 1) (paste a (6 * i) (field_text (get_or zs i (pos 0))) 6)
lining_next {a₀} {zs} {i} {a} l h g =
    let cs : List ℕ = field_text (get_or zs i (pos 0)) in
    let six : length cs ≡ 6 = field_text_length (get_or zs i (pos 0)) g in
    let u : 6 * suc i ≡ 6 * i + 6 = omega arith in
    let s : 6 * i + 6 ≤ length a = omega (arith, l.sized, l.room) in
    rw add-one (record {
      few = h;
      numbers = l.numbers;
      room = l.room;
      sized = length-paste a (6 * i) cs 6 s (omega arith) ∙ l.sized;
      rest = rw (u, drop-paste a (6 * i) cs 6 (omega arith) (omega arith), ← drop-drop 6 (6 * i) a, l.rest, drop-drop);
      left = l.left ∙ rw (u, take-paste a (6 * i) cs 6 (omega arith) (omega arith), take_all 6 cs (omega arith), drop-cons zs i (pos 0) (omega (arith, l.numbers)), text_cons, append_assoc);
    })

pub lining_done : {a₀ : List ℕ} {zs : List ℤ} {i : ℕ} {a : List ℕ} → Lining a₀ zs i a → 8 ≤ i → all_in_field zs ≡ true → set a 48 10 ≡ paste a₀ 0 (line_text zs) 49
lining_done {a₀} {zs} {i} {a} l h g =
    let e : i ≡ 8 = omega (arith, l.few) in
    let d : drop i zs ≡ [] = drop_of_length-le zs {i = i} (omega (arith, l.numbers)) in
    let n : length (line_text zs) ≡ 49 = line_text_length zs g ∙ rw l.numbers in
    let t : line_text zs ≡ take 48 a ++ 10 ∷ [] = l.left ∙ rw (d, text_end, e) in
    let r : drop 48 a ≡ drop 48 a₀ = rw e at l.rest in
    let q : drop 49 a ≡ drop 49 a₀ = sym (drop-drop 1 48 a) ∙ ap (drop 1) r ∙ drop-drop 1 48 a₀ in
    set_split a 48 10 (omega (arith, l.sized, l.room)) ∙ rw (take_all 49 (line_text zs) (omega arith), t, append_snoc, q)

-- the answers of the printer

-- the part from `at` on, with the line at its start, put back into the buffer
part_back : (out : List ℕ) (at : ℕ) (line : List ℕ) → at + 49 ≤ length out → length line ≡ 49
    → take at out ++ (paste (take (length out - at) (drop at out)) 0 line 49 ++ drop (length out - at) (drop at out)) ≡ take at out ++ line ++ drop (at + 49) out
part_back out at line h e =
    let l : length (drop at out) ≤ length out - at = rw length-drop (omega arith) in
    rw (take_all 49 line (omega arith), take_all (length out - at) (drop at out) l, drop_of_length-le (drop at out) {i = length out - at} l, append-nil, drop-drop) (sym (append_assoc (take at out) line (drop (at + 49) out)))

pub printed_no_field : (out : List ℕ) (at : ℕ) (zs : List ℤ) → all_in_field zs ≡ false
    → (◌≡◌ {A = Result (Unit {0}) P.PrintError} (Err P.PrintError.NoField) (print_answer out at zs)) × (out ≡ printed_at out at zs)
printed_no_field out at zs e = (rw e, rw e)

pub printed_no_room : (out : List ℕ) (at : ℕ) (zs : List ℤ) → all_in_field zs ≡ true → length out < at + 49
    → (◌≡◌ {A = Result (Unit {0}) P.PrintError} (Err P.PrintError.NoRoom) (print_answer out at zs)) × (out ≡ printed_at out at zs)
printed_no_room out at zs e h = (rw (e, lt-leb (at + 49) (length out) h), rw (e, lt-leb (at + 49) (length out) h))

pub printed_whole : (out : List ℕ) (at : ℕ) (zs : List ℤ) → all_in_field zs ≡ true → length zs ≡ 8 → at + 49 ≤ length out
    → (Ok tt ≡ print_answer out at zs)
    × (take at out ++ (paste (take (length out - at) (drop at out)) 0 (line_text zs) 49 ++ drop (length out - at) (drop at out)) ≡ printed_at out at zs)
printed_whole out at zs e l h =
    let n : length (line_text zs) ≡ 49 = line_text_length zs e ∙ rw l in
    (rw (e, le-leb (at + 49) (length out) h), rw (e, le-leb (at + 49) (length out) h) (part_back out at (line_text zs) h n))
