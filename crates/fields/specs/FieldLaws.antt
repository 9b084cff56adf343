-- A field that is printed reads back as its number, and six characters that say a number are the ones that are printed for it.
-- Assumes nothing.
use Rattle.std.specs.Prelude.{◌≡◌, refl, ℕ, zero, suc, ◌+◌, ◌*◌, ◌-◌, ◌/◌, ◌%◌, ◌≤◌, ◌<◌, ◌^◌, Bool, true, false, List, [], ◌∷◌, ◌++◌, ltb, eqb, ℤ, pos, negsuc, length, replicate}
use Rattle.std.proofs.Common.{sym, ap, ◌∙◌, arith, append_assoc, append-nil, length-append, lt-ltb, le-ltb, ltb-true, ltb-false, eqb-true}
use Rattle.std.proofs.Math.Nat.{pow-succ', pow-le-pow_right}
use Rattle.std.proofs.Math.Option.{Option, none, some}
use Rattle.std.proofs.lemmas.List.{length-replicate}
use Rattle.std.proofs.lemmas.Bool.{eqb-false}
use Rattle.fields.specs.Field.{is_digit, digits_from, decimal_of, positive, negative, signed_of, spaced_of, field_of, in_field, decimal_text, signed_text, justified, field_text}
use Rattle.fields.specs.FieldLoops.{is_digit_lem, digit_least, digit_small, digits_digit, digits_other, digits_none, decimal_empty, decimal_zero, decimal_leading, decimal_digits, decimal_below, signed_empty, signed_minus, signed_other, spaced_space, spaced_other, spaced_none, field_six, field_short}

-- digits as text, one case each

pub text_none : (n : ℕ) → decimal_text 0 n ≡ []
unfolding decimal_text
text_none n = refl

pub text_last : (f n : ℕ) → n < 10 → decimal_text (suc f) n ≡ (48 + n) ∷ []
unfolding decimal_text
text_last f n h = rw (lt-ltb n 10 h, decimal_text)

pub text_more : (f n : ℕ) → 10 ≤ n → decimal_text (suc f) n ≡ decimal_text f (n / 10) ++ (48 + n % 10) ∷ []
unfolding decimal_text
text_more f n h = rw (le-ltb n 10 h, decimal_text)

-- a number below 10 ^ k has k digits at most
pub text_width : (g f n : ℕ) → n < 10 ^ suc f → length (decimal_text g n) ≤ suc f
text_width zero f n h = rw text_none (omega arith)
text_width (suc g) f n h = go f (ltb n 10) refl h (λ k. text_width g k (n / 10))
  where
    go : (f : ℕ) (b : Bool) → ltb n 10 ≡ b → n < 10 ^ suc f → ((k : ℕ) → n / 10 < 10 ^ suc k → length (decimal_text g (n / 10)) ≤ suc k) → length (decimal_text (suc g) n) ≤ suc f
    go f true e h ih = rw (text_last g n (ltb-true n 10 e)) (omega arith)
    go zero false e h ih = absurd (omega (arith, ltb-false n 10 e))
    go (suc f) false e h ih =
        let u : n < 10 * 10 ^ suc f = rw pow-succ' at h in
        let v : length (decimal_text g (n / 10)) ≤ suc f = ih f (omega arith) in
        rw (text_more g n (ltb-false n 10 e), length-append) (omega arith)

-- printed digits read back

digits_snoc : (m k d : ℕ) (xs : List ℕ) → is_digit d ≡ true → digits_from m xs ≡ some k → digits_from m (xs ++ d ∷ []) ≡ some (10 * k + (d - 48))
digits_snoc m k d [] e h =
    let u : m ≡ k = cc (digits_none m) in
    digits_digit m d [] e ∙ digits_none _ ∙ rw u
digits_snoc m k d (c ∷ xs) e h = go (is_digit c) refl (digits_snoc (10 * m + (c - 48)) k d xs e)
  where
    go : (b : Bool) → is_digit c ≡ b → (digits_from (10 * m + (c - 48)) xs ≡ some k → digits_from (10 * m + (c - 48)) (xs ++ d ∷ []) ≡ some (10 * k + (d - 48))) → digits_from m (c ∷ (xs ++ d ∷ [])) ≡ some (10 * k + (d - 48))
    go true f ih = digits_digit m c _ f ∙ ih (sym (digits_digit m c xs f) ∙ h)
    go false f ih = let u : ◌≡◌ {A = ℕ} 0 1 = cc (digits_other m c xs f) in absurd (omega arith)

text_digit : (f n : ℕ) → n < 10 → digits_from 0 (decimal_text (suc f) n) ≡ some n
text_digit f n h =
    rw (text_last f n h, digits_digit 0 (48 + n) [] (is_digit_lem (48 + n) (omega arith) (omega arith)), digits_none)
    (ap {B = Option ℕ} some (omega arith))

text_digits : (f n : ℕ) → n < 10 ^ suc f → digits_from 0 (decimal_text (suc f) n) ≡ some n
text_digits zero n h = text_digit 0 n (omega arith)
text_digits (suc f) n h = go (ltb n 10) refl (text_digits f (n / 10))
  where
    go : (b : Bool) → ltb n 10 ≡ b → (n / 10 < 10 ^ suc f → digits_from 0 (decimal_text (suc f) (n / 10)) ≡ some (n / 10)) → digits_from 0 (decimal_text (suc (suc f)) n) ≡ some n
    go true e ih = text_digit (suc f) n (ltb-true n 10 e)
    go false e ih =
        let u : n < 10 * 10 ^ suc f = rw pow-succ' at h in
        rw (text_more (suc f) n (ltb-false n 10 e))
        (digits_snoc 0 (n / 10) (48 + n % 10) (decimal_text (suc f) (n / 10)) (is_digit_lem (48 + n % 10) (omega arith) (omega arith)) (ih (omega arith))
        ∙ ap {B = Option ℕ} some (omega arith))

-- the first digit of a text, which is 0 for the number 0 alone
record Headed (t : List ℕ) (n : ℕ) : Type 0 where
  head : ℕ
  tail : List ℕ
  is : t ≡ head ∷ tail
  digit : 48 ≤ head
  lone : n ≡ 0 → tail ≡ []
  leading : head ≡ 48 → n ≡ 0

one_headed : (f n : ℕ) → n < 10 → Headed (decimal_text (suc f) n) n
one_headed f n h = record {
  head = 48 + n;
  tail = [];
  is = text_last f n h;
  digit = omega arith;
  lone = λ e. refl;
  leading = λ e. omega arith;
}

headed : (f n : ℕ) → n < 10 ^ suc f → Headed (decimal_text (suc f) n) n
headed zero n h = one_headed 0 n (omega arith)
headed (suc f) n h = go (ltb n 10) refl (headed f (n / 10))
  where
    go : (b : Bool) → ltb n 10 ≡ b → (n / 10 < 10 ^ suc f → Headed (decimal_text (suc f) (n / 10)) (n / 10)) → Headed (decimal_text (suc (suc f)) n) n
    go true e ih = one_headed (suc f) n (ltb-true n 10 e)
    go false e ih =
        let u : n < 10 * 10 ^ suc f = rw pow-succ' at h in
        let m : 10 ≤ n = ltb-false n 10 e in
        let p : Headed (decimal_text (suc f) (n / 10)) (n / 10) = ih (omega arith) in
        record {
          head = p.head;
          tail = p.tail ++ (48 + n % 10) ∷ [];
          is = text_more (suc f) n m ∙ rw p.is;
          digit = p.digit;
          lone = λ q. absurd (omega arith);
          leading = λ q. let z : n / 10 ≡ 0 = p.leading q in absurd (omega arith);
        }

pub text_reads : (f n : ℕ) → n < 10 ^ suc f → decimal_of (decimal_text (suc f) n) ≡ some n
text_reads f n h = go (eqb p.head 48) refl
  where
    p : Headed (decimal_text (suc f) n) n
    p = headed f n h

    go : (b : Bool) → eqb p.head 48 ≡ b → decimal_of (decimal_text (suc f) n) ≡ some n
    go true e =
        let q : p.head ≡ 48 = eqb-true p.head 48 e in
        let z : n ≡ 0 = p.leading q in
        rw (p.is, p.lone z, decimal_zero p.head q, z)
    go false e =
        rw p.is (decimal_digits p.head p.tail (eqb-false p.head 48 e) ∙ rw (← p.is) (text_digits f n h))

-- a printed number reads back

pub signed_pos : (n : ℕ) → signed_text (pos n) ≡ decimal_text 6 n
unfolding signed_text
signed_pos n = refl

pub signed_negsuc : (n : ℕ) → signed_text (negsuc n) ≡ 45 ∷ decimal_text 6 (suc n)
unfolding signed_text
signed_negsuc n = refl

pub field_text_lem : (z : ℤ) → field_text z ≡ justified 6 (signed_text z)
unfolding field_text
field_text_lem z = refl

pub signed_width : (z : ℤ) → in_field z ≡ true → length (signed_text z) ≤ 6
signed_width (pos n) h = rw signed_pos (text_width 6 5 n (ltb-true n 1000000 h))
signed_width (negsuc n) h =
    let k : n < 99999 = ltb-true n 99999 h in
    rw signed_negsuc (omega (arith, text_width 6 4 (suc n) (omega arith)))

pub field_text_length : (z : ℤ) → in_field z ≡ true → length (field_text z) ≡ 6
field_text_length z h = rw (field_text_lem, length-append, length-replicate) (omega (arith, signed_width z h))

spaced_replicate : (k : ℕ) (t : List ℕ) → spaced_of (replicate k 32 ++ t) ≡ spaced_of t
spaced_replicate zero t = refl
spaced_replicate (suc k) t = spaced_space 32 (replicate k 32 ++ t) refl ∙ spaced_replicate k t

spaced_signed : (z : ℤ) → in_field z ≡ true → spaced_of (signed_text z) ≡ some z
spaced_signed (pos n) h =
    let k : n < 1000000 = ltb-true n 1000000 h in
    let p : Headed (decimal_text 6 n) n = headed 5 n k in
    let r : decimal_of (p.head ∷ p.tail) ≡ some n = rw (← p.is) (text_reads 5 n k) in
    rw (signed_pos, p.is)
    (spaced_other p.head p.tail (λ e. omega (arith, p.digit, e)) ∙ signed_other p.head p.tail (λ e. omega (arith, p.digit, e)) ∙ ap positive r)
spaced_signed (negsuc n) h =
    let k : n < 99999 = ltb-true n 99999 h in
    rw (signed_negsuc, spaced_other 45 (decimal_text 6 (suc n)) (λ e. omega arith), signed_minus 45 (decimal_text 6 (suc n)) refl, text_reads 5 (suc n) (omega arith))

pub printed_field_reads_back : (z : ℤ) → in_field z ≡ true → field_of (field_text z) ≡ some z
printed_field_reads_back z h =
    field_six (field_text z) (field_text_length z h) ∙ rw field_text_lem (spaced_replicate (6 - length (signed_text z)) (signed_text z) ∙ spaced_signed z h)

-- what is read is what would be printed

digits_are : (m n f : ℕ) (cs : List ℕ) → 0 < m → digits_from m cs ≡ some n → decimal_text (f + length cs) n ≡ decimal_text f m ++ cs
digits_are m n f [] h e =
    let u : m ≡ n = cc (digits_none m) in
    rw (u, append-nil) (ap (λ (k : ℕ). decimal_text k n) (omega arith))
digits_are m n f (c ∷ cs) h e = go (is_digit c) refl (digits_are (10 * m + (c - 48)) n (suc f) cs)
  where
    go : (b : Bool) → is_digit c ≡ b → (0 < 10 * m + (c - 48) → digits_from (10 * m + (c - 48)) cs ≡ some n → decimal_text (suc f + length cs) n ≡ decimal_text (suc f) (10 * m + (c - 48)) ++ cs) → decimal_text (f + suc (length cs)) n ≡ decimal_text f m ++ c ∷ cs
    go true d ih =
        let s : 48 ≤ c = digit_least c d in
        let l : c - 48 ≤ 9 = digit_small c d in
        let k : f + suc (length cs) ≡ suc f + length cs = omega arith in
        let q : (10 * m + (c - 48)) / 10 ≡ m = omega arith in
        let r : 48 + (10 * m + (c - 48)) % 10 ≡ c = omega arith in
        rw k (ih (omega arith) (sym (digits_digit m c cs d) ∙ e) ∙ rw (text_more f (10 * m + (c - 48)) (omega arith), q, r, append_assoc))
    go false d ih = let u : ◌≡◌ {A = ℕ} 0 1 = cc (digits_other m c cs d) in absurd (omega arith)

decimal_are : (n f : ℕ) (t : List ℕ) → length t ≤ f → decimal_of t ≡ some n → t ≡ decimal_text f n
decimal_are n f [] l e = let u : ◌≡◌ {A = ℕ} 0 1 = cc (decimal_empty) in absurd (omega arith)
decimal_are n zero (c ∷ cs) l e = absurd (omega arith)
decimal_are n (suc f) (c ∷ cs) l e = go (eqb c 48) refl cs l e
  where
    first : (cs : List ℕ) → (c ≡ 48 → ⊥) → suc (length cs) ≤ suc f → digits_from 0 (c ∷ cs) ≡ some n → (b : Bool) → is_digit c ≡ b → c ∷ cs ≡ decimal_text (suc f) n
    first cs z l e true d =
        let s : 48 ≤ c = digit_least c d in
        let w : c - 48 ≤ 9 = digit_small c d in
        let v : 0 < c - 48 = omega (arith, z) in
        let k : suc f ≡ suc (f - length cs) + length cs = omega arith in
        let m : 10 * 0 + (c - 48) ≡ c - 48 = omega arith in
        let r : 48 + (c - 48) ≡ c = omega arith in
        let x : digits_from (c - 48) cs ≡ some n = rw (← m) (sym (digits_digit 0 c cs d) ∙ e) in
        rw k (sym (digits_are (c - 48) n (suc (f - length cs)) cs v x ∙ rw (text_last (f - length cs) (c - 48) (omega arith), r)))
    first cs z l e false d = let u : ◌≡◌ {A = ℕ} 0 1 = cc (digits_other 0 c cs d) in absurd (omega arith)

    go : (b : Bool) → eqb c 48 ≡ b → (cs : List ℕ) → suc (length cs) ≤ suc f → decimal_of (c ∷ cs) ≡ some n → c ∷ cs ≡ decimal_text (suc f) n
    go true q [] l e =
        let h : c ≡ 48 = eqb-true c 48 q in
        let u : 0 ≡ n = cc (decimal_zero c h) in
        rw (← u, text_last f 0 (omega arith), h)
    go true q (d ∷ cs) l e = let u : ◌≡◌ {A = ℕ} 0 1 = cc (decimal_leading c d cs (eqb-true c 48 q)) in absurd (omega arith)
    go false q cs l e = first cs (eqb-false c 48 q) l (sym (decimal_digits c cs (eqb-false c 48 q)) ∙ e) (is_digit c) refl

-- what characters that say z are
pub record Signed (t : List ℕ) (z : ℤ) : Type 0 where
  pub bytes : t ≡ signed_text z
  pub range : in_field z ≡ true

pos_signed : (t : List ℕ) (z : ℤ) (o : Option ℕ) → decimal_of t ≡ o → positive o ≡ some z → length t ≤ 6 → Signed t z
pos_signed t z none d e l = let u : ◌≡◌ {A = ℕ} 0 1 = cc in absurd (omega arith)
pos_signed t z (some n) d e l =
    let u : pos n ≡ z = cc in
    let b : n < 1000000 = omega (arith, decimal_below n t d, pow-le-pow_right {n = 10} (omega arith) l) in
    rw (← u) (record { bytes = decimal_are n 6 t l d ∙ sym (signed_pos n); range = lt-ltb n 1000000 b })

neg_signed : (c : ℕ) (t : List ℕ) (z : ℤ) (o : Option ℕ) → c ≡ 45 → decimal_of t ≡ o → negative o ≡ some z → length t ≤ 5 → Signed (c ∷ t) z
neg_signed c t z none q d e l = let u : ◌≡◌ {A = ℕ} 0 1 = cc in absurd (omega arith)
neg_signed c t z (some zero) q d e l = let u : ◌≡◌ {A = ℕ} 0 1 = cc in absurd (omega arith)
neg_signed c t z (some (suc n)) q d e l =
    let u : negsuc n ≡ z = cc in
    let b : suc n < 100000 = omega (arith, decimal_below (suc n) t d, pow-le-pow_right {n = 10} (omega arith) l) in
    rw (← u, q) (record { bytes = ap (λ (r : List ℕ). 45 ∷ r) (decimal_are (suc n) 6 t (omega arith) d) ∙ sym (signed_negsuc n); range = lt-ltb n 99999 (omega arith) })

signed_are : (t : List ℕ) (z : ℤ) → signed_of t ≡ some z → length t ≤ 6 → Signed t z
signed_are [] z e l = let u : ◌≡◌ {A = ℕ} 0 1 = cc signed_empty in absurd (omega arith)
signed_are (c ∷ t) z e l = go (eqb c 45) refl
  where
    go : (b : Bool) → eqb c 45 ≡ b → Signed (c ∷ t) z
    go true q = neg_signed c t z (decimal_of t) (eqb-true c 45 q) refl (sym (signed_minus c t (eqb-true c 45 q)) ∙ e) (omega arith)
    go false q = pos_signed (c ∷ t) z (decimal_of (c ∷ t)) refl (sym (signed_other c t (eqb-false c 45 q)) ∙ e) l

-- spaces, and what follows them
record Spaced (cs : List ℕ) (z : ℤ) : Type 0 where
  count : ℕ
  rest : List ℕ
  is : cs ≡ replicate count 32 ++ rest
  says : signed_of rest ≡ some z

spaced_are : (cs : List ℕ) (z : ℤ) → spaced_of cs ≡ some z → Spaced cs z
spaced_are [] z e = let u : ◌≡◌ {A = ℕ} 0 1 = cc (spaced_none, signed_empty) in absurd (omega arith)
spaced_are (c ∷ cs) z e = go (eqb c 32) refl (spaced_are cs z)
  where
    go : (b : Bool) → eqb c 32 ≡ b → (spaced_of cs ≡ some z → Spaced cs z) → Spaced (c ∷ cs) z
    go true q ih =
        let h : c ≡ 32 = eqb-true c 32 q in
        let p : Spaced cs z = ih (sym (spaced_space c cs h) ∙ e) in
        record { count = suc p.count; rest = p.rest; is = ap (λ (x : ℕ). x ∷ cs) h ∙ ap (λ (r : List ℕ). 32 ∷ r) p.is; says = p.says }
    go false q ih = record { count = 0; rest = c ∷ cs; is = refl; says = sym (spaced_other c cs (eqb-false c 32 q)) ∙ e }

-- what a field that says z is
pub record FieldIs (cs : List ℕ) (z : ℤ) : Type 0 where
  pub bytes : cs ≡ field_text z
  pub range : in_field z ≡ true

pub read_field_prints_back : (cs : List ℕ) (z : ℤ) → field_of cs ≡ some z → FieldIs cs z
read_field_prints_back cs z e = go (eqb (length cs) 6) refl
  where
    go : (b : Bool) → eqb (length cs) 6 ≡ b → FieldIs cs z
    go true q =
        let six : length cs ≡ 6 = eqb-true (length cs) 6 q in
        let p : Spaced cs z = spaced_are cs z (sym (field_six cs six) ∙ e) in
        let l : length cs ≡ p.count + length p.rest = ap length p.is ∙ rw (length-append, length-replicate) in
        let s : Signed p.rest z = signed_are p.rest z p.says (omega arith) in
        let k : p.count ≡ 6 - length p.rest = omega arith in
        record { bytes = p.is ∙ rw (field_text_lem, k, ← s.bytes); range = s.range }
    go false q = let u : ◌≡◌ {A = ℕ} 0 1 = cc (field_short cs (eqb-false (length cs) 6 q)) in absurd (omega arith)
