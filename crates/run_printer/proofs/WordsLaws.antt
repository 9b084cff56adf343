-- What putting a text leaves, loops that put the texts of a list from the last to the first, and the digits of a number. Assumes nothing.
use Rattle.std.proofs.lemmas.List.{set_past}
use Rattle.std.specs.Prelude.{◌≡◌, refl, true, false, List, [], ◌∷◌, ◌++◌, ℤ, pos, negsuc, nat_abs, get_or, take, drop, set}
use Rattle.std.proofs.Common.{sym, ◌∙◌, add-one, append-nil, ltb-true, length-set, drop_of_length-le, drop-cons, take_all}
use Rattle.std.proofs.Math.Path.{ap}
use Prim.Native.Nat.{ℕ, zero, suc, ◌+◌, ◌-◌, ◌*◌, ◌/◌, ◌%◌, ◌≤◌, ◌<◌, ◌^◌}
use native.Mathlib.Omega.{arith}
use Rattle.std.proofs.Math.Nat.{pow-succ'}
use Rattle.std.specs.Int.Signed.{lt_z}
use Rattle.std.proofs.Math.ListN.{length}
use Rattle.fields.specs.Field.{decimal_text}
use Rattle.fields.specs.FieldLaws.{text_last, text_more}
use Rattle.run_printer.specs.Words.{Ending, ending, put_at, put, puts, texts_from, word_text, cell_text, cells_text}
use Rattle.run_printer.specs.PutBefore.{PutBefore, ended}
use Rattle.run_printer.specs.declared.Tail.{Tail}

-- ---- one byte

pub put_none : (b : ℕ) (l : List ℕ) (s : ℕ) → s ≡ 0 → ending l s ≡ put b (ending l s)
unfolding put put_at
put_none b l s e = rw e

pub put_one : (b : ℕ) (l : List ℕ) (s : ℕ) → 0 < s → ending (set l (s - 1) b) (s - 1) ≡ put b (ending l s)
unfolding put put_at
put_one b l zero h = absurd (omega arith)
put_one b l (suc s) h = let e : suc s - 1 ≡ s = omega arith in rw e

pub put_past : (b : ℕ) (l : List ℕ) (s : ℕ) → 0 < s → length l ≤ s - 1 → ending l (s - 1) ≡ put b (ending l s)
put_past b l s p h = ap (λ (k : List ℕ). ending k (s - 1)) (sym (set_past l (s - 1) b h)) ∙ put_one b l s p

-- ---- texts behind each other

pub puts_both : (a b : List ℕ) (e : Ending) → puts (a ++ b) e ≡ puts a (puts b e)
unfolding puts
puts_both [] b e = refl
puts_both (x ∷ a) b e = ap (put x) (puts_both a b e)

pub puts_one : (b : ℕ) (e : Ending) → puts (b ∷ []) e ≡ put b e
unfolding puts
puts_one b e = refl

-- ---- a buffer keeps its length

put_length : (b : ℕ) (l : List ℕ) (s : ℕ) → length (put b (ending l s)).bytes ≡ length l
unfolding put put_at
put_length b l zero = refl
put_length b l (suc s) = length-set l s b

-- the same, of what a call leaves
pub put_long : (b : ℕ) (e e' : Ending) → e' ≡ put b e → length e'.bytes ≡ length e.bytes
put_long b e e' p = ap (λ (d : Ending). length d.bytes) p ∙ put_length b e.bytes e.start

-- ---- the text never begins behind its end

put_within : (b : ℕ) (l : List ℕ) (s : ℕ) → (put b (ending l s)).start ≤ s
unfolding put put_at
put_within b l zero = omega arith
put_within b l (suc s) = omega arith

starts_within : (t : List ℕ) (e : Ending) → (puts t e).start ≤ e.start
unfolding puts
starts_within [] e = omega arith
starts_within (b ∷ t) e = omega (arith, put_within b (puts t e).bytes (puts t e).start, starts_within t e)

pub puts_within : (t : List ℕ) (e e' : Ending) → e' ≡ puts t e → e'.start ≤ e.start
puts_within t e e' p = omega (arith, ap (λ (d : Ending). d.start) p, starts_within t e)

-- a text put in the same buffer
pub put_before : {a b : Tail} {t : List ℕ} → b.out.ghost_name ≡ a.out.ghost_name → ended b ≡ puts t (ended a) → PutBefore a b t
put_before {a} {b} {t} same is = record { same = same; is = is; within = puts_within t (ended a) (ended b) is }

-- ---- loops over a list from its last element to its first

module _ {A : Type 0} (f : ℕ → A → List ℕ) (xs : List A) (a : Tail) where
  -- the texts of the elements from i on are put
  pub record Backing (i : ℕ) (b : Tail) : Type 0 where
    pub inside : i ≤ length xs
    pub same : b.out.ghost_name ≡ a.out.ghost_name
    pub is : ended b ≡ puts (texts_from f i (drop i xs)) (ended a)

  pub backing_start : Backing (length xs) a
  unfolding puts texts_from
  backing_start = record { inside = omega arith; same = refl; is = rw (drop_of_length-le xs {i = length xs} (omega arith)) }

  pub backing_next : {i : ℕ} {b b' : Tail} (d : A) → Backing i b → 0 < i → PutBefore b b' (f (i - 1) (get_or xs (i - 1) d)) → Backing (i - 1) b'
  unfolding texts_from
  backing_next {i = zero} d b p h = absurd (omega arith)
  backing_next {i = suc i} d b p h =
      let one : suc i - 1 ≡ i = omega arith in
      let low : i < length xs = omega (arith, b.inside) in
      rw one (record {
        inside = omega arith;
        same = h.same ∙ b.same;
        is =
            (rw one at h.is) ∙ ap (puts (f i (get_or xs i d))) b.is
            ∙ rw (drop-cons xs i d (omega arith), add-one) (sym (puts_both (f i (get_or xs i d)) (texts_from f (suc i) (drop (suc i) xs)) (ended a)));
      })

  pub backing_done : {i : ℕ} {b : Tail} → Backing i b → i ≤ 0 → PutBefore a b (texts_from f 0 xs)
  backing_done {i = zero} b z = put_before b.same b.is
  backing_done {i = suc i} b z = absurd (omega arith)

-- a text is its bytes
pub bytes_text : (i : ℕ) (t : List ℕ) → texts_from (λ i b. b ∷ []) i t ≡ t
unfolding texts_from
bytes_text i [] = refl
bytes_text i (b ∷ t) = ap (λ (l : List ℕ). b ∷ l) (bytes_text (i + 1) t)

-- ---- the digits of a number, from the last one

-- m, with at most k + 1 digits, is what is left of n
pub record Spelling (n : ℕ) (e₀ : Ending) (m : ℕ) (e : Ending) : Type 0 where
  pub more : ℕ
  pub small : m < 10 ^ suc more
  pub long : length e.bytes ≡ length e₀.bytes
  pub is : puts (decimal_text 20 n) e₀ ≡ puts (decimal_text (suc more) m) e

pub spelling_start : (n : ℕ) (e : Ending) → n < 2 ^ 64 → Spelling n e n e
spelling_start n e h = record { more = 19; small = omega arith; long = refl; is = refl }

module _ {n : ℕ} {e₀ : Ending} {m : ℕ} {e : Ending} where
  pub spelling_next : {e' : Ending} → Spelling n e₀ m e → 10 ≤ m → e' ≡ put (48 + m % 10) e → Spelling n e₀ (m / 10) e'
  spelling_next {e'} s h p = go s.more s.small s.is
    where
      go : (k : ℕ) → m < 10 ^ suc k → puts (decimal_text 20 n) e₀ ≡ puts (decimal_text (suc k) m) e → Spelling n e₀ (m / 10) e'
      go zero l i = absurd (omega arith)
      go (suc k) l i =
          let u : m < 10 * 10 ^ suc k = rw pow-succ' at l in
          record {
            more = k;
            small = omega arith;
            long = put_long (48 + m % 10) e e' p ∙ s.long;
            is =
                i ∙ ap (λ (t : List ℕ). puts t e) (text_more (suc k) m h) ∙ puts_both (decimal_text (suc k) (m / 10)) ((48 + m % 10) ∷ []) e
                ∙ ap (puts (decimal_text (suc k) (m / 10))) (puts_one (48 + m % 10) e ∙ sym p);
          }

  pub spelling_done : Spelling n e₀ m e → m < 10 → put (48 + m) e ≡ puts (decimal_text 20 n) e₀
  spelling_done s h = sym (s.is ∙ ap (λ (t : List ℕ). puts t e) (text_last s.more m h) ∙ puts_one (48 + m) e)

-- ---- the sign

pub word_plus : (z : ℤ) (e : Ending) → lt_z z (pos 0) ≡ false → put 32 (puts (decimal_text 20 (nat_abs z)) e) ≡ puts (word_text z) e
unfolding word_text puts
word_plus (pos n) e h = refl
word_plus (negsuc n) e h = let u : ◌≡◌ {A = ℕ} 0 1 = cc in absurd (omega arith)

pub word_minus : (z : ℤ) (e : Ending) → lt_z z (pos 0) ≡ true → puts (32 ∷ 45 ∷ []) (puts (decimal_text 20 (nat_abs z)) e) ≡ puts (word_text z) e
unfolding word_text puts
word_minus (pos n) e h = absurd (omega (arith, ltb-true n 0 h))
word_minus (negsuc n) e h = refl

-- ---- a cell

pub cell_puts : (k : ℕ) (v : ℤ) (e : Ending)
    → puts (99 ∷ 101 ∷ 108 ∷ 108 ∷ 32 ∷ []) (puts (decimal_text 20 k) (puts (word_text v) (put 10 e))) ≡ puts (cell_text k v) e
unfolding cell_text
cell_puts k v e =
    sym
    (puts_both (99 ∷ 101 ∷ 108 ∷ 108 ∷ 32 ∷ []) (decimal_text 20 k ++ (word_text v ++ 10 ∷ [])) e
    ∙ ap (puts (99 ∷ 101 ∷ 108 ∷ 108 ∷ 32 ∷ []))
    (puts_both (decimal_text 20 k) (word_text v ++ 10 ∷ []) e
    ∙ ap (puts (decimal_text 20 k)) (puts_both (word_text v) (10 ∷ []) e ∙ ap (puts (word_text v)) (puts_one 10 e))))

-- ---- a text in a whole buffer

-- a byte at the last place of the front
set_front : (s b : ℕ) (l t : List ℕ) → s < length l → set (take (suc s) l ++ t) s b ≡ take s l ++ b ∷ t
set_front s b [] t h = absurd (omega arith)
set_front zero b (x ∷ l) t h = refl
set_front (suc s) b (x ∷ l) t h = ap (λ (k : List ℕ). x ∷ k) (set_front s b l t (omega arith))

-- the buffer ends in the text, or where it is shorter in the last bytes of it; its other places are as they were
abbrev pub ends_in : List ℕ → List ℕ → Ending
ends_in t out = ending (take (length out - length t) out ++ drop (length t - length out) t) (length out - length t)

pub puts_ends : (t out : List ℕ) → puts t (ending out (length out)) ≡ ends_in t out
unfolding puts put put_at
puts_ends [] out =
    let z : 0 - length out ≡ 0 = omega arith in
    let n : length out - 0 ≡ length out = omega arith in
    rw (z, n, take_all (length out) out (omega arith), append-nil)
puts_ends (b ∷ t) out = ap (put b) (puts_ends t out) ∙ go (length out - length t) refl
  where
    go : (s : ℕ) → s ≡ length out - length t → put b (ending (take s out ++ drop (length t - length out) t) s) ≡ ends_in (b ∷ t) out
    go zero e =
        let none : length out - suc (length t) ≡ 0 = omega arith in
        let more : suc (length t) - length out ≡ suc (length t - length out) = omega arith in
        rw (none, more)
    go (suc s) e =
        let left : length out - suc (length t) ≡ s = omega arith in
        let all : length t - length out ≡ 0 = omega arith in
        let none : suc (length t) - length out ≡ 0 = omega arith in
        rw (left, all, none) (ap (λ (l : List ℕ). ending l s) (set_front s b out t (omega arith)))

-- ---- by example

-- `cell 0 7` and `cell 1 -12`, each with its line feed
two_cells : cells_text (pos 7 ∷ negsuc 11 ∷ [])
    ≡ 99 ∷ 101 ∷ 108 ∷ 108 ∷ 32 ∷ 48 ∷ 32 ∷ 55 ∷ 10 ∷ 99 ∷ 101 ∷ 108 ∷ 108 ∷ 32 ∷ 49 ∷ 32 ∷ 45 ∷ 49 ∷ 50 ∷ 10 ∷ []
unfolding cells_text texts_from cell_text word_text decimal_text
two_cells = refl

-- three bytes into a buffer of two: the first is lost
too_short : puts (1 ∷ 2 ∷ 3 ∷ []) (ending (9 ∷ 9 ∷ []) 2) ≡ ending (2 ∷ 3 ∷ []) 0
unfolding puts put put_at
too_short = refl
