-- The laws of sets: what the operations do to membership, when two sets are equal, what is inside what, and how many elements there are.
-- Each is over any sets and elements. Assumes nothing.
use Rattle.std.proofs.lemmas.Bool.{and_parts}
use Rattle.std.specs.Prelude.{◌≡◌, refl, Bool, true, false, Some, None, not, ◌&&◌, ◌||◌, ℕ, zero, suc, ◌+◌, ◌-◌, ◌*◌, ◌/◌, ◌%◌, ◌^◌, ◌≤◌, ◌<◌, min, ltb}
use Rattle.std.proofs.Common.{sym, ◌∙◌, subst, zero-le, suc-le-suc, le_trans, le_of_eq, le_of_suc-le-suc, add-le-add, zero-add, mod-lt, pow-suc, zero-lt-suc, lt_of_lt_of_le, lt_of_le_of_lt, arith, pow_pos, pow_mono, shr-shr, eqb-true, eq-eqb, ne_eqb, ltb-true, ltb-false, lt-ltb, le-ltb}
use Rattle.std.proofs.Math.Path.{ap}
use Rattle.std.proofs.Math.Bool.{or-true, or-false}
use Rattle.std.proofs.Math.Nat.{suc_inj, zero-div, div-eq_of_lt}
use Rattle.std.proofs.Math.Dec.{eqb, eqb-suc-suc, eqb-suc-zero, eqb-zero-suc, leb-suc-suc}
use Rattle.std.proofs.Math.Arith.{bin_ind}
use Rattle.std.proofs.Math.Pow.{pow-lt}
use Rattle.std.specs.Int.Bits.{bit_or, bit_and, bit_xor, or_zero_l, and_self, or_add_and}
use Rattle.std.proofs.lemmas.Nat.{or_shr, or_mod, and_shr, and_mod, xor_shr, xor_mod, or_lt, or_comm, and_le_l, and_le_r}
use Rattle.std.specs.Int.Count.{ones, ones_in, ones_step, under, count_trailing_zeros}
use Rattle.std.proofs.lemmas.Bool.{eqb-false}
use Rattle.sets.specs.Set.{has, firsts, one, with, union, inter, minus, subset, is_empty, count, is_single, only, lowest}

-- ---- the definitions by a test, one equation a case

pub only_when : (s : ℕ) → is_single s ≡ true → only s ≡ Some (count_trailing_zeros 64 s)
unfolding only
only_when s t = rw (only, t)

pub only_unless : (s : ℕ) → is_single s ≡ false → only s ≡ None
unfolding only
only_unless s t = rw (only, t)

pub lowest_none : (s : ℕ) → is_empty s ≡ true → lowest s ≡ None
unfolding lowest
lowest_none s t = rw (lowest, t)

pub lowest_some : (s : ℕ) → is_empty s ≡ false → lowest s ≡ Some (count_trailing_zeros 64 s)
unfolding lowest
lowest_some s t = rw (lowest, t)

pub not_empty : (s : ℕ) → is_empty s ≡ false → 0 < s
unfolding is_empty
not_empty zero t = absurd (eqb-false 0 0 t refl)
not_empty (suc s) t = zero-lt-suc s

-- ---- membership, one bit after the other

-- element 0 is the lowest bit
pub has_zero : (s : ℕ) → has s 0 ≡ eqb (s % 2) 1
unfolding has
has_zero s = let h : s / 1 ≡ s = omega arith in rw h

-- the other elements are those of the half
pub has_suc : (s i : ℕ) → has s (suc i) ≡ has (s / 2) i
unfolding has
has_suc s i =
    let e : 1 + i ≡ suc i = omega arith in
    sym (ap (λ (x : ℕ). eqb (x % 2) 1) (shr-shr s 1 i ∙ ap (λ (x : ℕ). s / 2 ^ x) e))

-- what holds of the four pairs of digits holds of every pair
digit_pairs : (P : ℕ → ℕ → Type 0) → P 0 0 → P 0 1 → P 1 0 → P 1 1 → (x y : ℕ) → x < 2 → y < 2 → P x y
digit_pairs P a b c d zero zero hx hy = a
digit_pairs P a b c d zero (suc zero) hx hy = b
digit_pairs P a b c d (suc zero) zero hx hy = c
digit_pairs P a b c d (suc zero) (suc zero) hx hy = d
digit_pairs P a b c d (suc (suc x)) y hx hy = absurd (omega arith)
digit_pairs P a b c d zero (suc (suc y)) hx hy = absurd (omega arith)
digit_pairs P a b c d (suc zero) (suc (suc y)) hx hy = absurd (omega arith)

pub digits_of : (P : ℕ → ℕ → Type 0) → P 0 0 → P 0 1 → P 1 0 → P 1 1 → (x y : ℕ) → P (x % 2) (y % 2)
digits_of P a b c d x y = digit_pairs P a b c d (x % 2) (y % 2) (mod-lt x (zero-lt-suc 1)) (mod-lt y (zero-lt-suc 1))

-- an operation that works on each bit apart does so to membership
module _ (op : ℕ → ℕ → ℕ) (on : Bool → Bool → Bool)
    (shr : (a b k : ℕ) → op a b / 2 ^ k ≡ op (a / 2 ^ k) (b / 2 ^ k)) (low : (a b k : ℕ) → op a b % 2 ^ k ≡ op (a % 2 ^ k) (b % 2 ^ k))
    (table : (x y : ℕ) → eqb (op (x % 2) (y % 2)) 1 ≡ on (eqb (x % 2) 1) (eqb (y % 2) 1)) where
  has_op : (a b i : ℕ) → has (op a b) i ≡ on (has a i) (has b i)
  unfolding has
  has_op a b i = ap (λ (x : ℕ). eqb (x % 2) 1) (shr a b i) ∙ ap (λ (x : ℕ). eqb x 1) (low (a / 2 ^ i) (b / 2 ^ i) 1) ∙ table (a / 2 ^ i) (b / 2 ^ i)

pub has_union : (a b i : ℕ) → has (union a b) i ≡ (has a i || has b i)
unfolding union
has_union = has_op bit_or ◌||◌ or_shr or_mod (digits_of (λ (x y : ℕ). eqb (bit_or x y) 1 ≡ (eqb x 1 || eqb y 1)) refl refl refl refl)

pub has_inter : (a b i : ℕ) → has (inter a b) i ≡ (has a i && has b i)
unfolding inter
has_inter = has_op bit_and ◌&&◌ and_shr and_mod (digits_of (λ (x y : ℕ). eqb (bit_and x y) 1 ≡ (eqb x 1 && eqb y 1)) refl refl refl refl)

-- in just one of the two
differs : Bool → Bool → Bool
differs true b = not b
differs false b = b

differs_from_both : (a b : Bool) → differs a (a && b) ≡ (a && not b)
unfolding differs
differs_from_both true b = refl
differs_from_both false b = refl

pub has_minus : (a b i : ℕ) → has (minus a b) i ≡ (has a i && not (has b i))
unfolding minus inter differs
has_minus a b i =
    has_op bit_xor differs xor_shr xor_mod (digits_of (λ (x y : ℕ). eqb (bit_xor x y) 1 ≡ differs (eqb x 1) (eqb y 1)) refl refl refl refl) a (bit_and a b) i
    ∙ ap (differs (has a i)) (has_inter a b i) ∙ differs_from_both (has a i) (has b i)

-- ---- two sets with the same elements are equal

same_digit : (a b : ℕ) → eqb (a % 2) 1 ≡ eqb (b % 2) 1 → a % 2 ≡ b % 2
same_digit = digits_of (λ (x y : ℕ). eqb x 1 ≡ eqb y 1 → x ≡ y) (λ e. refl) (λ e. cc) (λ e. cc) (λ e. refl)

from_halves : (a b : ℕ) → a / 2 ≡ b / 2 → has a 0 ≡ has b 0 → a ≡ b
from_halves a b h z = let d : a % 2 ≡ b % 2 = same_digit a b (sym (has_zero a) ∙ z ∙ has_zero b) in omega arith

halves_agree : (a b : ℕ) → ((i : ℕ) → has a i ≡ has b i) → (i : ℕ) → has (a / 2) i ≡ has (b / 2) i
halves_agree a b f i = sym (has_suc a i) ∙ f (suc i) ∙ has_suc b i

none_is_zero : (b : ℕ) → ((i : ℕ) → has 0 i ≡ has b i) → 0 ≡ b
none_is_zero =
    bin_ind (λ (b : ℕ). ((i : ℕ) → has 0 i ≡ has b i) → 0 ≡ b) (λ f. refl)
    (λ b ih f. from_halves 0 b (ih (halves_agree 0 b f)) (f 0))

pub same_elements : (a b : ℕ) → ((i : ℕ) → has a i ≡ has b i) → a ≡ b
same_elements =
    bin_ind (λ (a : ℕ). (b : ℕ) → ((i : ℕ) → has a i ≡ has b i) → a ≡ b) none_is_zero
    (λ a ih b f. from_halves a b (ih (b / 2) (halves_agree a b f)) (f 0))

-- ---- bounds: a set below 2 ^ n has elements below n alone

pub has_empty : (i : ℕ) → has 0 i ≡ false
unfolding has
has_empty i = let z : 0 / 2 ^ i ≡ 0 = zero-div (2 ^ i) in rw z

pub has_beyond : {s : ℕ} (n i : ℕ) → s < 2 ^ n → n ≤ i → has s i ≡ false
unfolding has
has_beyond {s} n i h k = let z : s / 2 ^ i ≡ 0 = div-eq_of_lt (lt_of_lt_of_le h (pow_mono k)) in rw z

pub below_of_has : (n s : ℕ) → ((i : ℕ) → n ≤ i → has s i ≡ false) → s < 2 ^ n
below_of_has zero s f = let z : 0 ≡ s = same_elements 0 s (λ i. has_empty i ∙ sym (f i zero-le)) in omega arith
below_of_has (suc n) s f =
    let h : s / 2 < 2 ^ n = below_of_has n (s / 2) (λ i k. sym (has_suc s i) ∙ f (suc i) (suc-le-suc k)) in
    let p : 2 ^ suc n ≡ 2 ^ n * 2 = pow-suc 2 n in
    omega arith

pub union_below : (n : ℕ) {a b : ℕ} → a < 2 ^ n → b < 2 ^ n → union a b < 2 ^ n
unfolding union
union_below n ha hb = or_lt n _ _ ha hb

pub minus_below : (n : ℕ) {a : ℕ} (b : ℕ) → a < 2 ^ n → minus a b < 2 ^ n
minus_below n {a} b ha = below_of_has n (minus a b) (λ i k. has_minus a b i ∙ ap (λ (x : Bool). x && not (has b i)) (has_beyond n i ha k))

-- ---- one element, and the first n

power_has : (i j : ℕ) → has (2 ^ i) j ≡ eqb j i
power_has zero zero = has_zero 1
power_has zero (suc j) = has_suc 1 j ∙ has_empty j ∙ sym (eqb-suc-zero j)
power_has (suc i) zero =
    let p : 2 ^ suc i ≡ 2 ^ i * 2 = pow-suc 2 i in
    let z : 2 ^ suc i % 2 ≡ 0 = omega arith in
    has_zero (2 ^ suc i) ∙ ap (λ (x : ℕ). eqb x 1) z ∙ sym (eqb-zero-suc i)
power_has (suc i) (suc j) =
    let p : 2 ^ suc i ≡ 2 ^ i * 2 = pow-suc 2 i in
    let z : 2 ^ suc i / 2 ≡ 2 ^ i = omega arith in
    has_suc (2 ^ suc i) j ∙ ap (λ (x : ℕ). has x j) z ∙ power_has i j ∙ sym (eqb-suc-suc j i)

pub one_is : (i : ℕ) → i < 64 → one i ≡ 2 ^ i
unfolding one
one_is i h = rw (one, lt-ltb i 64 h)

pub one_none : (i : ℕ) → 64 ≤ i → one i ≡ 0
unfolding one
one_none i h = rw (one, le-ltb i 64 h)

pub has_one : (i j : ℕ) → i < 64 → has (one i) j ≡ eqb j i
has_one i j h = ap (λ (x : ℕ). has x j) (one_is i h) ∙ power_has i j

pub one_below : (i : ℕ) → one i < 2 ^ 64
one_below i = go (ltb i 64) refl
  where
    go : (b : Bool) → ltb i 64 ≡ b → one i < 2 ^ 64
    go true e = subst (λ (x : ℕ). x < 2 ^ 64) (sym (one_is i (ltb-true i 64 e))) (pow-lt (ltb-true i 64 e))
    go false e = subst (λ (x : ℕ). x < 2 ^ 64) (sym (one_none i (ltb-false i 64 e))) (pow_pos 64)

ones_has : (m i : ℕ) → has (2 ^ m - 1) i ≡ ltb i m
ones_has zero i = has_empty i ∙ sym (le-ltb i 0 zero-le)
ones_has (suc m) zero =
    let p : 2 ^ suc m ≡ 2 ^ m * 2 = pow-suc 2 m in
    let q : 0 < 2 ^ m = pow_pos m in
    let z : (2 ^ suc m - 1) % 2 ≡ 1 = omega arith in
    has_zero (2 ^ suc m - 1) ∙ ap (λ (x : ℕ). eqb x 1) z ∙ sym (lt-ltb 0 (suc m) (zero-lt-suc m))
ones_has (suc m) (suc i) =
    let p : 2 ^ suc m ≡ 2 ^ m * 2 = pow-suc 2 m in
    let q : 0 < 2 ^ m = pow_pos m in
    let z : (2 ^ suc m - 1) / 2 ≡ 2 ^ m - 1 = omega arith in
    has_suc (2 ^ suc m - 1) i ∙ ap (λ (x : ℕ). has x i) z ∙ ones_has m i ∙ sym (leb-suc-suc (suc i) m)

pub has_firsts : (n i : ℕ) → n ≤ 64 → has (firsts n) i ≡ ltb i n
unfolding firsts
has_firsts n i h = let z : min n 64 ≡ n = omega arith in ap (λ (m : ℕ). has (2 ^ m - 1) i) z ∙ ones_has n i

pub firsts_below : (n : ℕ) → firsts n < 2 ^ 64
unfolding firsts
firsts_below n = let m : min n 64 ≤ 64 = omega arith in let p : 2 ^ min n 64 ≤ 2 ^ 64 = pow_mono m in omega arith

pub has_with : (s i j : ℕ) → i < 64 → has (with s i) j ≡ (has s j || eqb j i)
unfolding with
has_with s i j h = has_union s (one i) j ∙ ap (λ (b : Bool). has s j || b) (has_one i j h)

-- ---- inclusion

pub subset_has : (a b : ℕ) → subset a b ≡ true → (i : ℕ) → has a i ≡ true → has b i ≡ true
unfolding subset
subset_has a b h i e = ap (λ (x : ℕ). has x i) (sym (eqb-true (union a b) b h)) ∙ has_union a b i ∙ ap (λ (x : Bool). x || has b i) e

absorbs : (x y : Bool) → (x ≡ true → y ≡ true) → (x || y) ≡ y
absorbs true y f = sym (f refl)
absorbs false y f = refl

-- a inside b: the union is b
pub union_inside : (a b : ℕ) → ((i : ℕ) → has a i ≡ true → has b i ≡ true) → union a b ≡ b
union_inside a b f = same_elements (union a b) b (λ i. has_union a b i ∙ absorbs (has a i) (has b i) (f i))

pub has_subset : (a b : ℕ) → ((i : ℕ) → has a i ≡ true → has b i ≡ true) → subset a b ≡ true
unfolding subset
has_subset a b f = eq-eqb (union a b) b (union_inside a b f)

-- both ways: equal
pub inside_both : (a b : ℕ) → ((i : ℕ) → has a i ≡ true → has b i ≡ true) → ((i : ℕ) → has b i ≡ true → has a i ≡ true) → a ≡ b
unfolding union
inside_both a b f g = sym (union_inside b a g) ∙ or_comm b a ∙ union_inside a b f

-- the number of a set inside another is no greater
pub inside_le : (a b : ℕ) → ((i : ℕ) → has a i ≡ true → has b i ≡ true) → a ≤ b
unfolding union
inside_le a b f = let u : bit_or a b ≡ b = union_inside a b f in omega (arith, or_add_and a b, and_le_r a b)

-- the union is the least set that holds both
pub has_union_left : (a b i : ℕ) → has a i ≡ true → has (union a b) i ≡ true
has_union_left a b i e = has_union a b i ∙ ap (λ (x : Bool). x || has b i) e

pub has_union_right : (a b i : ℕ) → has b i ≡ true → has (union a b) i ≡ true
has_union_right a b i e = has_union a b i ∙ ap (λ (x : Bool). has a i || x) e ∙ or-true (has a i)

pub union_cases {ℓ} : {C : Type ℓ} (a b i : ℕ) → (has a i ≡ true → C) → (has b i ≡ true → C) → has (union a b) i ≡ true → C
union_cases {C = C} a b i f g e = go (has a i) refl (sym (has_union a b i) ∙ e)
  where
    go : (x : Bool) → has a i ≡ x → (x || has b i) ≡ true → C
    go true p q = f p
    go false p q = g q

-- ---- what is in both

pub inter_left : (a b i : ℕ) → has (inter a b) i ≡ true → has a i ≡ true
inter_left a b i h = (and_parts (has a i) (has b i) (sym (has_inter a b i) ∙ h)).0

pub inter_right : (a b i : ℕ) → has (inter a b) i ≡ true → has b i ≡ true
inter_right a b i h = (and_parts (has a i) (has b i) (sym (has_inter a b i) ∙ h)).1

pub in_both : (a b i : ℕ) → has a i ≡ true → has b i ≡ true → has (inter a b) i ≡ true
in_both a b i p q = has_inter a b i ∙ rw (p, q)

pub inter_below : (n : ℕ) {a : ℕ} (b : ℕ) → a < 2 ^ n → inter a b < 2 ^ n
unfolding inter
inter_below n {a} b h = lt_of_le_of_lt (and_le_l a b) h

pub inter_same : (a : ℕ) → inter a a ≡ a
unfolding inter
inter_same a = and_self a

-- what is left out of u turns inclusion round, and what is left out of that is the set again: greatest sets are least ones so seen
pub minus_turns : (u a b : ℕ) → ((i : ℕ) → has a i ≡ true → has b i ≡ true) → (i : ℕ) → has (minus u b) i ≡ true → has (minus u a) i ≡ true
minus_turns u a b f i e = has_minus u a i ∙ turn (has u i) (has a i) (has b i) (f i) (sym (has_minus u b i) ∙ e)
  where
    turn : (x y z : Bool) → (y ≡ true → z ≡ true) → (x && not z) ≡ true → (x && not y) ≡ true
    turn false y z g h = h
    turn true false z g h = refl
    turn true true z g h = ap not (sym (g refl)) ∙ h

-- ---- how many: the count goes by the lowest bit and the half, over the first k bits

digit_le : (a b : ℕ) → (has a 0 ≡ true → has b 0 ≡ true) → a % 2 ≤ b % 2
digit_le a b f = digits_of (λ (x y : ℕ). (eqb x 1 ≡ true → eqb y 1 ≡ true) → x ≤ y) (λ g. omega arith) (λ g. omega arith)
    (λ g. let z : true ≡ false = sym (g refl) in let w : ◌≡◌ {A = ℕ} 0 1 = cc in omega arith) (λ g. omega arith) a b
    (λ e. sym (has_zero b) ∙ f (has_zero a ∙ e))

digit_one : (a : ℕ) → has a 0 ≡ true → a % 2 ≡ 1
digit_one a e = eqb-true (a % 2) 1 (sym (has_zero a) ∙ e)

digit_zero : (a : ℕ) → has a 0 ≡ false → a % 2 ≡ 0
digit_zero a e =
    let n : a % 2 ≡ 1 → ⊥ = eqb-false (a % 2) 1 (sym (has_zero a) ∙ e) in
    go (a % 2) (mod-lt a (zero-lt-suc 1)) n
  where
    go : (x : ℕ) → x < 2 → (x ≡ 1 → ⊥) → x ≡ 0
    go zero l n = refl
    go (suc zero) l n = absurd (n refl)
    go (suc (suc x)) l n = absurd (omega arith)

half_inside : (a b : ℕ) → ((i : ℕ) → has a i ≡ true → has b i ≡ true) → (i : ℕ) → has (a / 2) i ≡ true → has (b / 2) i ≡ true
half_inside a b f i e = sym (has_suc b i) ∙ f (suc i) (has_suc a i ∙ e)

ones_in_le : (k a b : ℕ) → ((i : ℕ) → has a i ≡ true → has b i ≡ true) → ones_in k a ≤ ones_in k b
unfolding ones_in
ones_in_le zero a b f = zero-le
ones_in_le (suc k) a b f = add-le-add (digit_le a b (f 0)) (ones_in_le k (a / 2) (b / 2) (half_inside a b f))

ones_in_lt : (k a b j : ℕ) → ((i : ℕ) → has a i ≡ true → has b i ≡ true) → j < k → has a j ≡ false → has b j ≡ true → ones_in k a < ones_in k b
unfolding ones_in
ones_in_lt zero a b j f l p q = absurd (omega arith)
ones_in_lt (suc k) a b zero f l p q =
    let ih : ones_in k (a / 2) ≤ ones_in k (b / 2) = ones_in_le k (a / 2) (b / 2) (half_inside a b f) in
    omega (arith, digit_zero a p, digit_one b q)
ones_in_lt (suc k) a b (suc j) f l p q =
    let ih : ones_in k (a / 2) < ones_in k (b / 2) =
    ones_in_lt k (a / 2) (b / 2) j (half_inside a b f) (le_of_suc-le-suc l) (sym (has_suc a j) ∙ p) (sym (has_suc b j) ∙ q) in
    omega (arith, digit_le a b (f 0))

pub count_inside_less : (a b j : ℕ) → ((i : ℕ) → has a i ≡ true → has b i ≡ true) → j < 64 → has a j ≡ false → has b j ≡ true → count a < count b
unfolding count
count_inside_less a b j f l p q = ones_in_lt 64 a b j f l p q

-- a set and the same set with one element more
ones_in_more : (k a b j : ℕ) → j < k → has a j ≡ false → has b j ≡ true → ((i : ℕ) → (i ≡ j → ⊥) → has a i ≡ has b i) → ones_in k b ≡ suc (ones_in k a)
unfolding ones_in
ones_in_more zero a b j l p q f = absurd (omega arith)
ones_in_more (suc k) a b zero l p q f =
    let h : a / 2 ≡ b / 2 = same_elements (a / 2) (b / 2) (λ i. sym (has_suc a i) ∙ f (suc i) (λ e. omega arith) ∙ has_suc b i) in
    let r : ones_in k (a / 2) ≡ ones_in k (b / 2) = ap (ones_in k) h in
    omega (arith, digit_zero a p, digit_one b q)
ones_in_more (suc k) a b (suc j) l p q f =
    let d : a % 2 ≡ b % 2 = same_digit a b (sym (has_zero a) ∙ f 0 (λ e. omega arith) ∙ has_zero b) in
    let ih : ones_in k (b / 2) ≡ suc (ones_in k (a / 2)) =
    ones_in_more k (a / 2) (b / 2) j (le_of_suc-le-suc l) (sym (has_suc a j) ∙ p) (sym (has_suc b j) ∙ q)
    (λ i n. sym (has_suc a i) ∙ f (suc i) (λ e. n (suc_inj e)) ∙ has_suc b i) in
    omega arith

pub count_with : (s i : ℕ) → i < 64 → has s i ≡ false → count (with s i) ≡ suc (count s)
unfolding count
count_with s i l e =
    ones_in_more 64 s (with s i) i l e (has_with s i i l ∙ ap (λ (x : Bool). has s i || x) (eq-eqb i i refl) ∙ or-true (has s i))
    (λ j n. sym (has_with s i j l ∙ ap (λ (x : Bool). has s j || x) (ne_eqb j i n) ∙ or-false (has s j)))

ones_in_zero : (k : ℕ) → ones_in k 0 ≡ 0
unfolding ones_in
ones_in_zero zero = refl
ones_in_zero (suc k) = zero-add (ones_in k 0) ∙ ones_in_zero k

pub count_empty : count 0 ≡ 0
unfolding count
count_empty = ones_in_zero 64

half_below : (n s : ℕ) → s < 2 ^ suc n → s / 2 < 2 ^ n
half_below n s h = let p : 2 ^ suc n ≡ 2 ^ n * 2 = pow-suc 2 n in omega arith

ones_in_below : (k n s : ℕ) → s < 2 ^ n → ones_in k s ≤ n
unfolding ones_in
ones_in_below zero n s h = zero-le
ones_in_below (suc k) zero s h = let z : s ≡ 0 = omega arith in let w : ones_in (suc k) s ≡ 0 = ap (ones_in (suc k)) z ∙ ones_in_zero (suc k) in omega arith
ones_in_below (suc k) (suc n) s h =
    let ih : ones_in k (s / 2) ≤ n = ones_in_below k n (s / 2) (half_below n s h) in
    omega arith

pub count_below : (n s : ℕ) → s < 2 ^ n → count s ≤ n
unfolding count
count_below n s h = ones_in_below 64 n s h

-- enough bits are looked at
ones_in_all : (k s : ℕ) → s < 2 ^ k → ones s ≡ ones_in k s
unfolding ones_in ones
ones_in_all zero s h = let z : s ≡ 0 = omega arith in ap ones z
ones_in_all (suc k) s h = ones_step s ∙ ap (λ (x : ℕ). s % 2 + x) (ones_in_all k (s / 2) (half_below k s h))

pub count_ones : (s : ℕ) → s < 2 ^ 64 → ones s ≡ count s
unfolding count
count_ones s h = ones_in_all 64 s h

-- ---- the lowest element, and the only one

by_digit {ℓ} : {C : Type ℓ} (s : ℕ) → (s % 2 ≡ 0 → C) → (s % 2 ≡ 1 → C) → C
by_digit {C = C} s f g = go (s % 2) (mod-lt s (zero-lt-suc 1)) f g
  where
    go : (x : ℕ) → x < 2 → (x ≡ 0 → C) → (x ≡ 1 → C) → C
    go zero l f g = f refl
    go (suc zero) l f g = g refl
    go (suc (suc x)) l f g = absurd (omega arith)

trailing_even : (k s : ℕ) → s % 2 ≡ 0 → count_trailing_zeros (suc k) s ≡ suc (count_trailing_zeros k (s / 2))
unfolding count_trailing_zeros
trailing_even k s e = ap (λ (d : ℕ). under d (count_trailing_zeros k (s / 2))) e

trailing_odd : (k s : ℕ) → s % 2 ≡ 1 → count_trailing_zeros (suc k) s ≡ 0
unfolding count_trailing_zeros
trailing_odd k s e = ap (λ (d : ℕ). under d (count_trailing_zeros k (s / 2))) e

trailing_has : (k s : ℕ) → s < 2 ^ k → 0 < s → has s (count_trailing_zeros k s) ≡ true
trailing_has zero s h p = absurd (omega arith)
trailing_has (suc k) s h p =
    let ih : 0 < s / 2 → has (s / 2) (count_trailing_zeros k (s / 2)) ≡ true = trailing_has k (s / 2) (half_below k s h) in
    by_digit s (λ e. ap (has s) (trailing_even k s e) ∙ has_suc s (count_trailing_zeros k (s / 2)) ∙ ih (omega arith))
    (λ e. ap (has s) (trailing_odd k s e) ∙ has_zero s ∙ eq-eqb (s % 2) 1 e)

trailing_least : (k s j : ℕ) → has s j ≡ true → count_trailing_zeros k s ≤ j
unfolding count_trailing_zeros
trailing_least zero s j e = zero-le
trailing_least (suc k) s zero e = le_of_eq (trailing_odd k s (digit_one s e))
trailing_least (suc k) s (suc j) e =
    let ih : count_trailing_zeros k (s / 2) ≤ j = trailing_least k (s / 2) j (sym (has_suc s j) ∙ e) in
    by_digit s (λ d. le_trans (le_of_eq (trailing_even k s d)) (suc-le-suc ih)) (λ d. le_trans (le_of_eq (trailing_odd k s d)) zero-le)

ones_in_none : (k s : ℕ) → s < 2 ^ k → ones_in k s ≡ 0 → s ≡ 0
unfolding ones_in
ones_in_none zero s h e = omega arith
ones_in_none (suc k) s h e =
    let r : ones_in k (s / 2) ≡ 0 = omega arith in
    let ih : s / 2 ≡ 0 = ones_in_none k (s / 2) (half_below k s h) r in
    omega arith

single_power : (k s : ℕ) → s < 2 ^ k → ones_in k s ≡ 1 → s ≡ 2 ^ count_trailing_zeros k s
unfolding ones_in
single_power zero s h e = absurd (omega arith)
single_power (suc k) s h e =
    let ih : ones_in k (s / 2) ≡ 1 → s / 2 ≡ 2 ^ count_trailing_zeros k (s / 2) = single_power k (s / 2) (half_below k s h) in
    let none : ones_in k (s / 2) ≡ 0 → s / 2 ≡ 0 = ones_in_none k (s / 2) (half_below k s h) in
    by_digit s
    (λ d.
    let q : s / 2 ≡ 2 ^ count_trailing_zeros k (s / 2) = ih (omega arith) in
    let p : 2 ^ suc (count_trailing_zeros k (s / 2)) ≡ 2 ^ count_trailing_zeros k (s / 2) * 2 = pow-suc 2 (count_trailing_zeros k (s / 2)) in
    let r : s ≡ 2 ^ suc (count_trailing_zeros k (s / 2)) = omega arith in
    r ∙ ap (λ (x : ℕ). 2 ^ x) (sym (trailing_even k s d)))
    (λ d.
    let q : s / 2 ≡ 0 = none (omega arith) in
    let r : s ≡ 1 = omega arith in
    r ∙ ap (λ (x : ℕ). 2 ^ x) (sym (trailing_odd k s d)))

-- a set of which an element is known is not empty
pub has_positive : (s i : ℕ) → has s i ≡ true → 0 < s
has_positive s i e = go s e
  where
    go : (x : ℕ) → has x i ≡ true → 0 < x
    go zero h = let z : true ≡ false = sym h ∙ has_empty i in let w : ◌≡◌ {A = ℕ} 0 1 = cc in absurd (omega arith)
    go (suc x) h = zero-lt-suc x

trailing_below : (s : ℕ) → s < 2 ^ 64 → 0 < s → count_trailing_zeros 64 s < 64
trailing_below s h p = go (ltb (count_trailing_zeros 64 s) 64) refl
  where
    go : (b : Bool) → ltb (count_trailing_zeros 64 s) 64 ≡ b → count_trailing_zeros 64 s < 64
    go true e = ltb-true (count_trailing_zeros 64 s) 64 e
    go false e =
        let z : true ≡ false = sym (trailing_has 64 s h p) ∙ has_beyond 64 (count_trailing_zeros 64 s) h (ltb-false (count_trailing_zeros 64 s) 64 e) in
        let w : ◌≡◌ {A = ℕ} 0 1 = cc in
        absurd (omega arith)

-- a set of one element is that of its trailing zeros
pub single_is_one : (s : ℕ) → s < 2 ^ 64 → count s ≡ 1 → (count_trailing_zeros 64 s < 64) × (s ≡ one (count_trailing_zeros 64 s))
unfolding count
single_is_one s h e =
    let q : s ≡ 2 ^ count_trailing_zeros 64 s = single_power 64 s h e in
    let p : 0 < s = subst (λ (x : ℕ). 0 < x) (sym q) (pow_pos (count_trailing_zeros 64 s)) in
    let l : count_trailing_zeros 64 s < 64 = trailing_below s h p in
    (l, q ∙ sym (one_is (count_trailing_zeros 64 s) l))

pub count_one : (i : ℕ) → i < 64 → count (one i) ≡ 1
unfolding with union
count_one i l = ap count (sym (or_zero_l (one i))) ∙ count_with 0 i l (has_empty i) ∙ ap suc count_empty

pub only_is : (s i : ℕ) → s < 2 ^ 64 → only s ≡ Some i → (i < 64) × (s ≡ one i)
unfolding is_single
only_is s i h e = go (is_single s) refl
  where
    go : (b : Bool) → is_single s ≡ b → (i < 64) × (s ≡ one i)
    go true t =
        let q : only s ≡ Some (count_trailing_zeros 64 s) = only_when s t in
        let r : count_trailing_zeros 64 s ≡ i = cc in
        rw r at (single_is_one s h (eqb-true (count s) 1 t))
    go false t =
        let q : only s ≡ None = only_unless s t in
        let w : ◌≡◌ {A = ℕ} 0 1 = cc in
        absurd (omega arith)

pub only_of_one : (i : ℕ) → i < 64 → only (one i) ≡ Some i
unfolding is_single
only_of_one i l =
    let t : is_single (one i) ≡ true = eq-eqb (count (one i)) 1 (count_one i l) in
    let h : one i < 2 ^ 64 = one_below i in
    let p : 0 < one i = has_positive (one i) i (has_one i i l ∙ eq-eqb i i refl) in
    let e : count_trailing_zeros 64 (one i) ≡ i = eqb-true (count_trailing_zeros 64 (one i)) i (sym (has_one i (count_trailing_zeros 64 (one i)) l) ∙ trailing_has 64 (one i) h p) in
    only_when (one i) t ∙ ap Some e

pub lowest_is : (s i : ℕ) → s < 2 ^ 64 → lowest s ≡ Some i → (has s i ≡ true) × ((j : ℕ) → has s j ≡ true → i ≤ j)
lowest_is s i h e = go (is_empty s) refl
  where
    go : (b : Bool) → is_empty s ≡ b → (has s i ≡ true) × ((j : ℕ) → has s j ≡ true → i ≤ j)
    go true t =
        let q : lowest s ≡ None = lowest_none s t in
        let w : ◌≡◌ {A = ℕ} 0 1 = cc in
        absurd (omega arith)
    go false t =
        let q : lowest s ≡ Some (count_trailing_zeros 64 s) = lowest_some s t in
        let r : count_trailing_zeros 64 s ≡ i = cc in
        (ap (has s) (sym r) ∙ trailing_has 64 s h (not_empty s t), λ j f. subst (λ (x : ℕ). x ≤ j) r (trailing_least 64 s j f))

pub lowest_nothing : (s : ℕ) → lowest s ≡ None → s ≡ 0
unfolding is_empty
lowest_nothing s e = go (is_empty s) refl
  where
    go : (b : Bool) → is_empty s ≡ b → s ≡ 0
    go true t = eqb-true s 0 t
    go false t =
        let q : lowest s ≡ Some (count_trailing_zeros 64 s) = lowest_some s t in
        let w : ◌≡◌ {A = ℕ} 0 1 = cc in
        absurd (omega arith)

pub only_has : (s i : ℕ) → s < 2 ^ 64 → only s ≡ Some i → has s i ≡ true
only_has s i h e = let p : (i < 64) × (s ≡ one i) = only_is s i h e in ap (λ (x : ℕ). has x i) p.1 ∙ has_one i i p.0 ∙ eq-eqb i i refl

pub only_alone : (s i j : ℕ) → s < 2 ^ 64 → only s ≡ Some i → has s j ≡ true → j ≡ i
only_alone s i j h e g =
    let p : (i < 64) × (s ≡ one i) = only_is s i h e in
    eqb-true j i (sym (has_one i j p.0) ∙ ap (λ (x : ℕ). has x j) (sym p.1) ∙ g)

-- a set that has i and nothing else is that of i
pub alone_only : (s i : ℕ) → s < 2 ^ 64 → has s i ≡ true → ((j : ℕ) → has s j ≡ true → j ≡ i) → only s ≡ Some i
alone_only s i h e f = ap only same ∙ only_of_one i l
  where
    within : (b : Bool) → ltb i 64 ≡ b → i < 64
    within true t = ltb-true i 64 t
    within false t =
        let z : true ≡ false = sym e ∙ has_beyond 64 i h (ltb-false i 64 t) in
        let w : ◌≡◌ {A = ℕ} 0 1 = cc in
        absurd (omega arith)

    l : i < 64
    l = within (ltb i 64) refl

    same : s ≡ one i
    same =
        inside_both s (one i) (λ j g. has_one i j l ∙ eq-eqb j i (f j g))
        (λ j g. subst (λ (x : ℕ). has s x ≡ true) (sym (eqb-true j i (sym (has_one i j l) ∙ g))) e)

pub only_nothing : (s : ℕ) → only s ≡ None → count s ≡ 1 → ⊥
unfolding is_single
only_nothing s e c =
    let q : only s ≡ Some (count_trailing_zeros 64 s) = only_when s (eq-eqb (count s) 1 c) in
    let w : ◌≡◌ {A = ℕ} 0 1 = cc in
    omega arith
