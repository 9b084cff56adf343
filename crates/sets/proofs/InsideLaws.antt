-- Lists of sets by inclusion: an order, and lists that grow have less room. Assumes nothing.
use Rattle.std.proofs.lemmas.Bool.{and_parts}
use Rattle.std.specs.Prelude.{◌≡◌, refl, Bool, true, false, ◌&&◌, List, [], ◌∷◌, ℕ, suc, ◌^◌, ◌≤◌, ◌<◌, eqb, leb, length, get_or}
use Rattle.std.proofs.Common.{sym, ap, ◌∙◌, le_refl, arith, ext_get_or, eqb-true, eq-eqb, leb-true, leb-false}
use Rattle.std.proofs.Math.Nat.{suc_inj}
use Rattle.sets.proofs.SetLaws.{inside_both, inside_le}
use Rattle.sets.specs.Least.{SetList, Inside, same, room}

-- ---- inclusion is an order

pub inside_refl : (s : List ℕ) → Inside s s
inside_refl s = record { at = λ i e h. h }

pub inside_trans : {r s t : List ℕ} → Inside r s → Inside s t → Inside r t
inside_trans a b = record { at = λ i e h. b.at i e (a.at i e h) }

pub inside_equal : {s t : List ℕ} → length s ≡ length t → Inside s t → Inside t s → s ≡ t
inside_equal {s} {t} l a b = ext_get_or 0 s t l (λ i h. inside_both (get_or s i 0) (get_or t i 0) (a.at i) (b.at i))

pub inside_at : {s t : List ℕ} → Inside s t → (i : ℕ) → get_or s i 0 ≤ get_or t i 0
inside_at {s} {t} a i = inside_le (get_or s i 0) (get_or t i 0) (a.at i)

-- ---- the test for equal lists

pub same_true : (s t : List ℕ) → same s t ≡ true → s ≡ t
unfolding same
same_true [] [] h = refl
same_true [] (y ∷ t) h = cc
same_true (x ∷ s) [] h = cc
same_true (x ∷ s) (y ∷ t) h =
    let b : (eqb x y ≡ true) × (same s t ≡ true) = and_parts (eqb x y) (same s t) h in
    let p : x ≡ y = eqb-true x y b.0 in
    let q : s ≡ t = same_true s t b.1 in
    cc

pub same_refl : (s : List ℕ) → same s s ≡ true
unfolding same
same_refl [] = refl
same_refl (x ∷ s) = ap (λ (b : Bool). b && same s s) (eq-eqb x x refl) ∙ same_refl s

-- ---- a list that grows has less room

tail_inside : {x y : ℕ} {s t : List ℕ} → Inside (x ∷ s) (y ∷ t) → Inside s t
tail_inside a = record { at = λ i e h. a.at (suc i) e h }

pub room_le : (s t : List ℕ) → length s ≡ length t → Inside s t → room t ≤ room s
unfolding room
room_le [] [] l a = le_refl 0
room_le [] (y ∷ t) l a = absurd (omega arith)
room_le (x ∷ s) [] l a = absurd (omega arith)
room_le (x ∷ s) (y ∷ t) l a =
    let h : x ≤ y = inside_at a 0 in
    let k : room t ≤ room s = room_le s t (suc_inj l) (tail_inside a) in
    omega arith

room_equal : (s t : List ℕ) → length s ≡ length t → ((i : ℕ) → get_or t i 0 < 2 ^ 64) → Inside s t → room s ≤ room t → s ≡ t
unfolding room
room_equal [] [] l b a r = refl
room_equal [] (y ∷ t) l b a r = absurd (omega arith)
room_equal (x ∷ s) [] l b a r = absurd (omega arith)
room_equal (x ∷ s) (y ∷ t) l b a r =
    let h : x ≤ y = inside_at a 0 in
    let m : y < 2 ^ 64 = b 0 in
    let k : room t ≤ room s = room_le s t (suc_inj l) (tail_inside a) in
    let p : x ≡ y = omega arith in
    let q : s ≡ t = room_equal s t (suc_inj l) (λ i. b (suc i)) (tail_inside a) (omega arith) in
    cc

pub room_less : {n : ℕ} {s t : List ℕ} → SetList n s → SetList n t → Inside s t → (s ≡ t → ⊥) → room t < room s
room_less {n} {s} {t} hs ht a d = go (leb (room s) (room t)) refl
  where
    go : (b : Bool) → leb (room s) (room t) ≡ b → room t < room s
    go true e = absurd (d (room_equal s t (hs.places ∙ sym ht.places) ht.below a (leb-true (room s) (room t) e)))
    go false e = leb-false (room s) (room t) e
