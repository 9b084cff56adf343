-- `a & !b` of 64 bits has what is in a and not in b. Assumes nothing.
use Rattle.std.specs.Prelude.{◌≡◌, refl, Bool, true, false, not, ◌&&◌, ℕ, ◌-◌, ◌/◌, ◌%◌, ◌^◌, ◌<◌, ltb}
use Rattle.std.proofs.Common.{sym, ap, ◌∙◌, eqb, w64, ltb-true, ltb-false}
use Rattle.std.specs.Int.Bits.{bit_and}
use Rattle.std.proofs.lemmas.Nat.Bits.{bit_at_not}
use Rattle.sets.specs.Set.{has, inter, minus}
use Rattle.sets.proofs.SetLaws.{digits_of, has_inter, has_minus, has_beyond, same_elements}

turned : (x : ℕ) → eqb (1 - x % 2) 1 ≡ not (eqb (x % 2) 1)
turned x = digits_of (λ (y z : ℕ). eqb (1 - y) 1 ≡ not (eqb y 1)) refl refl refl refl x x

has_others : (b i : ℕ) → b < 2 ^ 64 → i < 64 → has (2 ^ 64 - 1 - b) i ≡ not (has b i)
unfolding has
has_others b i h l = ap (λ (x : ℕ). eqb x 1) (bit_at_not w64 b i h l) ∙ turned (b / 2 ^ i)

pub clear_is_minus : (a b : ℕ) → a < 2 ^ 64 → b < 2 ^ 64 → bit_and a (2 ^ 64 - 1 - b) ≡ minus a b
unfolding inter
clear_is_minus a b h k = same_elements _ _ (λ i. has_inter a (2 ^ 64 - 1 - b) i ∙ go i (ltb i 64) refl ∙ sym (has_minus a b i))
  where
    go : (i : ℕ) (t : Bool) → ltb i 64 ≡ t → (has a i && has (2 ^ 64 - 1 - b) i) ≡ (has a i && not (has b i))
    go i true e = ap (λ (x : Bool). has a i && x) (has_others b i k (ltb-true i 64 e))
    go i false e = let z : has a i ≡ false = has_beyond 64 i h (ltb-false i 64 e) in rw z
