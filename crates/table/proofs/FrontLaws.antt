-- The first places of a list, of zeros too, filled anew; and places in the middle of a list. Assumes nothing.
use Rattle.std.proofs.lemmas.List.{take-append-le}
use Rattle.std.specs.Prelude.{ℕ, ◌+◌, ◌≤◌, ◌≡◌, List, ◌++◌, length, take, drop, replicate}
use Rattle.std.proofs.Common.{sym, ap, ◌∙◌, arith, length-append, length-take, length-drop, take_at, length-take-le}
use borrow.Rule.Slice.PartMut.{put_mid, take_put}
use Rattle.table.proofs.CutLaws.{take_replicate}

module _ (m : ℕ) (a : List ℕ) {n : ℕ} (e : length a ≡ n) where
  abbrev filled : List ℕ
  filled = a ++ drop n (replicate m 0)

  pub front_fits : n ≤ length filled
  front_fits = omega (arith, length-append a (drop n (replicate m 0)))

  pub front_is : take n filled ≡ a
  front_is = take_at a (drop n (replicate m 0)) n e

  pub front_long : n ≡ length (take n filled)
  front_long = sym (ap length front_is ∙ e)

-- k places of a list, from n on, and the list with these filled anew
module _ (n k : ℕ) (w : List ℕ) where
  pub part_long : n + k ≤ length w → length (take k (drop n w)) ≡ k
  part_long l = length-take-le k (drop n w) (omega (arith, length-drop n w))

  -- what stands before them stays
  pub put_first : (i : ℕ) (p : List ℕ) → n ≡ i → i ≤ length w → take i (put_mid n k w p) ≡ take i w
  put_first i p q l =
      ap {B = List ℕ} (λ (x : ℕ). take x (put_mid n k w p)) (sym q) ∙ take_put n k w p (omega arith) ∙ ap {B = List ℕ} (λ (x : ℕ). take x w) q

-- ---- the first places of a list of zeros

-- the front of a list of zeros
pub zeros_front : (n : ℕ) (work : List ℕ) → work ≡ replicate (length work) 0 → n ≤ length work → take n work ≡ replicate n 0
zeros_front n work z h = ap (take n) z ∙ take_replicate n (length work) 0 h

-- ---- the first m places of a list, filled anew

module _ (m : ℕ) (work out : List ℕ) (fits : m ≤ length work) (e : length out ≡ length (take m work)) where
  out_long : length out ≡ m
  out_long = e ∙ length-take m work ∙ omega arith

  pub all_long : length (out ++ drop m work) ≡ length work
  all_long = length-append out (drop m work) ∙ omega (arith, out_long, length-drop m work)

  pub first_kept : (i : ℕ) → i ≤ m → take i (out ++ drop m work) ≡ take i out
  first_kept i h = take-append-le i out (drop m work) (omega (arith, out_long))
