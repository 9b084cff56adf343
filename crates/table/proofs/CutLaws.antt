-- The first places of a list of one value, as of an array of zeros. Assumes nothing.
use Rattle.std.specs.Prelude.{◌≡◌, refl, List, ◌∷◌, ℕ, zero, suc, ◌≤◌, length, take, replicate}
use Rattle.std.proofs.Common.{sym, ap, ◌∙◌, arith, le_of_suc-le-suc}
use Rattle.std.proofs.lemmas.List.{length-replicate}

module _ {A : Type 0} where
  pub take_replicate : (n m : ℕ) (x : A) → n ≤ m → take n (replicate m x) ≡ replicate n x
  take_replicate zero m x h = refl
  take_replicate (suc n) zero x h = absurd (omega arith)
  take_replicate (suc n) (suc m) x h = ap (λ (l : List A). x ∷ l) (take_replicate n m x (le_of_suc-le-suc h))

  pub cut_long : (n m : ℕ) (x : A) → n ≤ m → n ≡ length (take n (replicate m x))
  cut_long n m x h = sym (ap length (take_replicate n m x h) ∙ length-replicate n x)
