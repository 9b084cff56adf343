-- What holds of every element of a list still holds where one changes or one is added. Assumes nothing.
use Rattle.std.specs.Prelude.{ℕ, zero, suc, ◌≡◌, refl, List, [], ◌∷◌, ◌++◌, get_or, set}
use Rattle.std.proofs.Common.{ap}

-- what stands at j after `set` is the new element, at its place alone, or what stood there
pub set_case : {A : Type 0} (P : A → Type 0) (l : List A) (i j : ℕ) (a d : A) → (j ≡ i → P a) → P (get_or l j d) → P (get_or (set l i a) j d)
set_case P [] i j a d new old = old
set_case P (x ∷ l) zero zero a d new old = new refl
set_case P (x ∷ l) zero (suc j) a d new old = old
set_case P (x ∷ l) (suc i) zero a d new old = old
set_case P (x ∷ l) (suc i) (suc j) a d new old = set_case P l i j a d (λ e. new (ap suc e)) old

-- what stands at j with one element more is that element, or what stood there
pub snoc_case : {A : Type 0} (P : A → Type 0) (l : List A) (j : ℕ) (a d : A) → P a → P (get_or l j d) → P (get_or (l ++ a ∷ []) j d)
snoc_case P [] zero a d new old = new
snoc_case P [] (suc j) a d new old = old
snoc_case P (x ∷ l) zero a d new old = old
snoc_case P (x ∷ l) (suc j) a d new old = snoc_case P l j a d new old
