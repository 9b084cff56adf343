-- Laws of lists, and of a choice at one number, that the proof of demand 3 uses. Assumes nothing.
use Rattle.std.specs.Prelude.{ℕ, zero, suc, ◌≡◌, refl, Bool, true, false, cond, List, [], ◌∷◌, ◌++◌, eqb, get_or, length}
use Rattle.std.proofs.Common.{sym, ap, subst, eqb-true}
use Rattle.std.proofs.lemmas.Bool.{eqb-false}

-- one more element changes nothing at the other places
pub get_d_snoc_other : {A : Type 0} (l : List A) (a d : A) (j : ℕ) → (j ≡ length l → ⊥) → get_or (l ++ a ∷ []) j d ≡ get_or l j d
get_d_snoc_other [] a d zero other = absurd (other refl)
get_d_snoc_other [] a d (suc j) other = refl
get_d_snoc_other (x ∷ l) a d zero other = refl
get_d_snoc_other (x ∷ l) a d (suc j) other = get_d_snoc_other l a d j (λ e. other (ap suc e))

-- a family with another member at n
abbrev pub replaced : {A : Type 0} → (ℕ → A) → ℕ → A → ℕ → A
replaced g n a m = cond (eqb m n) a (g m)

-- what holds of the new member at n, and of every other at its own number, holds at every number
pub replaced_all : {A : Type 0} (P : ℕ → A → Type 0) (g : ℕ → A) (n : ℕ) (a : A) → P n a → ((m : ℕ) → (m ≡ n → ⊥) → P m (g m)) → (m : ℕ)
    → P m (replaced g n a m)
replaced_all P g n a this others m = go (eqb m n) refl
  where
    go : (b : Bool) → eqb m n ≡ b → P m (cond b a (g m))
    go true e = subst (λ (k : ℕ). P k a) (sym (eqb-true m n e)) this
    go false e = others m (eqb-false m n e)
