-- What may come next, as a list and by the rule. Assumes nothing.
use Rattle.std.specs.Prelude.{ℕ, ◌+◌, ◌≡◌, refl, ◌⊎◌, Some}
use Rattle.std.proofs.Common.{sym, ap, ◌∙◌, inl, inr}
use mathlib.Core.List.{List, [], ◌∷◌, map, Memᴰ}
use Rattle.table.specs.Table.{Table, statement, InRoutine}
use Rattle.table.specs.View.{view, On, list_on, when}
use Rattle.table.proofs.ViewLaws.{list_has, list_from, when_has, when_from}
use Rattle.table.specs.Accepted.{Accepted, Operands, GoesOn}
use Rattle.table.specs.declared.Statement.{Statement}
use Rattle.report.specs.Layout.{Layout}
use Rattle.report.specs.Fits.{Fits, copies_of}
use Rattle.report.specs.Operations.{nexts}
use Rattle.report.specs.Rules.{Place, Goes}

pub goes_next : (s : ℕ) (σ : Statement) (n : ℕ) → Goes s σ n → Memᴰ n (nexts s σ)
unfolding nexts
goes_next s σ n (inl e) = mathlib.Core.List.Memᴰ.append_left (when (view σ).onward ((s + 1) ∷ [])) (list_has (view σ).target (λ m. m ∷ []) n e (mathlib.Core.List.Memᴰ.head refl))
goes_next s σ n (inr (on, e)) =
    mathlib.Core.List.Memᴰ.append_right (list_on (view σ).target (λ m. m ∷ [])) (when_has (view σ).onward ((s + 1) ∷ []) n on (mathlib.Core.List.Memᴰ.head e))

pub next_goes : (s : ℕ) (σ : Statement) (n : ℕ) → Memᴰ n (nexts s σ) → Goes s σ n
unfolding nexts
next_goes s σ n m = go (mathlib.Core.List.Memᴰ.append_cases (list_on (view σ).target (λ m. m ∷ [])) m)
  where
    go : Memᴰ n (list_on (view σ).target (λ m. m ∷ [])) ⊎ Memᴰ n (when (view σ).onward ((s + 1) ∷ [])) → Goes s σ n
    go (inl a) =
        let o : On (view σ).target (λ m. Memᴰ n (m ∷ [])) = list_from (view σ).target (λ m. m ∷ []) n a in
        inl (o.1 ∙ ap Some (sym (mathlib.Core.List.Memᴰ.eq_of_singleton o.2)))
    go (inr a) = let o = when_from (view σ).onward ((s + 1) ∷ []) n a in inr (o.0, mathlib.Core.List.Memᴰ.eq_of_singleton o.1)

-- what may come next is of the same routine
pub goes_inside : (t : Table) (r s : ℕ) (σ : Statement) → Operands t r σ → GoesOn t r s σ → (n : ℕ) → Goes s σ n → InRoutine t r n
goes_inside t r s σ o g n (inl e) = o.target n e
goes_inside t r s σ o g n (inr (on, e)) = rw e (g on)

pub map_has : {A : Type 0} (f : ℕ → A) (l : List ℕ) (n : ℕ) → Memᴰ n l → Memᴰ (f n) (map f l)
map_has f [] n m = elim m [ ]
map_has f (y ∷ l) n (mathlib.Core.List.Memᴰ.head e) = mathlib.Core.List.Memᴰ.head (ap f e)
map_has f (y ∷ l) n (mathlib.Core.List.Memᴰ.tail m) = mathlib.Core.List.Memᴰ.tail (map_has f l n m)

pub map_from : {A : Type 0} (f : ℕ → A) (l : List ℕ) (x : A) → Memᴰ x (map f l) → (n : ℕ) × Memᴰ n l × (x ≡ f n)
map_from f [] x m = elim m [ ]
map_from f (y ∷ l) x (mathlib.Core.List.Memᴰ.head e) = (y, mathlib.Core.List.Memᴰ.head refl, e)
map_from f (y ∷ l) x (mathlib.Core.List.Memᴰ.tail m) = let r : (n : ℕ) × Memᴰ n l × (x ≡ f n) = map_from f l x m in (r.0, mathlib.Core.List.Memᴰ.tail r.1, r.2)

pub goes_placed : (t : Table) (k : Layout) → Accepted t → (fits : Fits t k) (c s n : ℕ) → Place (copies_of fits) c s → Goes s (statement t s) n
    → Place (copies_of fits) c n
goes_placed t k acc fits c s n w g = record {
  there = w.there;
  inside =
      goes_inside t (k.routine_of c) s (statement t s) (acc.operands (k.routine_of c) s (fits.of_there c w.there) w.inside)
      (acc.goes_on (k.routine_of c) s (fits.of_there c w.there) w.inside) n g;
}
