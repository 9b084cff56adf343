-- The greatest sets: each is inside what every way into its place brings, and every family that is so is inside them. Assumes nothing.
use Rattle.std.proofs.lemmas.Bool.{and_parts, and_from}
use Prim.Native.Nat.{ℕ, ◌^◌, ◌<◌}
use Rattle.std.specs.Prelude.{◌≡◌, Bool, false, not, ◌&&◌, length, get_or, replicate}
use Rattle.std.proofs.Math.Path.{refl, ap, subst}
use Rattle.std.proofs.Common.{sym, ◌∙◌, arith}
use Rattle.std.proofs.Math.Bool.{true}
use mathlib.Core.List.{List, [], ◌∷◌, Memᴰ}
use Rattle.std.proofs.lemmas.List.{length-replicate}
use Rattle.sets.specs.Set.{has, minus}
use Rattle.sets.proofs.SetLaws.{has_minus, minus_below}
use Rattle.sets.specs.Least.{SetList, Inside, Steady}
use Rattle.sets.proofs.Rules.{put_length, put_cases, still_put, put_steady, same_steady, then_steady, then_still}
use Rattle.sets.proofs.Settled.{settled_sets, settled_closed, settled_induction}
use Rattle.table.proofs.TabulateLaws.{get_d_tabulate, zeros_at}
use Rattle.report.specs.Greatest.{Way, leaving, narrow, narrow_all, left_out, greatest}
use Rattle.report.proofs.OverLaws.{never, none_in, tabulate_from_lem}

-- a way brings no less out of more
pub record Monotone (w : Way) : Type 0 where
  pub more : (G H : ℕ → ℕ) → ((p x : ℕ) → has (G p) x ≡ true → has (H p) x ≡ true) → (x : ℕ) → has (w.brings G) x ≡ true → has (w.brings H) x ≡ true

-- ---- what is in all and not in s

pub minus_has : (all s x : ℕ) → has all x ≡ true → (has s x ≡ true → ⊥) → has (minus all s) x ≡ true
minus_has all s x a d = has_minus all s x ∙ go (has s x) refl
  where
    go : (b : Bool) → has s x ≡ b → (has all x && not b) ≡ true
    go true e = absurd (d e)
    go false e = and_from _ _ a refl

pub minus_from : (all s x : ℕ) → has (minus all s) x ≡ true → (has all x ≡ true) × (has s x ≡ true → ⊥)
minus_from all s x h =
    let b : (has all x ≡ true) × (not (has s x) ≡ true) = and_parts (has all x) (not (has s x)) (sym (has_minus all s x) ∙ h) in
    (b.0, λ e. never (sym b.1 ∙ ap not e))

module _ (all : ℕ) (small : all < 2 ^ 64) where
  leaving_less : {r s : List ℕ} → Inside r s → (p x : ℕ) → has (leaving all s p) x ≡ true → has (leaving all r p) x ≡ true
  unfolding leaving
  leaving_less {r} {s} a p x h =
      let b : (has all x ≡ true) × (has (get_or s p 0) x ≡ true → ⊥) = minus_from all (get_or s p 0) x h in
      minus_has all (get_or r p 0) x b.0 (λ e. b.1 (a.at p x e))

  -- what a way leaves out
  abbrev out : Way → List ℕ → ℕ
  out w s = minus all (w.brings (leaving all s))

  out_more : (w : Way) → Monotone w → (s r : List ℕ) → Inside s r → (x : ℕ) → has (out w s) x ≡ true → has (out w r) x ≡ true
  out_more w m s r a x h =
      let b : (has all x ≡ true) × (has (w.brings (leaving all s)) x ≡ true → ⊥) = minus_from all (w.brings (leaving all s)) x h in
      minus_has all (w.brings (leaving all r)) x b.0 (λ e. b.1 (m.more (leaving all r) (leaving all s) (leaving_less a) x e))

  -- ---- steady

  narrow_steady : (n : ℕ) (w : Way) → Monotone w → Steady n (narrow all w)
  unfolding narrow
  narrow_steady n w m =
      put_steady n w.to (out w) (λ s h. minus_below 64 (w.brings (leaving all s)) small) (λ s r h k a x e. out_more w m s r a x e)

  all_steady : (n : ℕ) (ws : List Way) → ((w : Way) → Memᴰ w ws → Monotone w) → Steady n (narrow_all all ws)
  unfolding narrow_all
  all_steady n [] m = same_steady n
  all_steady n (w ∷ ws) m =
      then_steady n (narrow all w) (narrow_all all ws) (narrow_steady n w (m w (mathlib.Core.List.Memᴰ.head refl))) (all_steady n ws (λ v i. m v (mathlib.Core.List.Memᴰ.tail i)))

  -- a list that all ways together leave as it is, each leaves
  all_still : (n : ℕ) (ws : List Way) → ((w : Way) → Memᴰ w ws → Monotone w) → (s : List ℕ) → SetList n s → narrow_all all ws s ≡ s
      → (w : Way) → Memᴰ w ws → narrow all w s ≡ s
  unfolding narrow_all
  all_still n [] m s h q w i = elim i [ ]
  all_still n (v ∷ ws) m s h q w i =
      let both : (narrow all v s ≡ s) × (narrow_all all ws s ≡ s) =
      then_still n (narrow all v) (narrow_all all ws) (narrow_steady n v (m v (mathlib.Core.List.Memᴰ.head refl))) (all_steady n ws (λ u j. m u (mathlib.Core.List.Memᴰ.tail j))) s h q in
      let ih : Memᴰ w ws → narrow all w s ≡ s = all_still n ws (λ u j. m u (mathlib.Core.List.Memᴰ.tail j)) s h both.1 w in
      go both.0 ih i
    where
      go : narrow all v s ≡ s → (Memᴰ w ws → narrow all w s ≡ s) → Memᴰ w (v ∷ ws) → narrow all w s ≡ s
      go a ih (mathlib.Core.List.Memᴰ.head e) = subst (λ (u : Way). narrow all u s ≡ s) (sym e) a
      go a ih (mathlib.Core.List.Memᴰ.tail j) = ih j

  -- what holds of the elements of s, and of what each way puts out of a list of which it holds, holds afterwards
  all_carries : (P : ℕ → ℕ → Type 0) (n : ℕ) (ws : List Way)
      → ((w : Way) → Memᴰ w ws → (r : List ℕ) → ((i x : ℕ) → has (get_or r i 0) x ≡ true → P i x) → (x : ℕ) → w.to < n
      → has (minus all (w.brings (leaving all r))) x ≡ true → P w.to x)
      → (s : List ℕ) → length s ≡ n → ((i x : ℕ) → has (get_or s i 0) x ≡ true → P i x) → (i x : ℕ) → has (get_or (narrow_all all ws s) i 0) x ≡ true → P i x
  unfolding narrow_all narrow
  all_carries P n [] f s o q = q
  all_carries P n (w ∷ ws) f s o q =
      all_carries P n ws (λ v m. f v (mathlib.Core.List.Memᴰ.tail m)) (narrow all w s) (put_length w.to (out w s) s ∙ o)
      (λ i x. put_cases w.to (out w s) s i x (q i x)
      (λ e l h. subst (λ (j : ℕ). P j x) (sym e) (f w (mathlib.Core.List.Memᴰ.head refl) s q x (subst (λ (k : ℕ). w.to < k) o l) h)))

  -- ---- the theorem

  module _ (n : ℕ) (ws : List Way) (mono : (w : Way) → Memᴰ w ws → Monotone w) where
    steady : Steady n (narrow_all all ws)
    steady = all_steady n ws mono

    empty_sets : SetList n (replicate n 0)
    empty_sets = record { places = length-replicate n 0; below = λ i. subst (λ (y : ℕ). y < 2 ^ 64) (sym (zeros_at n i)) (omega arith) }

    out_sets : SetList n (left_out all n ws)
    unfolding left_out
    out_sets = settled_sets n (narrow_all all ws) steady (replicate n 0) empty_sets

    -- at a place that is there the greatest set is what is left
    pub greatest_is : (p : ℕ) → p < n → get_or (greatest all n ws) p 0 ≡ leaving all (left_out all n ws) p
    unfolding greatest
    greatest_is p l = get_d_tabulate n (leaving all (left_out all n ws)) p 0 l

    pub greatest_inside : (p x : ℕ) → has (get_or (greatest all n ws) p 0) x ≡ true → (p < n) × (has all x ≡ true)
    unfolding greatest leaving
    greatest_inside p x h =
        let r : (p < n) × (has (leaving all (left_out all n ws) p) x ≡ true) = tabulate_from_lem n (leaving all (left_out all n ws)) p x h in
        (r.0, (minus_from all (get_or (left_out all n ws) p 0) x r.1).0)

    -- what is in the greatest set is not left out
    left_has : (p x : ℕ) → p < n → has (get_or (greatest all n ws) p 0) x ≡ true → has (get_or (left_out all n ws) p 0) x ≡ true → ⊥
    unfolding leaving
    left_has p x l h = (minus_from all (get_or (left_out all n ws) p 0) x (ap (λ (y : ℕ). has y x) (sym (greatest_is p l)) ∙ h)).1

    out_still : (w : Way) → Memᴰ w ws → narrow all w (left_out all n ws) ≡ left_out all n ws
    unfolding left_out
    out_still w m = all_still n ws mono (left_out all n ws) out_sets (settled_closed n (narrow_all all ws) steady (replicate n 0) empty_sets) w m

    -- "where ways meet, intersect": inside what every way in brings
    pub greatest_kept : (w : Way) → Memᴰ w ws → (x : ℕ) → has (get_or (greatest all n ws) w.to 0) x ≡ true
        → has (w.brings (leaving all (left_out all n ws))) x ≡ true
    unfolding narrow
    greatest_kept w m x h = go (has (w.brings (leaving all (left_out all n ws))) x) refl
      where
        there : w.to < n
        there = (greatest_inside w.to x h).0

        go : (b : Bool) → has (w.brings (leaving all (left_out all n ws))) x ≡ b → has (w.brings (leaving all (left_out all n ws))) x ≡ true
        go true e = e
        go false e =
            let gone : has (get_or (left_out all n ws) w.to 0) x ≡ true =
            still_put w.to (out w (left_out all n ws)) (left_out all n ws) (out_still w m)
            (subst (λ (k : ℕ). w.to < k) (sym out_sets.places) there) x
            (minus_has all (w.brings (leaving all (left_out all n ws))) x (greatest_inside w.to x h).1 (λ y. never (sym y ∙ e))) in
            absurd (left_has w.to x there h gone)

    -- and every family that is inside what every way in brings, and inside all, is inside
    pub greatest_contains : (G : ℕ → ℕ → Type 0) → ((p x : ℕ) → G p x → has all x ≡ true)
        → ((w : Way) → Memᴰ w ws → (H : ℕ → ℕ) → ((p x : ℕ) → G p x → has (H p) x ≡ true) → (x : ℕ) → w.to < n → G w.to x
        → has (w.brings H) x ≡ true)
        → (p x : ℕ) → p < n → G p x → has (get_or (greatest all n ws) p 0) x ≡ true
    unfolding left_out leaving
    greatest_contains G inside kept p x l g =
        ap (λ (y : ℕ). has y x) (greatest_is p l) ∙ minus_has all (get_or (left_out all n ws) p 0) x (inside p x g) (λ e. apart p x e g)
      where
        step : (r : List ℕ) → SetList n r → ((i e : ℕ) → has (get_or r i 0) e ≡ true → G i e → ⊥) → (i e : ℕ)
            → has (get_or (narrow_all all ws r) i 0) e ≡ true → G i e → ⊥
        step r h q =
            all_carries (λ i e. G i e → ⊥) n ws
            (λ w m s f e o b g.
            (minus_from all (w.brings (leaving all s)) e b).1
            (kept w m (leaving all s) (λ i y k. minus_has all (get_or s i 0) y (inside i y k) (λ z. f i y z k)) e o g))
            r h.places q

        apart : (i e : ℕ) → has (get_or (left_out all n ws) i 0) e ≡ true → G i e → ⊥
        apart = settled_induction n (narrow_all all ws) steady (λ i e. G i e → ⊥) step (replicate n 0) empty_sets
            (λ i e h. none_in e (ap (λ (y : ℕ). has y e) (sym (zeros_at n i)) ∙ h))

    -- what is left out is left out by some way
    left_out_by : (p x : ℕ) → has (get_or (left_out all n ws) p 0) x ≡ true
        → (w : Way) × Memᴰ w ws × (w.to ≡ p) × (has (minus all (w.brings (leaving all (left_out all n ws)))) x ≡ true)
    unfolding left_out narrow
    left_out_by p x h =
        (settled_induction n (narrow_all all ws) steady By (λ r s q. all_carries By n ws step r s.places q) (replicate n 0) empty_sets
        (λ i e g. none_in e (ap (λ (y : ℕ). has y e) (sym (zeros_at n i)) ∙ g)) p x h).1
      where
        By : ℕ → ℕ → Type 0
        By i e = (has (get_or (left_out all n ws) i 0) e ≡ true)
            × ((w : Way) × Memᴰ w ws × (w.to ≡ i) × (has (minus all (w.brings (leaving all (left_out all n ws)))) e ≡ true))

        step : (w : Way) → Memᴰ w ws → (r : List ℕ) → ((i e : ℕ) → has (get_or r i 0) e ≡ true → By i e) → (e : ℕ) → w.to < n
            → has (minus all (w.brings (leaving all r))) e ≡ true → By w.to e
        step w m r f e l g =
            let more : has (minus all (w.brings (leaving all (left_out all n ws)))) e ≡ true =
            out_more w (mono w m) r (left_out all n ws) (record { at = λ i y b. (f i y b).0 }) e g in (
              still_put w.to (out w (left_out all n ws)) (left_out all n ws) (out_still w m) (subst (λ (k : ℕ). w.to < k) (sym out_sets.places) l) e more,
              (w, m, refl, more),
            )

    -- "where ways meet, intersect": what every way in brings is there
    pub greatest_meets : (p x : ℕ) → p < n → has all x ≡ true
        → ((w : Way) → Memᴰ w ws → w.to ≡ p → has (w.brings (leaving all (left_out all n ws))) x ≡ true) → has (get_or (greatest all n ws) p 0) x ≡ true
    unfolding leaving
    greatest_meets p x l a f =
        ap (λ (y : ℕ). has y x) (greatest_is p l)
        ∙ minus_has all (get_or (left_out all n ws) p 0) x a
        (λ h.
        let r = left_out_by p x h in
        (minus_from all (r.0.brings (leaving all (left_out all n ws))) x r.3).1 (f r.0 r.1 r.2))
