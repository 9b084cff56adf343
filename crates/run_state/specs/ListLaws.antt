-- The first places of a list, after a store too, and what the state shows after each store. Assumes nothing.
use Rattle.std.specs.Prelude.{ℕ, ◌<◌, ◌≤◌, ◌≡◌, Bool, cond, List, ◌++◌, ℤ, length, drop}
use Rattle.std.proofs.Math.Path.{refl, sym, ap, ap₂}
use Rattle.std.proofs.Common.{◌∙◌, arith, take-append-drop, drop-set-lt}
use Rattle.std.proofs.Math.Bool.{true, false}
use borrow.Author.Tests.{ltb-true, ltb-false, lt-ltb, le-ltb}
use Rattle.std.proofs.Math.Dec.{ltb}
use Rattle.std.proofs.Math.ListN.{take, set, length-take}
use Rattle.std.proofs.Math.Seq.{take-set-lt, set_out}
use Rattle.table.specs.Table.{Table}
use Rattle.run_state.specs.declared.State as Run
use Rattle.run_state.specs.Lists.{put, locks_in, put_lock, cells_in, put_cell}
use Rattle.run_state.specs.Shown.{arrays, parts_of}

-- what no store changes, one to the first places does not change
pub put_kept : {A B : Type 0} (f : List A → B) (n : ℕ) (l : List A) (i : ℕ) (x : A) → ((j : ℕ) → f (set l j x) ≡ f l) → f (put n l i x) ≡ f l
unfolding put
put_kept f n l i x k = go (ltb i n)
  where
    go : (b : Bool) → f (cond b (set l i x) l) ≡ f l
    go true = k i
    go false = refl

pub put_inside : {A : Type 0} (n : ℕ) (l : List A) (i : ℕ) (x : A) → i < n → set l i x ≡ put n l i x
unfolding put
put_inside n l i x b = rw (lt-ltb i n b)

pub put_past : {A : Type 0} (n : ℕ) (l : List A) (i : ℕ) (x : A) → n ≤ i → l ≡ put n l i x
unfolding put
put_past n l i x b = rw (le-ltb i n b)

take_most : {A : Type 0} (n : ℕ) (l : List A) → length (take n l) ≤ n
take_most n l = rw length-take (omega arith)

-- a store to the first places, with the others behind them
pub put_part : {A : Type 0} (n : ℕ) (l : List A) (i : ℕ) (x : A) → set (take n l) i x ++ drop n l ≡ put n l i x
put_part {A = A} n l i x = go (ltb i n) refl
  where
    go : (b : Bool) → ltb i n ≡ b → set (take n l) i x ++ drop n l ≡ put n l i x
    go true e =
        let low = ltb-true i n e in
        ap₂ (λ (a b : List A). a ++ b) (sym (take-set-lt n l i x low)) (sym (drop-set-lt n l i x low)) ∙ take-append-drop n (set l i x) ∙ put_inside n l i x low
    go false e =
        let past = ltb-false i n e in
        ap (λ (a : List A). a ++ drop n l) (set_out (take n l) i x (omega (arith, take_most n l, past))) ∙ take-append-drop n l ∙ put_past n l i x past

pub take_put : {A : Type 0} (n : ℕ) (l : List A) (i : ℕ) (x : A) → take n (put n l i x) ≡ set (take n l) i x
unfolding put
take_put n l i x = go (ltb i n) refl
  where
    go : (b : Bool) → ltb i n ≡ b → take n (cond b (set l i x) l) ≡ set (take n l) i x
    go true e = take-set-lt n l i x (ltb-true i n e)
    go false e = sym (set_out (take n l) i x (omega (arith, take_most n l, ltb-false i n e)))

module _ (t : Table) (s : Run.State) where
  pub parts_lock : (k x : ℕ)
      → parts_of t (put_lock t.locks s k x) ≡ arrays s.started s.nexts s.values s.counts s.accumulators (set (locks_in t.locks s) k x) (cells_in t.cells s)
  parts_lock k x = ap (λ (l : List ℕ). arrays s.started s.nexts s.values s.counts s.accumulators l (cells_in t.cells s)) (take_put t.locks s.locks k x)

  pub parts_cell : (k : ℕ) (x : ℤ)
      → parts_of t (put_cell t.cells s k x) ≡ arrays s.started s.nexts s.values s.counts s.accumulators (locks_in t.locks s) (set (cells_in t.cells s) k x)
  parts_cell k x = ap (λ (l : List ℤ). arrays s.started s.nexts s.values s.counts s.accumulators (locks_in t.locks s) l) (take_put t.cells s.cells k x)
