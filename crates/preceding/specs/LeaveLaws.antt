-- Going through the statements once, each keeps what is held there if a START can precede it, and gets all locks if not. Assumes nothing.
use Rattle.std.specs.Prelude.{ℕ, ◌+◌, ◌-◌, ◌≤◌, ◌<◌, ◌≡◌, refl, Bool, true, false, cond, ◌||◌, List, ◌++◌, eqb, ℤ, length, get_or, set, take, drop}
use Rattle.std.proofs.Common.{sym, ap, ap₂, ◌∙◌, length-drop, length-take-le, take_at, drop_at, get_or-take, get_or-drop, get_or-set_same, eqb-true}
use native.Mathlib.Omega.{arith}
use Rattle.std.proofs.Math.ListN.{length-set}
use Rattle.std.proofs.Math.Seq.{get_or-set_other}
use borrow.Rule.Slice.PartMut.{put_mid, same_len_mid}
use Rattle.std.proofs.lemmas.Bool.{eqb-false}
use Rattle.sets.specs.Set.{has, firsts}
use Rattle.table.specs.Header.{locks, routines, statements}
use Rattle.table.proofs.LookupLaws.{locks_is, statements_length}
use Rattle.table.specs.Table.{Table, table_of}
use Rattle.table.specs.Accepted.{Accepted}
use Rattle.table.specs.Tabulate.{tabulate}
use Rattle.table.proofs.TabulateLaws.{is_tabulate, tabulate_same}
use Rattle.report.specs.Layout.{owner_of, one_each}
use Rattle.report.specs.Held.{all_locks}
use Rattle.report.specs.Preceded.{is_marked, reach_sets, preceded_sets, entered, is_preceded}
use Rattle.edges.specs.RoutineLaws.{Near, near_start, copy_of}
use Rattle.table.proofs.FrontLaws.{part_long, put_first}

-- what statement s of a table has, where `sets` says what a START can precede
abbrev pub counted_at : Table → List ℕ → List ℕ → ℕ → ℕ
counted_at t held sets s = cond (is_preceded (one_each t) sets s) (get_or held s 0) (all_locks t)

-- what a START can precede, with one copy of each routine
abbrev pub preceded_in : Table → List ℕ
preceded_in t = preceded_sets t (one_each t) (reach_sets t (one_each t))

-- the sets behind those of the statements: one for each statement again, one for each routine, and one more
abbrev pub behind_in : List ℤ → List ℕ → List ℕ
behind_in f work = take (statements f + routines f + 1) (drop (statements f) work)

behind_at : (f : List ℤ) (work : List ℕ) (q : ℕ) → q < statements f + routines f + 1 → get_or (behind_in f work) q 0 ≡ get_or work (statements f + q) 0
behind_at f work q l = get_or-take (statements f + routines f + 1) (drop (statements f) work) q 0 l ∙ get_or-drop (statements f) work q 0

-- the statements below p have it; c is the routine of the one before p
pub record Leaving (f : List ℤ) (w₀ w : List ℕ) (c p : ℕ) : Type 0 where
  pub near : Near f c p
  pub upto : p ≤ statements f
  pub room : statements f + (statements f + routines f + 1) ≤ length w₀
  pub long : length w ≡ length w₀
  pub done : (k : ℕ) → k < p → get_or w (statements f + k) 0 ≡ counted_at (table_of f) w₀ (behind_in f w₀) k
  pub rest : (i : ℕ) → (statements f ≤ i → statements f + p ≤ i) → get_or w i 0 ≡ get_or w₀ i 0

pub leaving_start : (f : List ℤ) {w : List ℕ} → Accepted (table_of f) → statements f + (statements f + routines f + 1) ≤ length w → Leaving f w w 0 0
leaving_start f {w} acc l = record { near = near_start f acc; upto = omega arith; room = l; long = refl; done = λ k h. absurd (omega arith); rest = λ i h. refl }

-- whether a START can precede statement p, by its own place and its routine's
preceded_is : (f : List ℤ) (sets : List ℕ) (p : ℕ) → p < statements f
    → (is_marked sets p || is_marked sets (statements f + owner_of (table_of f) p)) ≡ is_preceded (one_each (table_of f)) sets p
unfolding is_preceded entered one_each
preceded_is f sets p l =
    ap {B = Bool} (λ (x : ℕ). is_marked sets p || is_marked sets x)
    (ap₂ {C = ℕ} (λ (n q : ℕ). n + q) (sym (statements_length f)) (copy_of (table_of f) p (omega (arith, statements_length f))))

module _ {f : List ℤ} {w₀ w : List ℕ} {c p : ℕ} (r : Leaving f w₀ w c p) where
  -- the places that statement p looks at are as they were
  own_at : p < statements f → get_or w (statements f + p) 0 ≡ get_or (behind_in f w₀) p 0
  own_at l = r.rest (statements f + p) (λ h. omega arith) ∙ sym (behind_at f w₀ p (omega arith))

  routine_at_lem : (q : ℕ) → p < statements f → q < routines f → get_or w (statements f + statements f + q) 0 ≡ get_or (behind_in f w₀) (statements f + q) 0
  routine_at_lem q l b =
      r.rest (statements f + statements f + q) (λ h. omega arith)
      ∙ ap (λ (i : ℕ). get_or w₀ i 0) (shifted (statements f) q) ∙ sym (behind_at f w₀ (statements f + q) (omega arith))
    where
      shifted : (a b : ℕ) → a + a + b ≡ a + (a + b)
      shifted a b = omega arith

  pub leaving_next : {end c' all v : ℕ} → end ≡ statements f → all ≡ firsts (locks f) → p < end → c' ≡ owner_of (table_of f) p → Near f c' (p + 1)
      → v ≡ cond (is_marked w (end + p) || is_marked w (end + end + c')) (get_or w p 0) all → Leaving f w₀ (set w (end + p) v) c' (p + 1)
  unfolding is_marked
  leaving_next {end} {c'} {all} {v} is a h o near e =
      record {
        near = near;
        upto = omega arith;
        room = r.room;
        long = length-set w (end + p) v ∙ r.long;
        done = λ k b. at_done k b (eqb k p) refl;
        rest = λ i g. get_or-set_other w (end + p) i v 0 (λ q. not_here i g q) ∙ r.rest i (λ b. omega (arith, g b));
      }
    where
      l : p < statements f
      l = omega arith

      marks : (is_marked w (end + p) || is_marked w (end + end + c')) ≡ is_preceded (one_each (table_of f)) (behind_in f w₀) p
      marks =
          ap₂ {C = Bool} (λ (x y : ℕ). has x 0 || has y 0)
          (ap (λ (n : ℕ). get_or w (n + p) 0) is ∙ own_at l)
          (ap (λ (n : ℕ). get_or w (n + n + c') 0) is ∙ routine_at_lem c' l near.there ∙ ap (λ (q : ℕ). get_or (behind_in f w₀) (statements f + q) 0) o)
          ∙ preceded_is f (behind_in f w₀) p l

      value : v ≡ counted_at (table_of f) w₀ (behind_in f w₀) p
      value =
          e ∙ ap (λ (b : Bool). cond b (get_or w p 0) all) marks
          ∙ ap₂ {C = ℕ} (λ (x y : ℕ). cond (is_preceded (one_each (table_of f)) (behind_in f w₀) p) x y) (r.rest p (λ g. absurd (omega arith)))
          (a ∙ ap firsts (sym (locks_is f)))

      not_here : (i : ℕ) → (statements f ≤ i → statements f + (p + 1) ≤ i) → i ≡ end + p → ⊥
      not_here i g q = let m : statements f + (p + 1) ≤ i = g (omega arith) in omega arith

      at_done : (k : ℕ) → k < p + 1 → (b : Bool) → eqb k p ≡ b → get_or (set w (end + p) v) (statements f + k) 0 ≡ counted_at (table_of f) w₀ (behind_in f w₀) k
      at_done k b true q =
          let i : k ≡ p = eqb-true k p q in
          let j : statements f + k ≡ end + p = omega arith in
          ap (λ (n : ℕ). get_or (set w (end + p) v) n 0) j ∙ get_or-set_same w (end + p) v 0 (omega (arith, r.room, r.long))
          ∙ value ∙ ap (counted_at (table_of f) w₀ (behind_in f w₀)) (sym i)
      at_done k b false q =
          let d : k ≡ p → ⊥ = eqb-false k p q in
          get_or-set_other w (end + p) (statements f + k) v 0 (λ x. d (omega arith)) ∙ r.done k (omega arith)

  -- the sets of the statements stay
  pub leaving_before : take (statements f) w ≡ take (statements f) w₀
  leaving_before =
      is_tabulate (statements f) (λ k. get_or w₀ k 0) (take (statements f) w) 0 (length-take-le (statements f) w (omega (arith, r.room, r.long)))
      (λ k l. get_or-take (statements f) w k 0 l ∙ r.rest k (λ g. absurd (omega arith)))
      ∙ sym (is_tabulate (statements f) (λ k. get_or w₀ k 0) (take (statements f) w₀) 0 (length-take-le (statements f) w₀ (omega (arith, r.room)))
      (λ k l. get_or-take (statements f) w₀ k 0 l))

  pub leaving_done : statements f ≤ p → take (statements f) (drop (statements f) w) ≡ tabulate (statements f) (counted_at (table_of f) w₀ (behind_in f w₀))
  leaving_done h =
      is_tabulate (statements f) (counted_at (table_of f) w₀ (behind_in f w₀)) (take (statements f) (drop (statements f) w)) 0
      (length-take-le (statements f) (drop (statements f) w) (omega (arith, length-drop (statements f) w, r.room, r.long)))
      (λ k l. get_or-take (statements f) (drop (statements f) w) k 0 l ∙ get_or-drop (statements f) w k 0 ∙ r.done k (omega arith))

-- ---- a list whose places behind those of the statements were filled anew

module _ (f : List ℤ) (w : List ℕ) (n r : ℕ) (n_is : n ≡ statements f) (r_is : r ≡ routines f)
    (room : statements f + (statements f + routines f + 1) ≤ length w) where
  -- so many, as the code has their number
  abbrev many : ℕ
  many = n + (n + r + 1) - n

  many_is : many ≡ statements f + routines f + 1
  many_is = omega arith

  pub places_long : length (take many (drop n w)) ≡ statements f + routines f + 1
  places_long = part_long n many w (omega (arith, many_is)) ∙ many_is

  module _ (p : List ℕ) (e : length p ≡ length (take many (drop n w))) where
    pub put_long : statements f + (statements f + routines f + 1) ≤ length (put_mid n many w p)
    put_long = omega (arith, same_len_mid n many w p e)

    put_before : take (statements f) (put_mid n many w p) ≡ take (statements f) w
    put_before = put_first n many w (statements f) p n_is (omega arith)

    put_behind : behind_in f (put_mid n many w p) ≡ p
    put_behind =
        ap₂ {C = List ℕ} (λ (m i : ℕ). take m (drop i (put_mid n many w p))) (sym many_is) (sym n_is)
        ∙ ap {B = List ℕ} (take many) (drop_at (take n w) (p ++ drop many (drop n w)) n (length-take-le n w (omega arith)))
        ∙ take_at p (drop many (drop n w)) many (e ∙ places_long ∙ sym many_is)

    put_at_lem : (s : ℕ) → s < statements f → get_or (put_mid n many w p) s 0 ≡ get_or w s 0
    put_at_lem s l =
        sym (get_or-take (statements f) (put_mid n many w p) s 0 l) ∙ ap (λ (x : List ℕ). get_or x s 0) put_before ∙ get_or-take (statements f) w s 0 l

    -- what is left from it is left from the list before, by what was put there
    pub put_counted : (out q : List ℕ) → p ≡ q → take (statements f) out ≡ take (statements f) (put_mid n many w p)
        → take (statements f) (drop (statements f) out) ≡ tabulate (statements f) (counted_at (table_of f) (put_mid n many w p) (behind_in f (put_mid n many w p)))
        → (take (statements f) out ≡ take (statements f) w) × (take (statements f) (drop (statements f) out) ≡ tabulate (statements f) (counted_at (table_of f) w q))
    put_counted out q i before behind = (
      before ∙ put_before,
      behind
          ∙ tabulate_same (statements f) _ _
          (λ s l. ap₂ {C = ℕ} (λ (held : ℕ) (sets : List ℕ). cond (is_preceded (one_each (table_of f)) sets s) held (all_locks (table_of f))) (put_at_lem s l) (put_behind ∙ i)),
    )
