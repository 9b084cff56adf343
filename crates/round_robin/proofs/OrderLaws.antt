-- Edges in such an order that one pass settles them, and in front of them edges from places to which none leads: two passes settle both. Assumes nothing.
use Rattle.std.specs.Prelude.{◌≡◌, refl, true, ℕ, ◌<◌, length, get_or}
use Rattle.std.proofs.Common.{sym, ap, ◌∙◌, subst, ⊎_elim}
use mathlib.Core.List.Memᴰ
use mathlib.Core.List.{List, [], ◌∷◌, ◌++◌, Memᴰ}
use Rattle.sets.specs.Set.{has}
use Rattle.sets.proofs.Rules.{put_elsewhere}
use Rattle.sets.specs.Least.{SetList, Inside, Edge, along, pass_edges, Held, Closed, least}
use Rattle.sets.proofs.InsideLaws.{inside_trans, inside_equal}
use Rattle.sets.proofs.LeastLaws.{both_closed, along_length, along_grows, along_cases, least_is, least_sets, least_holds_start, least_closed}
use Rattle.round_robin.specs.RoundRobin.{pass_down}
use Rattle.round_robin.proofs.PassLaws.{along_puts, down_inside, down_append, closed_down, down_sets, down_grows}

-- edge d comes from a place to which e does not lead
pub record Apart (e d : Edge) : Type 0 where
  pub from : d.from ≡ e.to → ⊥
  pub also : d.also ≡ e.to → ⊥

-- no edge leads to where it comes from, or where one behind it comes from
pub data Ordered : List Edge → Type 0 where
  none : Ordered []
  more : {e : Edge} {es : List Edge} → ((d : Edge) → Memᴰ d (e ∷ es) → Apart e d) → Ordered es → Ordered (e ∷ es)

-- edges that lead to where none of them comes from are in order
apart_ordered : (c : List Edge) → ((e d : Edge) → Memᴰ e c → Memᴰ d c → Apart e d) → Ordered c
apart_ordered [] f = none
apart_ordered (e ∷ c) f = more (λ d m. f e d (Memᴰ.head refl) m) (apart_ordered c (λ g d m k. f g d (Memᴰ.tail m) (Memᴰ.tail k)))

-- parts, one behind the other
pub ordered_append : (a b : List Edge) → ((e d : Edge) → Memᴰ e a → Memᴰ d (a ++ b) → Apart e d) → Ordered b → Ordered (a ++ b)
ordered_append [] b f o = o
ordered_append (e ∷ a) b f o =
    more (λ d m. f e d (Memᴰ.head refl) m) (ordered_append a b (λ g d m k. f g d (Memᴰ.tail m) (Memᴰ.tail k)) o)

-- ---- an edge

module _ (e : Edge) (s : List ℕ) where
  elsewhere : (i : ℕ) → (i ≡ e.to → ⊥) → get_or (along e s) i 0 ≡ get_or s i 0
  unfolding along
  elsewhere i d = put_elsewhere e.to _ s i d

  before : (i x : ℕ) → (i ≡ e.to → ⊥) → has (get_or (along e s) i 0) x ≡ true → has (get_or s i 0) x ≡ true
  before i x d h = ap (λ (y : ℕ). has y x) (sym (elsewhere i d)) ∙ h

  there : (d : Edge) → d.to < length (along e s) → d.to < length s
  there d l = subst (λ (n : ℕ). d.to < n) (along_length e s) l

  -- what has nothing to put still has nothing, where the edge leads elsewhere
  apart_held : (d : Edge) → Apart e d → Held s d → Held (along e s) d
  apart_held d p h = record {
    carried = λ l x a b. (along_grows e s).at d.to x (h.carried (there d l) x (before d.from x p.from a) (before d.also x p.also b));
  }

  -- and the edge itself has put all it has
  put_held : Apart e e → Held (along e s) e
  put_held p = record { carried = λ l x a b. along_puts e s (there e l) x (before e.from x p.from a) (before e.also x p.also b) }

-- ---- a pass

-- it leaves what has nothing to put, where its edges lead elsewhere
down_held : (es : List Edge) (s : List ℕ) (d : Edge) → ((e : Edge) → Memᴰ e es → Apart e d) → Held s d → Held (pass_down es s) d
unfolding pass_down
down_held [] s d f h = h
down_held (e ∷ es) s d f h = apart_held e (pass_down es s) d (f e (Memᴰ.head refl)) (down_held es s d (λ g m. f g (Memᴰ.tail m)) h)

-- one pass settles edges in order
ordered_closes : {es : List Edge} (s : List ℕ) → Ordered es → Closed es (pass_down es s)
unfolding pass_down
ordered_closes s none = record { edge = λ d m. elim m [ ] }
ordered_closes s (more {e} {es} f o) =
    both_closed (put_held e (pass_down es s) (f e (Memᴰ.head refl)))
    (record { edge = λ d m. apart_held e (pass_down es s) d (f d (Memᴰ.tail m)) ((ordered_closes s o).edge d m) })

-- ---- edges of which none leads to where one comes from, in any order

-- two edges the one way round lead inside the other way round
exchange_inside : (e d : Edge) (s : List ℕ) → Apart d e → Inside (along e (along d s)) (along d (along e s))
exchange_inside e d s p = record {
  at = λ i x. along_cases e (along d s) i x
      (along_cases d s i x (λ h. grown i x ((along_grows e s).at i x h))
      (λ q l a b. subst (λ (j : ℕ). has (get_or (along d (along e s)) j 0) x ≡ true) (sym q)
      (along_puts d (along e s) (subst (λ (n : ℕ). d.to < n) (sym (along_length e s)) l) x ((along_grows e s).at d.from x a) ((along_grows e s).at d.also x b))))
      (λ q l a b. subst (λ (j : ℕ). has (get_or (along d (along e s)) j 0) x ≡ true) (sym q)
      (grown e.to x (along_puts e s (there d s e l) x (before d s e.from x p.from a) (before d s e.also x p.also b))));
}
  where
    grown : (i x : ℕ) → has (get_or (along e s) i 0) x ≡ true → has (get_or (along d (along e s)) i 0) x ≡ true
    grown i x h = (along_grows d (along e s)).at i x h

exchange : (e d : Edge) (s : List ℕ) → Apart e d → Apart d e → along e (along d s) ≡ along d (along e s)
exchange e d s p q =
    inside_equal (along_length e (along d s) ∙ along_length d s ∙ sym (along_length d (along e s) ∙ along_length e s))
    (exchange_inside e d s q) (exchange_inside d e s p)

-- an edge may come before the others or behind them
exchange_all : (e : Edge) (es : List Edge) (s : List ℕ) → ((d : Edge) → Memᴰ d es → Apart e d × Apart d e) → pass_down es (along e s) ≡ along e (pass_down es s)
unfolding pass_down
exchange_all e [] s f = refl
exchange_all e (d ∷ es) s f =
    let p = f d (Memᴰ.head refl) in
    ap (along d) (exchange_all e es s (λ g m. f g (Memᴰ.tail m))) ∙ sym (exchange e d (pass_down es s) p.0 p.1)

-- a pass from the first to the last is one from the last to the first
pub any_order : (es : List Edge) (s : List ℕ) → ((e d : Edge) → Memᴰ e es → Memᴰ d es → Apart e d) → pass_edges es s ≡ pass_down es s
unfolding pass_down pass_edges
any_order [] s f = refl
any_order (e ∷ es) s f =
    any_order es (along e s) (λ g d m k. f g d (Memᴰ.tail m) (Memᴰ.tail k))
    ∙ exchange_all e es s (λ d m. (f e d (Memᴰ.head refl) (Memᴰ.tail m), f d e (Memᴰ.tail m) (Memᴰ.head refl)))

-- ---- two passes

module _ (a b : List Edge) (apart : (e d : Edge) → Memᴰ e (a ++ b) → Memᴰ d a → Apart e d) (order : Ordered b) where
  abbrev pass : List ℕ → List ℕ
  pass = pass_down (a ++ b)

  -- the first pass settles the edges in front
  front_closed : (s : List ℕ) → Closed a (pass s)
  front_closed s =
      subst (Closed a) (sym (down_append a b s)) (ordered_closes (pass_down b s) (apart_ordered a (λ e d m k. apart e d (Memᴰ.append_left b m) k)))

  -- the second settles those behind, and the edges in front stay settled
  both_settled : (s : List ℕ) → Closed (a ++ b) (pass_down b (pass s))
  both_settled s = record {
    edge = λ d m. ⊎_elim
        (λ k. down_held b (pass s) d (λ e n. apart e d (Memᴰ.append_right a n) k) ((front_closed s).edge d k))
        (λ k. (ordered_closes (pass s) order).edge d k)
        (Memᴰ.append_cases a m);
  }

  second : (s : List ℕ) → pass (pass s) ≡ pass_down b (pass s)
  second s =
      down_append a b (pass s)
      ∙ closed_down a (pass_down b (pass s)) (record { edge = λ d m. (both_settled s).edge d (Memᴰ.append_left b m) })

  -- two passes leave the least list
  pub two_passes : (n : ℕ) (s : List ℕ) → SetList n s → pass (pass s) ≡ least (a ++ b) s
  two_passes n s h =
      let l : SetList n (least (a ++ b) s) = least_sets n (a ++ b) s h in
      let in_one : (r : List ℕ) → SetList n r → Inside r (least (a ++ b) s) → Inside (pass r) (least (a ++ b) s) =
      λ r k i. down_inside (a ++ b) r (least (a ++ b) s) (k.places ∙ sym l.places) (least_closed n (a ++ b) s h) i in
      let one : SetList n (pass s) = down_sets n (a ++ b) s h in
      least_is n (a ++ b) s h (pass (pass s)) (down_sets n (a ++ b) (pass s) one)
      (inside_trans (down_grows (a ++ b) s) (down_grows (a ++ b) (pass s)))
      (in_one (pass s) one (in_one s h (least_holds_start n (a ++ b) s h)))
      (subst (Closed (a ++ b)) (sym (second s)) (both_settled s))
