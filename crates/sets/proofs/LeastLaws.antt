-- What edges come to: the least list is closed under every edge, holds the start, and is inside every other such list. Assumes nothing.
use Rattle.std.specs.Prelude.{◌≡◌, refl, true, ℕ, zero, suc, ◌+◌, ◌*◌, ◌/◌, ◌%◌, ◌<◌, length, get_or}
use Rattle.std.proofs.Common.{sym, ap, ◌∙◌, subst, suc-le-suc, le_of_suc-le-suc, zero-lt-suc, arith}
use mathlib.Core.List.{List, [], ◌∷◌, map, Memᴰ}
use Rattle.sets.specs.Set.{has, inter}
use Rattle.sets.proofs.SetLaws.{inter_left, inter_right, in_both, inter_below, inter_same}
use Rattle.sets.specs.Least.{SetList, Inside, Steady, Edge, plain, edge_of, edges_of, put_into, along, pass_edges, least, Held, Closed}
use Rattle.sets.proofs.InsideLaws.{inside_refl, inside_trans, inside_equal}
use Rattle.sets.proofs.Rules.{put_length, put_grows, put_cases, put_sets, put_still, still_put, put_inside, put_monotone}
use Rattle.sets.proofs.Settled.{settled_sets, settled_closed, settled_holds_start, settled_inside, settled_induction}
use Rattle.sets.specs.LeastLaws.{edge_at}

-- ---- edges in numbers

pub edge_packed : (f t : ℕ) → t < 65536 → edge_of (f * 65536 + t) ≡ plain f t
unfolding edge_of
edge_packed f t h = let p : (f * 65536 + t) / 65536 ≡ f = omega arith in let q : (f * 65536 + t) % 65536 ≡ t = omega arith in rw (p, q)

-- where the second list is empty, all edges are plain
edges_plain : (ends : List ℕ) → edges_of ends [] ≡ map edge_of ends
unfolding edges_of
edges_plain [] = refl
edges_plain (n ∷ ends) = ap {B = List Edge} (λ (es : List Edge). edge_of n ∷ es) (edges_plain ends)

pub least_plain : (ends s : List ℕ) → least (edges_of ends []) s ≡ least (map edge_of ends) s
least_plain ends s = ap (λ (es : List Edge). least es s) (edges_plain ends)

pub number_edge : (ends also : List ℕ) (k : ℕ) → k < length ends → Memᴰ (edge_at ends also k) (edges_of ends also)
unfolding edges_of edge_at edge_of
number_edge [] also k h = absurd (omega arith)
number_edge (n ∷ ends) [] zero h = Memᴰ.head refl
number_edge (n ∷ ends) (a ∷ also) zero h = Memᴰ.head refl
number_edge (n ∷ ends) [] (suc k) h = Memᴰ.tail (number_edge ends [] k (le_of_suc-le-suc h))
number_edge (n ∷ ends) (a ∷ also) (suc k) h = Memᴰ.tail (number_edge ends also k (le_of_suc-le-suc h))

tail_closed : {e : Edge} {es : List Edge} {s : List ℕ} → Closed (e ∷ es) s → Closed es s
tail_closed c = record { edge = λ d m. c.edge d (Memᴰ.tail m) }

pub both_closed : {e : Edge} {es : List Edge} {s : List ℕ} → Held s e → Closed es s → Closed (e ∷ es) s
both_closed {e} {es} {s} h c = record { edge = go }
  where
    go : (d : Edge) → Memᴰ d (e ∷ es) → Held s d
    go d (Memᴰ.head q) = subst (Held s) (sym q) h
    go d (Memᴰ.tail m) = c.edge d m

-- closed, edge by edge
pub numbers_closed : (ends also s : List ℕ) → ((k : ℕ) → k < length ends → Held s (edge_at ends also k)) → Closed (edges_of ends also) s
unfolding edges_of edge_at edge_of
numbers_closed [] also s h = record { edge = λ d m. elim m [ ] }
numbers_closed (n ∷ ends) [] s h = both_closed (h 0 (zero-lt-suc (length ends))) (numbers_closed ends [] s (λ k b. h (suc k) (suc-le-suc b)))
numbers_closed (n ∷ ends) (a ∷ also) s h = both_closed (h 0 (zero-lt-suc (length ends))) (numbers_closed ends also s (λ k b. h (suc k) (suc-le-suc b)))

-- ---- one edge

module _ (e : Edge) (s : List ℕ) where
  abbrev both : ℕ
  both = inter (get_or s e.from 0) (get_or s e.also 0)

  pub along_length : length (along e s) ≡ length s
  unfolding along
  along_length = put_length e.to both s

  pub along_grows : Inside s (along e s)
  unfolding along
  along_grows = put_grows e.to both s

  -- an element that is there afterwards was there, or came along the edge
  pub along_cases {ℓ} : {C : Type ℓ} (i x : ℕ) → (has (get_or s i 0) x ≡ true → C)
      → (i ≡ e.to → e.to < length s → has (get_or s e.from 0) x ≡ true → has (get_or s e.also 0) x ≡ true → C)
      → has (get_or (along e s) i 0) x ≡ true → C
  unfolding along
  along_cases i x a b = put_cases e.to both s i x a (λ p l h. b p l (inter_left _ _ x h) (inter_right _ _ x h))

  pub along_sets : (n : ℕ) → SetList n s → SetList n (along e s)
  unfolding along
  along_sets n h = put_sets e.to both s n (inter_below 64 _ (h.below e.from)) h

  -- an edge that has nothing to put changes nothing, and the other way round
  held_still : Held s e → along e s ≡ s
  unfolding along
  held_still h = put_still e.to both s (λ l x b. h.carried l x (inter_left _ _ x b) (inter_right _ _ x b))

  pub still_held : along e s ≡ s → Held s e
  unfolding along
  still_held q = record { carried = λ l x a b. still_put e.to both s q l x (in_both _ _ x a b) }

  -- what is inside a list with nothing to put stays inside it
  pub along_inside : (r : List ℕ) → length s ≡ length r → Held r e → Inside s r → Inside (along e s) r
  unfolding along
  along_inside r l h a =
      put_inside e.to both s r l (λ m x b. h.carried m x (a.at e.from x (inter_left _ _ x b)) (a.at e.also x (inter_right _ _ x b))) a

along_monotone : (e : Edge) (s r : List ℕ) → length s ≡ length r → Inside s r → Inside (along e s) (along e r)
unfolding along
along_monotone e s r l a =
    put_monotone e.to (both e s) (both e r) s r l
    (λ x b. in_both _ _ x (a.at e.from x (inter_left _ _ x b)) (a.at e.also x (inter_right _ _ x b))) a

-- a plain edge puts the one set into the other
pub along_plain : (f t : ℕ) (s : List ℕ) → along (plain f t) s ≡ put_into t (get_or s f 0) s
unfolding along
along_plain f t s = ap (λ (x : ℕ). put_into t x s) (inter_same (get_or s f 0))

-- ---- a pass over the edges

pub pass_sets : (n : ℕ) (es : List Edge) (s : List ℕ) → SetList n s → SetList n (pass_edges es s)
unfolding pass_edges
pass_sets n [] s h = h
pass_sets n (e ∷ es) s h = pass_sets n es (along e s) (along_sets e s n h)

pub pass_grows : (es : List Edge) (s : List ℕ) → Inside s (pass_edges es s)
unfolding pass_edges
pass_grows [] s = inside_refl s
pass_grows (e ∷ es) s = inside_trans (along_grows e s) (pass_grows es (along e s))

pub pass_monotone : (es : List Edge) (s r : List ℕ) → length s ≡ length r → Inside s r → Inside (pass_edges es s) (pass_edges es r)
unfolding pass_edges
pass_monotone [] s r l a = a
pass_monotone (e ∷ es) s r l a =
    pass_monotone es (along e s) (along e r) (along_length e s ∙ l ∙ sym (along_length e r)) (along_monotone e s r l a)

edges_steady : (n : ℕ) (es : List Edge) → Steady n (pass_edges es)
edges_steady n es = record {
  keeps = λ s h. pass_sets n es s h;
  grows = λ s h. pass_grows es s;
  monotone = λ s t h k a. pass_monotone es s t (h.places ∙ sym k.places) a;
}

-- ---- a pass changes nothing just where every edge has nothing to put

pub closed_still : (es : List Edge) (s : List ℕ) → Closed es s → pass_edges es s ≡ s
unfolding pass_edges
closed_still [] s c = refl
closed_still (e ∷ es) s c = ap (pass_edges es) (held_still e s (c.edge e (Memᴰ.head refl))) ∙ closed_still es s (tail_closed c)

still_closed : (es : List Edge) (s : List ℕ) → pass_edges es s ≡ s → Closed es s
unfolding pass_edges
still_closed [] s q = record { edge = λ d m. elim m [ ] }
still_closed (e ∷ es) s q =
    let a : along e s ≡ s =
    inside_equal (along_length e s) (subst (λ (r : List ℕ). Inside (along e s) r) q (pass_grows es (along e s))) (along_grows e s) in
    both_closed (still_held e s a) (still_closed es s (ap (pass_edges es) (sym a) ∙ q))

-- ---- what goes along the edges

pass_carries : (n : ℕ) (P : ℕ → ℕ → Type 0) (es : List Edge) (r : List ℕ) → SetList n r
    → ((e : Edge) → Memᴰ e es → e.to < n → (x : ℕ) → P e.from x → P e.also x → P e.to x)
    → ((i x : ℕ) → has (get_or r i 0) x ≡ true → P i x)
    → (i x : ℕ) → has (get_or (pass_edges es r) i 0) x ≡ true → P i x
unfolding pass_edges
pass_carries n P [] r k f q = q
pass_carries n P (e ∷ es) r k f q =
    pass_carries n P es (along e r) (along_sets e r n k) (λ d m. f d (Memᴰ.tail m))
    (λ i x. along_cases e r i x (q i x)
    (λ p l g h. subst (λ (j : ℕ). P j x) (sym p) (f e (Memᴰ.head refl) (subst (λ (y : ℕ). e.to < y) k.places l) x (q e.from x g) (q e.also x h))))

-- ---- the least list

module _ (n : ℕ) (es : List Edge) (s : List ℕ) (h : SetList n s) where
  pub least_sets : SetList n (least es s)
  unfolding least
  least_sets = settled_sets n (pass_edges es) (edges_steady n es) s h

  pub least_holds_start : Inside s (least es s)
  unfolding least
  least_holds_start = settled_holds_start n (pass_edges es) (edges_steady n es) s h

  pub least_closed : Closed es (least es s)
  unfolding least
  least_closed = still_closed es (least es s) (settled_closed n (pass_edges es) (edges_steady n es) s h)

  -- an edge puts what is in both sets that it comes from into the one that it leads to
  pub least_edge : (e : Edge) → Memᴰ e es → e.to < n → (x : ℕ) → has (get_or (least es s) e.from 0) x ≡ true
      → has (get_or (least es s) e.also 0) x ≡ true → has (get_or (least es s) e.to 0) x ≡ true
  least_edge e m l = (least_closed.edge e m).carried (subst (λ (k : ℕ). e.to < k) (sym least_sets.places) l)

  -- inside every closed list that holds the start
  pub least_inside : (r : List ℕ) → SetList n r → Inside s r → Closed es r → Inside (least es s) r
  unfolding least
  least_inside r k a c =
      settled_inside n (pass_edges es) (edges_steady n es) s r h k a
      (subst (λ (x : List ℕ). Inside x r) (sym (closed_still es r c)) (inside_refl r))

  -- a closed list between the start and the least list is the least list, whatever way it was come to
  pub least_is : (r : List ℕ) → SetList n r → Inside s r → Inside r (least es s) → Closed es r → r ≡ least es s
  least_is r k a b c = inside_equal (k.places ∙ sym least_sets.places) b (least_inside r k a c)

  -- what holds of every element at the start, and goes along every edge, holds of every element of the least list
  pub least_induction : (P : ℕ → ℕ → Type 0)
      → ((e : Edge) → Memᴰ e es → e.to < n → (x : ℕ) → P e.from x → P e.also x → P e.to x)
      → ((i x : ℕ) → has (get_or s i 0) x ≡ true → P i x)
      → (i x : ℕ) → has (get_or (least es s) i 0) x ≡ true → P i x
  unfolding least
  least_induction P f p = settled_induction n (pass_edges es) (edges_steady n es) P (λ r k q. pass_carries n P es r k f q) s h p
