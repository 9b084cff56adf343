-- The solver's steps: an edge, a pass over the edges in any order, and passes until nothing changes. Assumes nothing.
use Rattle.std.proofs.Math.Path.{◌≡◌, refl, ap, subst}
use Rattle.std.proofs.Common.{sym, ◌∙◌, inl, ⊎_elim, le_of_suc-le-suc, lt_of_lt_of_le, lt_of_le_of_lt, get_or-set_same, eqb-true}
use Rattle.std.specs.Prelude.{Bool, ℕ, zero, suc, ◌+◌, ◌-◌, ◌^◌, ◌≤◌, ◌<◌, eqb, length}
use Rattle.std.proofs.Math.Bool.{true, false}
use mathlib.Core.List.{List, [], ◌∷◌}
use Rattle.std.proofs.Math.Logic.{inr}
use native.Mathlib.Omega.{arith}
use Rattle.std.proofs.Math.Arith.{lt_of_le-ne}
use Rattle.std.specs.Int.Bits.{bit_or, bit_and, or_zero_r, and_zero_l, and_zero_r}
use Rattle.std.proofs.Math.ListN.{get_or, set, get_or-eq_default}
use Rattle.std.proofs.Math.Seq.{set_out, set-get_or}
use Rattle.std.proofs.lemmas.Bool.{eqb-false}
use Rattle.sets.specs.Set.{union, inter}
use Rattle.sets.specs.Least.{SetList, Inside, room, Edge, edges_of, put_into, along, least, Held, Closed}
use Rattle.sets.proofs.InsideLaws.{inside_refl, inside_trans, inside_at, room_le, room_less}
use Rattle.sets.specs.LeastLaws.{edge_at}
use Rattle.sets.proofs.LeastLaws.{number_edge, numbers_closed, along_length, along_grows, along_sets, along_inside, still_held, least_sets, least_holds_start, least_closed, least_is}
use Rattle.passes.specs.Pass.{Put, Passed, Solving, Stepped}

-- ---- one edge

-- where the list stays, nothing changed
stayed : (e : Edge) (s : List ℕ) (b : Bool) → along e s ≡ s → Put e s s b b
stayed e s b q = record { becomes = sym q; still = λ h. (h, refl); moved = λ h. inl h }

module _ (f a t : ℕ) (s : List ℕ) (b : Bool) where
  abbrev e : Edge
  e = record { from = f; also = a; to = t }

  -- where one of the two sets is empty, nothing is put
  put_empty : inter (get_or s f 0) (get_or s a 0) ≡ 0 → Put e s s b b
  unfolding along put_into union
  put_empty q = stayed e s b (ap (λ (x : ℕ). set s t (bit_or (get_or s t 0) x)) q ∙ ap (set s t) (or_zero_r (get_or s t 0)) ∙ set-get_or s t 0)

  pub put_no_from : length s ≤ f → Put e s s b b
  unfolding inter
  put_no_from h = put_empty (ap (λ (x : ℕ). bit_and x (get_or s a 0)) (get_or-eq_default s 0 h) ∙ and_zero_l (get_or s a 0))

  pub put_no_also : length s ≤ a → Put e s s b b
  unfolding inter
  put_no_also h = put_empty (ap (bit_and (get_or s f 0)) (get_or-eq_default s 0 h) ∙ and_zero_r (get_or s f 0))

  pub put_no_to : length s ≤ t → Put e s s b b
  unfolding along put_into
  put_no_to h = stayed e s b (set_out s t (union (get_or s t 0) (inter (get_or s f 0) (get_or s a 0))) h)

  pub put_nothing : bit_or (get_or s t 0) (bit_and (get_or s f 0) (get_or s a 0)) ≡ get_or s t 0 → Put e s s b b
  unfolding along put_into union inter
  put_nothing q = stayed e s b (ap (set s t) q ∙ set-get_or s t 0)

  pub put_more : t < length s → ((i : ℕ) → get_or s i 0 < 2 ^ 64) → (bit_or (get_or s t 0) (bit_and (get_or s f 0) (get_or s a 0)) ≡ get_or s t 0 → ⊥)
      → Put e s (set s t (bit_or (get_or s t 0) (bit_and (get_or s f 0) (get_or s a 0)))) b true
  unfolding along put_into union inter
  put_more l h d =
      let k : SetList (length s) s = record { places = refl; below = h } in
      record {
        becomes = refl;
        still = λ q. absurd (let z : ◌≡◌ {A = ℕ} 0 1 = cc in omega arith);
        moved = λ q. inr (room_less k (along_sets e s (length s) k) (along_grows e s)
            (λ q. d (sym (get_or-set_same s t (bit_or (get_or s t 0) (bit_and (get_or s f 0) (get_or s a 0))) 0 l) ∙ ap (λ (r : List ℕ). get_or r t 0) (sym q))));
      }

-- the same with the places written another way
pub put_as : {f a t : ℕ} {e : Edge} {s₀ s : List ℕ} {b b' : Bool} → f ≡ e.from → a ≡ e.also → t ≡ e.to
    → Put (record { from = f; also = a; to = t }) s₀ s b b' → Put e s₀ s b b'
put_as {f} {a} {t} {e} {s₀} {s} {b} {b'} p o q h = rw (p, o, q) at h

-- what stands at a place of a list does not hang on what stands past its end
pub inside_any : (l : List ℕ) (k a b : ℕ) → k < length l → get_or l k a ≡ get_or l k b
inside_any [] k a b h = absurd (omega arith)
inside_any (x ∷ l) zero a b h = refl
inside_any (x ∷ l) (suc k) a b h = inside_any l k a b (le_of_suc-le-suc h)

-- ---- a pass

-- what is left to do: the room, and one more while going on
flag : Bool → ℕ
flag b = elim b [ true ↦ 1 | false ↦ 0 ]

pub left : List ℕ → Bool → ℕ
left s going = room s + flag going

module _ (edges also : List ℕ) where
  pub passed_start : (s : List ℕ) (lo hi : ℕ) → hi ≤ lo → Passed edges also s s false lo hi
  passed_start s lo hi h = record {
    places = refl;
    holds = inside_refl s;
    within = λ r l c a. a;
    still = λ e. (refl, λ k a b. absurd (omega arith));
    moved = λ e. absurd (let z : ◌≡◌ {A = ℕ} 0 1 = cc in omega arith);
  }

  -- the same with the bounds written another way
  pub passed_as : {s₀ s : List ℕ} {b : Bool} {lo hi lo' hi' : ℕ} → lo ≡ lo' → hi ≡ hi' → Passed edges also s₀ s b lo hi → Passed edges also s₀ s b lo' hi'
  passed_as {s₀} {s} {b} {lo} {hi} {lo'} {hi'} p q h =
      subst (λ (x : ℕ). Passed edges also s₀ s b x hi') p (subst (λ (x : ℕ). Passed edges also s₀ s b lo x) q h)

  -- edge j more
  pub passed_next : {s₀ s s' : List ℕ} {before after : Bool} {lo hi : ℕ} (j lo' hi' : ℕ)
      → ((k : ℕ) → (k ≡ j → ⊥) → lo' ≤ k → k < hi' → (lo ≤ k) × (k < hi)) → j < length edges
      → Passed edges also s₀ s before lo hi → Put (edge_at edges also j) s s' before after → Passed edges also s₀ s' after lo' hi'
  passed_next {s₀} {s} {s'} {before} {after} {lo} {hi} j lo' hi' rest jb p q =
      let e : Edge = edge_at edges also j in
      let len : length s' ≡ length s = ap length q.becomes ∙ along_length e s in
      let grown : Inside s s' = subst (Inside s) (sym q.becomes) (along_grows e s) in
      let less : room s' ≤ room s = room_le s s' (sym len) grown in
      let less₀ : room s ≤ room s₀ = room_le s₀ s (sym p.places) p.holds in
      record {
        places = len ∙ p.places;
        holds = inside_trans p.holds grown;
        within = λ r l c a.
            subst (λ (x : List ℕ). Inside x r) (sym q.becomes)
            (along_inside e s r (p.places ∙ l) (c.edge e (number_edge edges also j jb)) (p.within r l c a));
        still = λ e.
            let was : before ≡ false = (q.still e).0 in
            let same : s' ≡ s = (q.still e).1 in
            let same₀ : s ≡ s₀ = (p.still was).0 in
            (same ∙ same₀, λ k a b. here same same₀ (p.still was).1 k a b (eqb k j) refl);
        moved = λ e. ⊎_elim (λ b. lt_of_le_of_lt less (p.moved b)) (λ m. lt_of_lt_of_le m less₀) (q.moved e);
      }
    where
      here : s' ≡ s → s ≡ s₀ → ((k : ℕ) → lo ≤ k → k < hi → Held s₀ (edge_at edges also k)) → (k : ℕ) → lo' ≤ k → k < hi'
          → (b : Bool) → eqb k j ≡ b → Held s₀ (edge_at edges also k)
      here same same₀ h k a b true e =
          subst (λ (i : ℕ). Held s₀ (edge_at edges also i)) (sym (eqb-true k j e))
          (subst (λ (r : List ℕ). Held r (edge_at edges also j)) same₀ (still_held (edge_at edges also j) s (sym q.becomes ∙ same)))
      here same same₀ h k a b false e = let r : (lo ≤ k) × (k < hi) = rest k (eqb-false k j e) a b in h k r.0 r.1

  -- the next edge upwards, and the next one downwards
  pub passed_up : {s₀ s s' : List ℕ} {before after : Bool} (k : ℕ) → k < length edges
      → Passed edges also s₀ s before 0 k → Put (edge_at edges also k) s s' before after → Passed edges also s₀ s' after 0 (k + 1)
  passed_up k h p q = passed_next k 0 (k + 1) (λ i d a b. (omega arith, lt_of_le-ne (omega arith) d)) (omega arith) p q

  pub passed_down : {s₀ s s' : List ℕ} {before after : Bool} (k : ℕ) {m : ℕ} → k < length edges
      → Passed edges also s₀ s before (k + 1) m → Put (edge_at edges also k) s s' before after → Passed edges also s₀ s' after k m
  passed_down k {m} h p q = passed_next k k m (λ i d a b. (above i d a, b)) (omega arith) p q
    where
      above : (i : ℕ) → (i ≡ k → ⊥) → k ≤ i → k + 1 ≤ i
      above i d a = let l : k < i = lt_of_le-ne a (λ e. d (sym e)) in omega arith

  -- two edges at once
  pub passed_up_two : {s₀ s s' s'' : List ℕ} {b b' b'' : Bool} (k : ℕ) → k + 1 < length edges → Passed edges also s₀ s b 0 k
      → Put (edge_at edges also k) s s' b b' → Put (edge_at edges also (k + 1)) s' s'' b' b'' → Passed edges also s₀ s'' b'' 0 (k + 2)
  passed_up_two k h p q r = passed_as refl (omega arith) (passed_up (k + 1) h (passed_up k (omega arith) p q) r)

  pub passed_down_two : {s₀ s s' s'' : List ℕ} {b b' b'' : Bool} (k : ℕ) {m : ℕ} → 1 < k → k ≤ length edges → Passed edges also s₀ s b k m
      → Put (edge_at edges also (k - 1)) s s' b b' → Put (edge_at edges also (k - 2)) s' s'' b' b'' → Passed edges also s₀ s'' b'' (k - 2) m
  passed_down_two {s₀} {s} {s'} {s''} {b} {b'} {b''} k {m} z h p q r =
      let e : k ≡ k - 1 + 1 = omega arith in
      let e₂ : k - 1 ≡ k - 2 + 1 = omega arith in
      passed_down (k - 2) (omega arith) (passed_as e₂ refl (passed_down (k - 1) (omega arith) (passed_as e refl p) q)) r

  -- ---- passes until nothing changes

  pub solving_start : (s : List ℕ) → Solving edges also s s true
  solving_start s = record {
    places = refl;
    holds = inside_refl s;
    within = λ r l c a. a;
    closed = λ e. absurd (let z : ◌≡◌ {A = ℕ} 0 1 = cc in omega arith);
  }

  -- an edge more
  pub solving_put : {s₀ s s' : List ℕ} {before after : Bool} (j : ℕ) → j < length edges → Solving edges also s₀ s true
      → Put (edge_at edges also j) s s' before after → Solving edges also s₀ s' true
  solving_put {s₀} {s} {s'} j jb h q =
      let e : Edge = edge_at edges also j in
      record {
        places = ap length q.becomes ∙ along_length e s ∙ h.places;
        holds = inside_trans h.holds (subst (Inside s) (sym q.becomes) (along_grows e s));
        within = λ r l c a.
            subst (λ (x : List ℕ). Inside x r) (sym q.becomes)
            (along_inside e s r (h.places ∙ l) (c.edge e (number_edge edges also j jb)) (h.within r l c a));
        closed = λ e. absurd (let z : ◌≡◌ {A = ℕ} 0 1 = cc in omega arith);
      }

  -- one part after another
  pub solving_both : {s₀ s s' : List ℕ} {b b' : Bool} → Solving edges also s₀ s b → Solving edges also s s' b' → Solving edges also s₀ s' b'
  solving_both h p = record {
    places = p.places ∙ h.places;
    holds = inside_trans h.holds p.holds;
    within = λ r l c a. p.within r (h.places ∙ l) c (h.within r l c a);
    closed = p.closed;
  }

  pub solving_done : {s₀ s : List ℕ} {b : Bool} → ((i : ℕ) → get_or s₀ i 0 < 2 ^ 64) → b ≡ false → Solving edges also s₀ s b → s ≡ least (edges_of edges also) s₀
  solving_done {s₀} {s} h e p =
      let n : ℕ = length s₀ in
      let es : List Edge = edges_of edges also in
      let k₀ : SetList n s₀ = record { places = refl; below = h } in
      let all : SetList n (least es s₀) = least_sets n es s₀ k₀ in
      let inner : Inside s (least es s₀) =
      p.within (least es s₀) (sym all.places) (least_closed n es s₀ k₀) (least_holds_start n es s₀ k₀) in
      let k : SetList n s = record { places = p.places; below = λ i. lt_of_le_of_lt (inside_at inner i) (all.below i) } in
      least_is n es s₀ k₀ s k p.holds inner (p.closed e)

  -- ---- steps

  -- a pass is a step
  pub pass_step : {s s' : List ℕ} {b : Bool} → Passed edges also s s' b 0 (length edges) → Stepped edges also s s' b
  pass_step {s} {s'} p = record {
    solving = record {
      places = p.places;
      holds = p.holds;
      within = p.within;
      closed = λ e. subst (Closed (edges_of edges also)) (sym (p.still e).0) (numbers_closed edges also s (λ k b. (p.still e).1 k (omega arith) b));
    };
    less = λ e. p.moved e;
  }

  -- and so is one with the worklist behind it, where it changed something
  pub worklist_step : {s s' s'' : List ℕ} {b : Bool} → b ≡ true → Stepped edges also s s' b → Solving edges also s' s'' true → Stepped edges also s s'' b
  worklist_step {s} {s'} {s''} e p q =
      let less : room s'' ≤ room s' = room_le s' s'' (sym q.places) q.holds in
      record { solving = subst (Solving edges also s s'') (sym e) (solving_both p.solving q); less = λ c. lt_of_le_of_lt less (p.less c) }

  -- what is left to do falls with every step
  pub step_less : {s s' : List ℕ} {b b' : Bool} → b ≡ true → Stepped edges also s s' b' → left s' b' < left s b
  unfolding left flag
  step_less {s} {s'} {b} {b'} e p = subst (λ (x : Bool). left s' b' < left s x) (sym e) (go b' p)
    where
      go : (y : Bool) → Stepped edges also s s' y → left s' y < left s true
      go true q = let less : room s' < room s = q.less refl in omega arith
      go false q = let less : room s' ≤ room s = room_le s s' (sym q.solving.places) q.solving.holds in omega arith
