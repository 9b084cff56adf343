-- The solver's steps: an edge, a pass, and passes until one changes nothing. Assumes nothing.
use Rattle.std.proofs.Math.Path.{◌≡◌, refl, ap}
use Rattle.std.proofs.Common.{sym, ◌∙◌, subst, le_of_suc-le-suc, arith, drop-cons}
use Rattle.std.specs.Prelude.{Bool, true, false, not, cond, get_or, set, drop}
use Rattle.std.proofs.Math.Logic.{⊎_elim}
use mathlib.Core.List.{List, [], ◌∷◌, map, Memᴰ}
use Prim.Native.Nat.{ℕ, zero, suc, ◌+◌, ◌^◌, ◌≤◌, ◌<◌, max}
use Rattle.std.proofs.Math.Nat.{zero-add, le_refl, lt_of_le_of_lt, lt_of_lt_of_le}
use Rattle.std.specs.Int.Bits.{bit_or, bit_and}
use Rattle.std.proofs.Math.ListN.{length}
use Rattle.std.proofs.Math.Seq.{drop-length}
use Rattle.sets.specs.Set.{inter}
use Rattle.sets.proofs.SetLaws.{inter_same}
use Rattle.sets.specs.Least.{SetList, Inside, Edge, edge_of, plain, along, same, room, settle, settled}
use Rattle.sets.proofs.InsideLaws.{same_true, same_refl, room_le, room_less}
use Rattle.sets.proofs.LeastLaws.{along_length, along_grows}
use Rattle.sets.proofs.Settled.{stops, goes}
use Rattle.passes.specs.Pass.{Put}
use Rattle.passes.specs.PassLaws.{put_nothing, put_more}
use Rattle.round_robin.specs.Onward.{PassedTo, Onward}
use Rattle.round_robin.specs.RoundRobin.{pass_down, counted, passes_made, Among}
use Rattle.round_robin.proofs.PassLaws.{down_sets, down_grows}
use Rattle.round_robin.proofs.CountLaws.{counted_stops, counted_goes, made_few}

-- ---- an edge

-- edge k is one of the edges
edge_there : (edges : List ℕ) (k : ℕ) → k < length edges → Memᴰ (edge_of (get_or edges k 0)) (map edge_of edges)
edge_there [] k h = absurd (omega arith)
edge_there (n ∷ edges) zero h = Memᴰ.head refl
edge_there (n ∷ edges) (suc k) h = Memᴰ.tail (edge_there edges k (le_of_suc-le-suc h))

-- so its ends are in the list, however that was changed
pub ends_in_lem : {n m : ℕ} → m ≡ n → (edges : List ℕ) (k : ℕ) → Among n (map edge_of edges) → k < length edges
    → ((edge_of (get_or edges k 0)).from < m) × ((edge_of (get_or edges k 0)).to < m)
ends_in_lem e edges k a h = rw e (a.from _ (edge_there edges k h), a.to _ (edge_there edges k h))

-- a plain edge meets the set that it comes from
met : (f t : ℕ) (s : List ℕ) → bit_or (get_or s t 0) (bit_and (get_or s f 0) (get_or s f 0)) ≡ bit_or (get_or s t 0) (get_or s f 0)
unfolding inter
met f t s = ap (bit_or (get_or s t 0)) (inter_same (get_or s f 0))

module _ (f t : ℕ) (s : List ℕ) (b : Bool) where
  pub plain_nothing : bit_or (get_or s t 0) (get_or s f 0) ≡ get_or s t 0 → Put (plain f t) s s b b
  plain_nothing q = put_nothing f f t s b (met f t s ∙ q)

  pub plain_more : t < length s → ((i : ℕ) → get_or s i 0 < 2 ^ 64) → (bit_or (get_or s t 0) (get_or s f 0) ≡ get_or s t 0 → ⊥)
      → Put (plain f t) s (set s t (bit_or (get_or s t 0) (get_or s f 0))) b true
  plain_more l h d = subst (λ (x : ℕ). Put (plain f t) s (set s t x) b true) (met f t s) (put_more f f t s b l h (λ q. d (sym (met f t s) ∙ q)))

pub put_places : {e : Edge} {s s' : List ℕ} {b b' : Bool} → Put e s s' b b' → length s' ≡ length s
put_places {e} {s} h = ap length h.becomes ∙ along_length e s

-- ---- a pass

module _ (edges s₀ : List ℕ) where
  passed_start : PassedTo edges s₀ s₀ false (length edges)
  unfolding pass_down
  passed_start = record {
    inside = le_refl _;
    places = refl;
    is = ap (λ (l : List ℕ). pass_down (map edge_of l) s₀) (sym (drop-length edges));
    still = λ e. refl;
    moved = λ e. absurd (let z : ◌≡◌ {A = ℕ} 0 1 = cc in omega arith);
  }

  passed_next : {s s' : List ℕ} {before after : Bool} (k : ℕ) → PassedTo edges s₀ s before (suc k) → Put (edge_of (get_or edges k 0)) s s' before after
      → PassedTo edges s₀ s' after k
  unfolding pass_down
  passed_next {s} {s'} {before} {after} k p q =
      let e : Edge = edge_of (get_or edges k 0) in
      let len : length s' ≡ length s = put_places q in
      let less : room s' ≤ room s = room_le s s' (sym len) (subst (Inside s) (sym q.becomes) (along_grows e s)) in
      let less₀ : room s ≤ room s₀ = room_le s₀ s (sym p.places) (subst (Inside s₀) (sym p.is) (down_grows (map edge_of (drop (suc k) edges)) s₀)) in
      record {
        inside = omega (arith, p.inside);
        places = len ∙ p.places;
        is = q.becomes ∙ ap (along e) p.is ∙ ap (λ (l : List ℕ). pass_down (map edge_of l) s₀) (sym (drop-cons edges k 0 p.inside));
        still = λ h. (q.still h).1 ∙ p.still (q.still h).0;
        moved = λ h. ⊎_elim (λ b. lt_of_le_of_lt less (p.moved b)) (λ m. lt_of_lt_of_le m less₀) (q.moved h);
      }

  -- whether anything changed
  passed_changed : {s : List ℕ} (b : Bool) → (b ≡ false → s ≡ s₀) → (b ≡ true → room s < room s₀) → b ≡ not (same s s₀)
  passed_changed {s} false still moved = ap not (sym (ap (λ (r : List ℕ). same r s₀) (still refl) ∙ same_refl s₀))
  passed_changed {s} true still moved = go (same s s₀) refl
    where
      go : (c : Bool) → same s s₀ ≡ c → true ≡ not (same s s₀)
      go true e = let k : room s < room s₀ = moved refl in let q : room s ≡ room s₀ = ap room (same_true s s₀ e) in absurd (omega arith)
      go false e = ap not (sym e)

  passed_done : {s : List ℕ} {b : Bool} → PassedTo edges s₀ s b 0 → (s ≡ pass_down (map edge_of edges) s₀) × (b ≡ not (same s s₀))
  passed_done {s} {b} p = (p.is, passed_changed b p.still p.moved)

module _ (edges : List ℕ) where
  pub onward_none : (k : ℕ) (s : List ℕ) (b : Bool) → Onward edges k k s s b b
  onward_none k s b = record { places = refl; then = λ s₀ p. p }

  -- the same with the bound written another way
  pub onward_to : {i k j : ℕ} {s s' : List ℕ} {a b : Bool} → k ≡ j → Onward edges i k s s' a b → Onward edges i j s s' a b
  onward_to {i} {k} {j} {s} {s'} {a} {b} e h = subst (λ (x : ℕ). Onward edges i x s s' a b) e h

  -- one edge more
  pub onward_next : {i k : ℕ} {s s' s'' : List ℕ} {a b c : Bool} (j : ℕ) → k ≡ suc j → Onward edges i k s s' a b → Put (edge_of (get_or edges j 0)) s' s'' b c
      → Onward edges i j s s'' a c
  onward_next j e h q = record { places = put_places q ∙ h.places; then = λ s₀ p. passed_next edges s₀ j ((onward_to e h).then s₀ p) q }

  -- some more
  pub onward_both : {i k j : ℕ} {s s' s'' : List ℕ} {a b c : Bool} → Onward edges i k s s' a b → Onward edges k j s' s'' b c → Onward edges i j s s'' a c
  onward_both h q = record { places = q.places ∙ h.places; then = λ s₀ p. q.then s₀ (h.then s₀ p) }

  -- all of them
  pub onward_done : {s s' : List ℕ} {b : Bool} → Onward edges (length edges) 0 s s' false b → (s' ≡ pass_down (map edge_of edges) s) × (b ≡ not (same s' s))
  onward_done {s} h = passed_done edges s (h.then s (passed_start edges s))

-- ---- passes until one changes nothing

-- k passes were made. While each of them changed something, what is left to do gives the whole; behind the one that changed nothing all is done
pub record Going (edges s₀ s : List ℕ) (k m : ℕ) : Type 0 where
  pub room_left : room s ≤ m
  pub settles : settle (pass_down (map edge_of edges)) m s ≡ settled (pass_down (map edge_of edges)) s₀
  pub counts : k + counted (pass_down (map edge_of edges)) (suc m) s ≡ passes_made (pass_down (map edge_of edges)) s₀

pub record Made (edges s₀ s : List ℕ) (k : ℕ) (going : Bool) : Type 0 where
  pub sets : SetList (length s₀) s
  pub on : going ≡ true → (m : ℕ) × Going edges s₀ s k m
  pub done : going ≡ false → (s ≡ settled (pass_down (map edge_of edges)) s₀) × (k ≡ passes_made (pass_down (map edge_of edges)) s₀)

-- what is left to do: the room, and one more while going on
abbrev pub left : List ℕ → Bool → ℕ
left s going = room s + cond going 1 0

module _ (edges s₀ : List ℕ) where
  abbrev down : List ℕ → List ℕ
  down = pass_down (map edge_of edges)

  pub made_start : ((i : ℕ) → get_or s₀ i 0 < 2 ^ 64) → Made edges s₀ s₀ 0 true
  unfolding settled passes_made
  made_start below = record {
    sets = record { places = refl; below = below };
    on = λ e. (room s₀, record { room_left = le_refl _; settles = refl; counts = zero-add _ });
    done = λ e. absurd (let z : ◌≡◌ {A = ℕ} 0 1 = cc in omega arith);
  }

  -- while it goes on, fewer passes were made than there will be, and so than there are places, or one
  pub made_below : {s : List ℕ} {k : ℕ} → Made edges s₀ s k true → k < max 1 (length s₀)
  made_below {s} {k} h =
      let g = h.on refl in
      omega (arith, some g.0 (same (down s) s) refl, g.1.counts, made_few (map edge_of edges) s₀)
    where
      some : (m : ℕ) (b : Bool) → same (down s) s ≡ b → 1 ≤ counted down (suc m) s
      some m true e = omega (arith, counted_stops down m s e)
      some m false e = omega (arith, counted_goes down m s e)

  settle_stays : (m : ℕ) (s : List ℕ) → same (down s) s ≡ true → settle down m s ≡ s
  unfolding settle
  settle_stays zero s x = refl
  settle_stays (suc m) s x = stops down m s x

  module _ {s s' : List ℕ} {k : ℕ} (h : Made edges s₀ s k true) (e : s' ≡ down s) where
    -- a pass that changes something leaves less room
    changed_less : same s' s ≡ false → room s' < room s
    changed_less d =
        subst (λ (r : List ℕ). room r < room s) (sym e)
        (room_less h.sets (down_sets (length s₀) (map edge_of edges) s h.sets) (down_grows (map edge_of edges) s)
        (λ q. let t : true ≡ false = sym (same_refl s) ∙ ap (λ (r : List ℕ). same r s) (q ∙ sym e) ∙ d in let z : ◌≡◌ {A = ℕ} 0 1 = cc in omega arith))

    pub made_next : {b : Bool} → b ≡ not (same s' s) → Made edges s₀ s' (k + 1) b
    made_next {b} q = go (same s' s) refl (h.on refl).0 (h.on refl).1
      where
        kept : SetList (length s₀) s'
        kept = subst (SetList (length s₀)) (sym e) (down_sets (length s₀) (map edge_of edges) s h.sets)

        go : (c : Bool) → same s' s ≡ c → (m : ℕ) → Going edges s₀ s k m → Made edges s₀ s' (k + 1) b
        go true c m g =
            let stay : same (down s) s ≡ true = ap (λ (r : List ℕ). same r s) (sym e) ∙ c in
            record {
              sets = kept;
              on = λ x. absurd (let t : true ≡ false = sym x ∙ q ∙ ap not c in let z : ◌≡◌ {A = ℕ} 0 1 = cc in omega arith);
              done = λ x. (same_true s' s c ∙ sym (settle_stays m s stay) ∙ g.settles, omega (arith, g.counts, counted_stops down m s stay));
            }
        go false c zero g = absurd (omega (arith, changed_less c, g.room_left))
        go false c (suc m) g =
            let move : same (down s) s ≡ false = ap (λ (r : List ℕ). same r s) (sym e) ∙ c in
            record {
              sets = kept;
              on = λ x. (
                m,
                record {
                  room_left = omega (arith, changed_less c, g.room_left);
                  settles = ap (settle down m) e ∙ sym (goes down m s move) ∙ g.settles;
                  counts = ap (λ (r : List ℕ). k + 1 + counted down (suc m) r) e ∙ omega (arith, counted_goes down (suc m) s move) ∙ g.counts;
                },
              );
              done = λ x. absurd (let t : true ≡ false = sym (q ∙ ap not c) ∙ x in let z : ◌≡◌ {A = ℕ} 0 1 = cc in omega arith);
            }

    pub made_less : {b : Bool} → b ≡ not (same s' s) → left s' b < left s true
    made_less {b} q = go (same s' s) refl
      where
        go : (c : Bool) → same s' s ≡ c → left s' b < left s true
        go true c = rw (q, c) (omega (arith, ap room (same_true s' s c)))
        go false c = rw (q, c) (omega (arith, changed_less c))
