-- Least closed lists of sets: passes over a list until nothing changes, and the passes that edges make. Assumes nothing.
use Rattle.std.specs.Prelude.{◌≡◌, Bool, true, false, ◌&&◌, ℕ, zero, suc, ◌+◌, ◌-◌, ◌/◌, ◌%◌, ◌^◌, ◌<◌, eqb, length, get_or, set}
use mathlib.Core.List.{List, [], ◌∷◌, Memᴰ}
use Rattle.sets.specs.Set.{has, union, inter}

-- ---- lists of sets

-- a list of n sets of at most 64 elements
pub record SetList (n : ℕ) (s : List ℕ) : Type 0 where
  pub places : length s ≡ n
  pub below : (i : ℕ) → get_or s i 0 < 2 ^ 64

-- each set of s is inside the set of t at the same place
pub record Inside (s t : List ℕ) : Type 0 where
  pub at : (i e : ℕ) → has (get_or s i 0) e ≡ true → has (get_or t i 0) e ≡ true

-- the two lists are the same
unfoldable pub same : List ℕ → List ℕ → Bool
same [] [] = true
same [] (y ∷ t) = false
same (x ∷ s) [] = false
same (x ∷ s) (y ∷ t) = eqb x y && same s t

-- ---- passes until nothing changes

-- a pass that keeps lists of n sets, takes nothing out, and puts no less into more
pub record Steady (n : ℕ) (pass : List ℕ → List ℕ) : Type 0 where
  pub keeps : (s : List ℕ) → SetList n s → SetList n (pass s)
  pub grows : (s : List ℕ) → SetList n s → Inside s (pass s)
  pub monotone : (s t : List ℕ) → SetList n s → SetList n t → Inside s t → Inside (pass s) (pass t)

-- how much the numbers of the list can still grow
unfoldable pub room : List ℕ → ℕ
room [] = 0
room (x ∷ s) = (2 ^ 64 - x) + room s

-- passes until nothing changes, at most so many
unfoldable pub settle : (List ℕ → List ℕ) → ℕ → List ℕ → List ℕ
settle pass zero s = s
settle pass (suc n) s = let p = pass s in elim (same p s) [ true ↦ s | false ↦ settle pass n p ]

-- passes until nothing changes
unfoldable pub settled : (List ℕ → List ℕ) → List ℕ → List ℕ
settled pass s = settle pass (room s) s

-- ---- edges

-- the set x is put into the set at t; past the end of the list nothing happens
unfoldable pub put_into : ℕ → ℕ → List ℕ → List ℕ
put_into t x s = set s t (union (get_or s t 0) x)

-- an edge puts what is in the sets at two places into the set at a third
pub record Edge : Type 0 where
  pub from : ℕ
  pub also : ℕ
  pub to : ℕ

-- a plain edge puts the set at one place into the set at another
abbrev pub plain : ℕ → ℕ → Edge
plain f t = record { from = f; also = f; to = t }

-- a plain edge in one number: 65,536 times where it comes from, and where it leads to
unfoldable pub edge_of : ℕ → Edge
edge_of n = plain (n / 65536) (n % 65536)

-- edges in two lists of numbers: the ends of each, and the place whose set is met; past the end of the second list edges are plain
unfoldable pub edges_of : List ℕ → List ℕ → List Edge
edges_of [] also = []
edges_of (n ∷ ends) [] = edge_of n ∷ edges_of ends []
edges_of (n ∷ ends) (a ∷ also) = record { from = (edge_of n).from; also = a; to = (edge_of n).to } ∷ edges_of ends also

-- the edge puts what is in both sets that it comes from into the set that it leads to; past the end of the list it does nothing
unfoldable pub along : Edge → List ℕ → List ℕ
along e s = put_into e.to (inter (get_or s e.from 0) (get_or s e.also 0)) s

-- every edge once, from the first to the last
unfoldable pub pass_edges : List Edge → List ℕ → List ℕ
pass_edges [] s = s
pass_edges (e ∷ es) s = pass_edges es (along e s)

-- the least list that holds s and is closed under the edges
unfoldable pub least : List Edge → List ℕ → List ℕ
least es s = settled (pass_edges es) s

-- the edge has nothing to put
pub record Held (s : List ℕ) (e : Edge) : Type 0 where
  pub carried : e.to < length s → (x : ℕ) → has (get_or s e.from 0) x ≡ true → has (get_or s e.also 0) x ≡ true → has (get_or s e.to 0) x ≡ true

-- s is closed under every edge
pub record Closed (es : List Edge) (s : List ℕ) : Type 0 where
  pub edge : (e : Edge) → Memᴰ e es → Held s e
