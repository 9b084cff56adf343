-- The edges of a statement from its view, as the code appends them: one copy of each routine. Assumes nothing.
use Rattle.std.specs.Prelude.{ℕ, ◌+◌, ◌<◌, List, [], ◌∷◌, ◌++◌, map, get_or}
use Rattle.sets.specs.Least.{Edge, plain}
use Rattle.table.specs.View.{Each, on_or, list_on, when, calls, starts}
use Rattle.table.specs.declared.View.{View}
use Rattle.lock_edges.specs.declared.Bases.{Bases}
use Rattle.lock_edges.specs.declared.Origin.{Origin}

abbrev pub edge_from : Origin → ℕ → Edge
edge_from o t = record { from = o.from; also = o.also; to = t }

abbrev pub origin : ℕ → ℕ → Origin
origin f a = record { from = f; also = a }

abbrev pub nexts_of : ℕ → View → List ℕ
nexts_of s v = list_on v.target (λ n. n ∷ []) ++ when v.onward ((s + 1) ∷ [])

-- the place that what is kept over a statement meets
abbrev pub met_of : Bases → ℕ → View → ℕ
met_of b s v = on_or v.takes (λ h. b.other + h) (on_or (calls v) (λ q. b.back + q) s)

-- the parts of a statement's edges
abbrev pub call_edges_of : Bases → List ℕ → ℕ → View → List Edge
call_edges_of b first s v =
    list_on (calls v) (λ q. plain s (get_or first q 0) ∷ map (edge_from (origin (b.back + q) (b.given + q))) (nexts_of s v))

abbrev pub kept_edges_of : Bases → ℕ → View → List Edge
kept_edges_of b s v = map (edge_from (origin s (met_of b s v))) (nexts_of s v)

abbrev pub give_edges_of : Bases → ℕ → View → List Edge
give_edges_of b s v = list_on v.gives (λ h. map (edge_from (origin (b.flow + h) (b.flow + h))) (nexts_of s v))

abbrev pub start_edges_of : Bases → List ℕ → View → List Edge
start_edges_of b first v = list_on (starts v) (λ q. plain b.every (get_or first q 0) ∷ [])

abbrev pub end_edges_of : Bases → ℕ → ℕ → View → List Edge
end_edges_of b s c v = when v.ends (plain s (b.back + c) ∷ [])

-- those of statement s of routine c
unfoldable pub view_edges : Bases → List ℕ → ℕ → ℕ → View → List Edge
view_edges b first s c v = call_edges_of b first s v ++ (kept_edges_of b s v ++ (give_edges_of b s v ++ (start_edges_of b first v ++ end_edges_of b s c v)))

-- what a view names is small
pub record Fit (v : View) : Type 0 where
  pub names : Each v.names (λ q. q < 32)
  pub takes : Each v.takes (λ h. h < 128)
  pub gives : Each v.gives (λ h. h < 128)

-- and so are the places
pub record Low (b : Bases) : Type 0 where
  pub back : b.back < 1024
  pub given : b.given < 1024
  pub flow : b.flow < 1024
  pub other : b.other < 1024
  pub every : b.every < 1024
