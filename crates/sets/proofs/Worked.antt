-- The definitions, computed: a chain listed backwards, a cycle, edges past the end, an edge that meets; and sets of none, one and two elements. Assumes nothing.
use mathlib.Core.Path.{◌≡◌, refl}
use mathlib.Core.List.{[], ◌∷◌, map}
use lib.Count.{ones_in, count_trailing_zeros}
use Rattle.sets.specs.Set.{union, minus, count, is_single, only, inter}
use Rattle.sets.specs.Least.{same, room, settle, settled, put_into, edge_of, edges_of, along, pass_edges, least}
use Rattle.std.specs.Prelude.{Some, None}

chain : least (map edge_of (131075 ∷ 65538 ∷ 1 ∷ [])) (1 ∷ 2 ∷ 4 ∷ 8 ∷ []) ≡ 1 ∷ 3 ∷ 7 ∷ 15 ∷ []
unfolding least settled settle room same pass_edges along put_into edge_of union inter
chain = refl

cycle : least (map edge_of (1 ∷ 65538 ∷ 131072 ∷ [])) (1 ∷ 2 ∷ 4 ∷ 8 ∷ []) ≡ 7 ∷ 7 ∷ 7 ∷ 8 ∷ []
unfolding least settled settle room same pass_edges along put_into edge_of union inter
cycle = refl

past_the_end : least (map edge_of (327680 ∷ 5 ∷ 1 ∷ [])) (1 ∷ 2 ∷ []) ≡ 1 ∷ 3 ∷ []
unfolding least settled settle room same pass_edges along put_into edge_of union inter
past_the_end = refl

-- an edge that meets: of what is at place 0 only what is at place 1 too goes to place 2, and then on to 3
meeting : least (edges_of (2 ∷ 131075 ∷ []) (1 ∷ [])) (6 ∷ 12 ∷ 1 ∷ 0 ∷ []) ≡ 6 ∷ 12 ∷ 5 ∷ 5 ∷ []
unfolding least settled settle room same pass_edges along put_into edge_of edges_of union inter
meeting = refl

only_of_none : only 0 ≡ None
unfolding only is_single count ones_in
only_of_none = refl

only_of_one_element : only 9223372036854775808 ≡ Some 63
unfolding only is_single count ones_in count_trailing_zeros
only_of_one_element = refl

only_of_two : only 6 ≡ None
unfolding only is_single count ones_in
only_of_two = refl

left_over : minus 12 10 ≡ 4
unfolding minus
left_over = refl
