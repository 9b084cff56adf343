-- `preceding::preceded_sets` meets its contract. Assumes nothing.
use Rattle.std.proofs.Common.{ap, ◌∙◌, refl, List, ℕ, map}
use Rattle.sets.specs.Least.{Edge, edge_of}
use Rattle.preceding.specs.AnswerLaws.{preceded_answer}
use Rattle.preceding.proofs.preceded_sets.Goals as goal

pub returns : goal.returns
returns c =
    let edges = ap {B = List Edge} (λ (l : List ℕ). map edge_of l) c.edges.ensures ∙ (c.fill_preceding.ensures.ready refl c.requires.edges_room).is in
    preceded_answer _ _ _ edges c.requires.out_len c.fill_marked.ensures c.solve_plain.ensures
