-- `flow_vectors::passes_of` meets its contract. Assumes nothing.
use Rattle.flow_vectors.specs.PassesLaws.{edges_fit}
use Rattle.flow_vectors.proofs.passes_of.Goals as goal

pub passes_through-requires : goal.passes_through-requires
passes_through-requires c = rw c.new.ensures (edges_fit c.args.numbers.now c.requires)
