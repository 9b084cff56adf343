-- `flow_vectors::passes_in` meets its contract. Assumes nothing.
use mathlib.Core.Path.{◌∙◌}
use Rattle.flow_vectors.specs.PassesLaws.{read_accepted, accepted_passes, refused_passes}
use Rattle.flow_vectors.proofs.passes_in.Goals as goal

pub passes_of-requires : goal.passes_of-requires
passes_of-requires c =
    read_accepted _ c.read_into.result c.read_into.new.numbers c.read_into.ensures.verdict c.read_into.ensures.numbers c.in-Ok.is

pub returns-in-Err : goal.returns-in-Err
returns-in-Err c =
    refused_passes _ c.read_into.result c.read_into.new.numbers c.read_into.ensures.verdict c.read_into.ensures.numbers _ c.in-Err.is

pub returns-in-Ok : goal.returns-in-Ok
returns-in-Ok c =
    c.passes_of.ensures ∙ accepted_passes _ c.read_into.result c.read_into.new.numbers c.read_into.ensures.verdict c.read_into.ensures.numbers c.in-Ok.is
