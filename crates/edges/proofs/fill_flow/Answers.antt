-- `edges::fill_flow` meets its contract. Assumes nothing.
use Rattle.std.proofs.Common.{rules, of_calls}
use Rattle.edges.specs.Equations.{Flow}
use Rattle.edges.specs.Grown.{every_edge}
use Rattle.edges.proofs.fill_flow.Goals as goal

pub returns : goal.returns
returns c = record { accepted = c.append_each.ensures.accepted; grown = every_edge Flow _ (c.append_each.ensures.grown _ (λ x y s k l e h. search (rules, of_calls))) }
