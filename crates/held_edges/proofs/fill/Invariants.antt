-- `held_edges::fill` meets its contract. Its loop has appended the edges of the routines below c. Assumes nothing.
use Rattle.table.specs.Routines.{first_statement}
use Rattle.held_edges.specs.TableEdges.{writing_alone, part_of}
use Rattle.held_edges.specs.GoingLaws.{Going}
use Rattle.held_edges.proofs.fill.Given as goal

abbrev pub invariant-loop-c : goal.invariant-loop-c
invariant-loop-c l = Going (part_of (writing_alone l.mode) l.program) l.initial.list 0 l.list (first_statement l.program l.c)
