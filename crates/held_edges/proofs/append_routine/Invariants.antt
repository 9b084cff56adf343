-- `held_edges::append_routine` meets its contract. Its loop has appended the edges of the statements below s. Assumes nothing.
use Rattle.table.specs.Routines.{first_statement}
use Rattle.held_edges.specs.TableEdges.{writing_alone, part_of}
use Rattle.held_edges.specs.GoingLaws.{Going}
use Rattle.held_edges.proofs.append_routine.Given as goal

abbrev pub invariant-loop-s : goal.invariant-loop-s
invariant-loop-s l = Going (part_of (writing_alone l.fn.mode) l.program) l.initial.list (first_statement l.program l.c) l.list l.s
