-- `start_edges::origin_of` meets its contract. Assumes nothing.
use Rattle.std.proofs.Common.{refl, arith}
use Rattle.edges.specs.LineLaws.{viewed}
use Rattle.start_edges.proofs.StartLaws.{origin_start, origin_own}
use Rattle.start_edges.proofs.origin_of.Goals as goal

pub returns-then-brings_start : goal.returns-then-brings_start
returns-then-brings_start c =
    origin_start _ _ (viewed c.program.view_is c.line_of-line.ensures c.requires refl) _ c.starts_at-started.ensures c.calls_at.ensures c.brings_start.ensures _
    (omega (arith, c.statements.ensures.is, c.routines.ensures.is)) c.if-brings_start.true

pub returns : goal.returns
returns c =
    origin_own _ _ (viewed c.program.view_is c.line_of-line.ensures c.requires refl) _ c.starts_at-started.ensures c.calls_at.ensures c.brings_start.ensures c.if-brings_start.false
