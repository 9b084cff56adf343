-- `findings::note_access` meets its contract. Assumes nothing.
use Rattle.std.specs.Prelude.{true, false}
use Rattle.std.proofs.Common.{refl, sym, ◌∙◌}
use Rattle.report.specs.Operations.{reading, writing}
use Rattle.findings.specs.NoteLaws.{noted_both}
use Rattle.findings.specs.LineLaws.{seen, own_is}
use Rattle.findings.proofs.note_access.Goals as goal

pub note-requires : goal.note-requires
note-requires c = c.requires.few false

pub note-requires-2 : goal.note-requires-2
note-requires-2 c = c.requires.few true

pub returns : goal.returns
returns c =
    noted_both
    (own_is _ _ (seen c.program.view_is _ c.line_of-line.ensures refl) c.args.flow.now reading c.reads_at.ensures ∙ sym c.set_on-reads.ensures)
    (own_is _ _ (seen c.program.view_is _ c.line_of-line.ensures refl) c.args.flow.now writing c.writes_at.ensures ∙ sym c.set_on-writes.ensures)
    c.note.ensures c.note-2.ensures
