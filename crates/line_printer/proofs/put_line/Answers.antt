-- `line_printer::put_line` meets its contract: the fields of the first i numbers are written, the places behind stay. Assumes nothing.
use borrow.Author.Rules.{rules}
use native.Mathlib.Omega.{arith}
use mathlib.Core.Path.{◌≡◌, ap, subst, sym, ◌∙◌}
use Prim.Native.Nat.{◌+◌, ◌*◌, ◌-◌}
use lib.IntN.{pos}
use lib.ListN.{get_or}
use mir.Syntax.{w32}
use mir.Val.{to_z, of_z}
use mir.Facts.{to_z-of_z}
use Rattle.std.proofs.lemmas.Slice.{put_mid-paste}
use Rattle.fields.specs.Field.{field_text}
use Rattle.fields.specs.FieldLaws.{field_text_length}
use Rattle.lines.proofs.LineLaws.{all_at}
use Rattle.line_printer.specs.PrintLoops.{Lining, lining_next, lining_done}
use Rattle.line_printer.proofs.put_line.Goals as goal

pub returns : goal.returns
returns c = lining_done c.loop-i.invariant c.loop-i-test.false c.requires.0

pub put_number-requires : goal.put_number-requires
put_number-requires c =
    let word : to_z w32 (of_z w32 (get_or c.args.numbers c.loop-i.i (pos 0))) ≡ get_or c.args.numbers c.loop-i.i (pos 0) = to_z-of_z {w = w32} (search rules) in
    (rw word (all_at _ _ c.requires.0), omega (arith, c.loop-i.invariant.sized, c.loop-i.invariant.room, c.loop-i-test.true))

pub loop-i-preserved : goal.loop-i-preserved
loop-i-preserved c =
    let z = get_or c.args.numbers c.loop-i.i (pos 0) in
    let word : to_z w32 (of_z w32 z) ≡ z = to_z-of_z {w = w32} (search rules) in
    let good = all_at c.args.numbers c.loop-i.i c.requires.0 in
    subst (Lining c.args.part.now c.args.numbers (c.loop-i.i + 1))
    (sym (put_mid-paste (6 * c.loop-i.i) (6 * c.loop-i.i + 6 - 6 * c.loop-i.i) c.loop-i.part _ (field_text z) 6 (c.put_number.ensures ∙ ap field_text word) (omega arith) (sym (field_text_length z good))))
    (lining_next c.loop-i.invariant c.loop-i-test.true good)
