-- `run_printer::Tail::put_byte` meets its contract. Assumes nothing.
use Rattle.std.proofs.Common.{refl, arith, ◌∙◌, sym}
use Rattle.run_printer.proofs.WordsLaws.{put_none, put_one, put_past, puts_one, put_before}
use Rattle.run_printer.proofs.Tail.put_byte.Goals as goal
use Rattle.run_printer.proofs.Tail.put_byte.Goals.{then-place-self, else-place-self}

pub returns-in_default : goal.returns-in_default
returns-in_default c = put_before refl (put_none _ _ _ (omega (arith, c.in_default.ensures)) ∙ sym (puts_one _ _))

pub returns : goal.returns
returns c =
    let there = c.in-Some.ensures in
    elim c.if-place-self.branch [
      | then-place-self w ↦ rw w.self-is (put_before refl (rw there.1 (put_one _ _ _ there.0) ∙ sym (puts_one _ _)))
      | else-place-self w ↦ rw w.self-is (put_before refl (rw there.1 (put_past _ _ _ there.0 (rw there.1 at w.if-place-self.false)) ∙ sym (puts_one _ _)))
    ]
