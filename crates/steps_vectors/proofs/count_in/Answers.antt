-- `steps_vectors::count_in` meets its contract. Assumes nothing.
use mathlib.Core.Path.{refl}
use Rattle.table.specs.Table.{counts_of}
use Rattle.engine.specs.OutcomeLaws.{read_facts}
use Rattle.steps_vectors.proofs.count_in.Goals as goal

pub count_frames-requires : goal.count_frames-requires
count_frames-requires g c =
    let r = c.read_into in
    let q = read_facts c.args.text.now r.result r.new.numbers (counts_of r.new.numbers) r.ensures.verdict r.ensures.numbers c.in-Ok.is refl in
    (q.facts, q.long)
