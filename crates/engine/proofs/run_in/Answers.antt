-- `engine::run_in` meets its contract. Assumes nothing.
use mathlib.Core.Path.{sym, ◌∙◌}
use lib.Seq.{length-take-le}
use Rattle.std.proofs.lemmas.Result.{err_from_is_err_and}
use Rattle.engine.specs.OutcomeLaws.{ReadFacts, read_facts, left_refused, short_answers, short_cells, left_run}
use Rattle.engine.proofs.run_in.Goals as goal
use Rattle.engine.proofs.run_in.Goals.{After-counts_of-count}

-- what is known of an accepted text
facts : (c : After-counts_of-count) → ReadFacts c.args.text.now c.read_into.new.numbers c.counts_of-count.result
facts c =
    read_facts c.args.text.now c.read_into.result c.read_into.new.numbers c.counts_of-count.result c.read_into.ensures.verdict c.read_into.ensures.numbers c.in_ok-read_into.was c.counts_of-count.ensures

pub returns-in_err-read_into : goal.returns-in_err-read_into
returns-in_err-read_into c =
    let a = c.args in
    let p = err_from_is_err_and c.from_residual.result c.from_residual.ensures.1 in
    let s = left_refused a.text.now a.schedule.now a.answers.now a.cells.now _ (sym c.read_into.ensures.verdict ∙ c.in_err-read_into.was) in
    record { outcome = rw (p.1, p.2) s.0; answered = s.1.0; left = s.1.1 }

pub returns-then-answers-schedule : goal.returns-then-answers-schedule
returns-then-answers-schedule c =
    let a = c.args in
    let q = facts (goal.at.returns-then-answers-schedule c).After-counts_of-count in
    let s = short_answers a.text.now a.schedule.now a.answers.now a.cells.now _ _ q c.if-answers-schedule.true in
    record { outcome = s.0; answered = s.1.0; left = s.1.1 }

pub returns-then-cells-count : goal.returns-then-cells-count
returns-then-cells-count c =
    let a = c.args in
    let q = facts (goal.at.returns-then-cells-count c).After-counts_of-count in
    let s = short_cells a.text.now a.schedule.now a.answers.now a.cells.now _ _ q c.if-answers-schedule.false c.if-cells-count.true in
    record { outcome = s.0; answered = s.1.0; left = s.1.1 }

pub run_accepted-requires : goal.run_accepted-requires
run_accepted-requires c =
    let q = facts (goal.at.run_accepted-requires c).After-counts_of-count in
    (q.facts, q.long, c.if-answers-schedule.false, length-take-le _ _ c.if-cells-count.false ∙ q.cells_are)

pub returns : goal.returns
returns c =
    let a = c.args in
    let q = facts (goal.at.returns c).After-counts_of-count in
    let s = left_run a.text.now a.schedule.now a.answers.now a.cells.now _ _ q _ _ c.if-answers-schedule.false c.if-cells-count.false c.run_accepted.ensures.answers_after c.run_accepted.ensures.cells_after in
    record { outcome = s.0; answered = s.1.0; left = s.1.1 }
