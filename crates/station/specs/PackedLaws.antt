-- Packing loses nothing: what include/station.h takes out of a packed answer is the answer, for every text, schedule and buffer. Assumes nothing.
use Rattle.std.specs.Prelude.{ℕ, Bool, true, false, List, ℤ, Ok, Err}
use Rattle.std.proofs.Common.{arith}
use Rattle.table.specs.Refusals.{number_of, line_of}
use Rattle.table.specs.declared.Refusal.TheVariants.{Room}
use Rattle.table.specs.Verdict.{Verdict, verdict}
use Rattle.packing.specs.Packed.{Unpacks, packed_unpacks}
use Rattle.analysis.specs.Reported.{Answer, report_answer}
use Rattle.analysis.specs.SmallLaws.{SmallAnswer, SmallVerdict, verdict_small, answer_small, numbered}
use Rattle.engine.specs.Run.{outcome_by, has_room, outcome_of}
use Rattle.station.specs.Packed.{number_in, line_in, bytes_in, packed_answer, of_run, packed_outcome}

unpacks : (a : Answer) → SmallAnswer a → Unpacks (packed_answer a) (number_in a) (line_in a) (bytes_in a)
unpacks (Ok bytes) small = packed_unpacks 0 0 bytes (omega arith) (omega arith) small
unpacks (Err r) small = packed_unpacks (number_of r) (line_of r) 0 small.1 small.2 (omega arith)

pub report_answer_unpacks : (text : List ℕ) (room : ℕ)
    → let a = report_answer text room in Unpacks (packed_answer a) (number_in a) (line_in a) (bytes_in a)
report_answer_unpacks text room = unpacks (report_answer text room) (answer_small text room)

outcome_small : (v : Verdict) → SmallVerdict v → (fit : Bool) → SmallAnswer (of_run (outcome_by v fit))
outcome_small (Ok u) small true = omega arith
outcome_small (Ok u) small false = ((numbered Room).0, (numbered Room).1, omega arith)
outcome_small (Err r) small fit = small

outcome_unpacks : (v : Verdict) → SmallAnswer (of_run v) → Unpacks (packed_outcome v) (number_in (of_run v)) (line_in (of_run v)) 0
outcome_unpacks (Ok u) small = unpacks (Ok 0) small
outcome_unpacks (Err r) small = unpacks (Err r) small

pub run_outcome_unpacks : (text schedule answers : List ℕ) (cells : List ℤ)
    → let o = outcome_of text schedule answers cells in Unpacks (packed_outcome o) (number_in (of_run o)) (line_in (of_run o)) 0
unfolding outcome_of
run_outcome_unpacks text schedule answers cells =
    let o = outcome_by (verdict text) (has_room text schedule answers cells) in
    outcome_unpacks o (outcome_small (verdict text) (verdict_small text) (has_room text schedule answers cells))
