-- `future::future_sets` meets its contract: each half of the list is the futures, in two stages. Assumes nothing.
use Rattle.std.specs.Prelude.{ℕ, List, ◌++◌, true, false}
use Rattle.std.proofs.Common.{refl, ap₂, arith}
use Rattle.edges.specs.RoomLaws.{stages_are}
use Rattle.future.specs.AnswerLaws.{futures_left, edges_like}
use Rattle.future.proofs.future_sets.Goals as goal

pub split_at-requires : goal.split_at-requires
split_at-requires c = (stages_are _ c.fill_nexts.ensures.accepted c.requires.edges_room refl c.fill_nexts.ensures.grown c.fill_callers.ensures.grown c.edges.ensures).inside

pub returns : goal.returns
returns c =
    let acc = c.fill_nexts.ensures.accepted in
    let stages = stages_are _ acc c.requires.edges_room refl c.fill_nexts.ensures.grown c.fill_callers.ensures.grown c.edges.ensures in
    let within = edges_like c.split_at.ensures.front stages.first in
    let up = edges_like c.split_at.ensures.back stages.second in
    ap₂ {C = List ℕ} (λ (a b : List ℕ). a ++ b)
    (futures_left _ acc _ _ within up _ (λ i. omega (arith, c.type_inv.flow i)) _ (λ i. omega (arith, c.type_inv.reads i)) false (omega (arith, c.split_at_mut-read.ensures.front_len, c.requires.later_len)) c.later_sets.ensures)
    (futures_left _ acc _ _ within up _ (λ i. omega (arith, c.type_inv.flow i)) _ (λ i. omega (arith, c.type_inv.writes i)) true (omega (arith, c.split_at_mut-read.ensures.back_len, c.requires.later_len)) c.later_sets-2.ensures)
