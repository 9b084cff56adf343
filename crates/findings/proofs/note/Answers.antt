-- `findings::note` meets its contract. Assumes nothing.
use Rattle.std.specs.Prelude.{◌≡◌, ◌<◌, ◌^◌, true}
use Rattle.sets.specs.Set.{has}
use Rattle.std.proofs.Common.{arith, sym, ◌∙◌}
use Rattle.sets.proofs.SetLaws.{lowest_nothing}
use Rattle.findings.specs.NoteLaws.{marking_start, lowest_left, marking_next, marking_less, marking_done}
use Rattle.findings.proofs.note.Goals as goal
use Rattle.findings.proofs.note.Goals.{In-Some}

-- the lowest element is one of what is left, and a cell
left : (c : In-Some) → (has c.loop-x.rest c.in-Some.x ≡ true) × (c.in-Some.x < 64)
left c = lowest_left c.loop-x.invariant _ (sym c.lowest.ensures ∙ c.in-Some.is)

pub loop-x-init : goal.loop-x-init
loop-x-init c = let h : c.args.cells < 2 ^ 64 = omega arith in marking_start _ _ _ _ h c.told-common c.told-counts

pub offset_bounds-common-x : goal.offset_bounds-common-x
offset_bounds-common-x c = omega (arith, (left (goal.at.offset_bounds-common-x c).In-Some).1)

pub bounds-common-x : goal.bounds-common-x
bounds-common-x c = (left (goal.at.bounds-common-x c).In-Some).1

pub offset_bounds-common-x-in-Some : goal.offset_bounds-common-x-in-Some
offset_bounds-common-x-in-Some c = omega (arith, (left (goal.at.offset_bounds-common-x-in-Some c).In-Some).1)

pub bounds-common-x-in-Some : goal.bounds-common-x-in-Some
bounds-common-x-in-Some c = (left (goal.at.bounds-common-x-in-Some c).In-Some).1

pub offset_bounds-counts-x : goal.offset_bounds-counts-x
offset_bounds-counts-x c = omega (arith, (left (goal.at.offset_bounds-counts-x c).In-Some).1)

pub bounds-counts-x : goal.bounds-counts-x
bounds-counts-x c = (left (goal.at.bounds-counts-x c).In-Some).1

pub bounds-counts-x-in-Some : goal.bounds-counts-x-in-Some
bounds-counts-x-in-Some c = (left (goal.at.bounds-counts-x-in-Some c).In-Some).1

pub loop-x-preserved : goal.loop-x-preserved
loop-x-preserved c =
    let low = left (goal.at.loop-x-preserved c).In-Some in
    rw (c.difference-rest.ensures, c.one.ensures, c.intersection.ensures) (marking_next c.loop-x.invariant _ low.0 low.1)

pub loop-x-smaller : goal.loop-x-smaller
loop-x-smaller c =
    let low = left (goal.at.loop-x-smaller c).In-Some in
    rw (c.difference-rest.ensures, c.one.ensures) (marking_less c.loop-x.invariant _ low.0 low.1)

pub returns : goal.returns
returns c = marking_done c.loop-x.invariant (lowest_nothing _ (sym c.lowest.ensures ∙ c.in_default.is))
