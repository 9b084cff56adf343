-- `preceding::find_preceded` meets its contract. Assumes nothing.
use mathlib.Core.Path.{◌≡◌, sym, ap, ◌∙◌}
use Prim.Native.Nat.{ℕ, ◌+◌, ◌≤◌}
use native.Mathlib.Omega.{arith}
use mathlib.Core.List.{List}
use lib.ListN.{length}
use Rattle.table.specs.Table.{table_of}
use Rattle.table.proofs.CutLaws.{cut_long}
use Rattle.report.specs.Layout.{one_each}
use Rattle.report.specs.Preceded.{preceded_sets}
use Rattle.table.proofs.FrontLaws.{front_fits, front_is, front_long}
use Rattle.preceding.proofs.find_preceded.Goals as goal
use Rattle.preceding.proofs.find_preceded.Goals.{After-routines-many, After-reach_sets}

-- there is room for a set for each routine and one more
few : (c : After-routines-many) → c.routines-many.result + 1 ≤ 33
few c = omega (arith, c.routines-many.ensures.few)

-- and so many were found
long : (c : After-reach_sets) → length c.reach_sets.new.reach ≡ c.routines-many.result + 1
long c = c.reach_sets.auto.reach ∙ sym (cut_long {A = ℕ} _ 33 0 (omega (arith, c.routines-many.ensures.few)))

pub slice_bounds-reach-end : goal.slice_bounds-reach-end
slice_bounds-reach-end c = few (goal.at.slice_bounds-reach-end c).After-routines-many

pub slice_bounds-reach_sets-end : goal.slice_bounds-reach_sets-end
slice_bounds-reach_sets-end c = cut_long {A = ℕ} _ 33 0 (few (goal.at.slice_bounds-reach_sets-end c).After-routines-many)

pub reach_sets-requires : goal.reach_sets-requires
reach_sets-requires c =
    record { edges_room = c.requires.edges_room; reach_len = sym (cut_long {A = ℕ} _ 33 0 (few (goal.at.reach_sets-requires c).After-routines-many)) ∙ ap (λ (n : ℕ). n + 1) c.routines-many.ensures.is }

pub slice_bounds-reach-end-2 : goal.slice_bounds-reach-end-2
slice_bounds-reach-end-2 c = front_fits 33 c.reach_sets.new.reach (long (goal.at.slice_bounds-reach-end-2 c).After-reach_sets)

pub slice_bounds-preceded_sets-end : goal.slice_bounds-preceded_sets-end
slice_bounds-preceded_sets-end c = front_long 33 c.reach_sets.new.reach (long (goal.at.slice_bounds-preceded_sets-end c).After-reach_sets)

pub preceded_sets-requires : goal.preceded_sets-requires
preceded_sets-requires c = record { edges_room = omega (arith, c.requires.edges_room, c.reach_sets.auto.edges); out_len = c.requires.out_len }

pub returns : goal.returns
returns c = let t = table_of c.args.program.now in
    c.preceded_sets.ensures ∙ ap {B = List ℕ} (preceded_sets t (one_each t)) (front_is 33 c.reach_sets.new.reach (long (goal.at.returns c).After-reach_sets) ∙ c.reach_sets.ensures)
