-- With one copy of each routine a statement has one place, its own number: what the report says by statements is what it says at that place.
-- Assumes nothing.
use Rattle.std.specs.Prelude.{ℕ, ◌≡◌, Bool, cond}
use Rattle.std.proofs.Common.{ap, ◌∙◌}
use Rattle.sets.specs.Set.{has, union}
use Rattle.sets.proofs.SetLaws.{inside_both, has_union_left, union_cases}
use Rattle.table.specs.Table.{Table}
use Rattle.report.specs.Over.{union_at}
use Rattle.report.proofs.OverLaws.{none_in}
use Rattle.report.specs.Layout.{one_each}
use Rattle.report.specs.Findings.{Sets, own_access, stray_at, statement_access, is_stray}
use Rattle.report.proofs.FindingsLaws.{mark}

union_none : (a : ℕ) → union a 0 ≡ a
union_none a = inside_both (union a 0) a (λ i. union_cases a 0 i (λ h. h) (λ h. none_in i h)) (λ i h. has_union_left a 0 i h)

-- the cells that statement s reads, or writes
pub access_one_copy : (t : Table) (a : Sets) (w : Bool) (s : ℕ) → statement_access t (one_each t) a w s ≡ own_access t (one_each t) a w s
unfolding statement_access one_each union_at
access_one_copy t a w s = union_none (own_access t (one_each t) a w s)

-- statement s is a stray GIVE
pub stray_one_copy : (t : Table) (a : Sets) (s : ℕ) → is_stray t (one_each t) a s ≡ stray_at t (one_each t) a s
unfolding is_stray one_each union_at
stray_one_copy t a s = ap (λ (y : ℕ). has y 0) (union_none (cond (stray_at t (one_each t) a s) 1 0)) ∙ mark (stray_at t (one_each t) a s)
