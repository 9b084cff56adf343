-- The lists of `Layout`, each with what its entries say, of numbers whose header keeps its rule. Assumes nothing.
use Rattle.std.specs.Prelude.{◌≡◌, refl, List, Bool, true, false, ℕ, ◌+◌, ◌-◌, ◌≤◌, ◌<◌, ltb, get_or, ℤ}
use Rattle.std.proofs.Math.Path.{subst⁻¹}
use Rattle.std.proofs.Common.{zero-le, arith, ltb-true, ltb-false}
use Rattle.table.specs.Header.{routines}
use Rattle.table.specs.Handles.{handles_from, parameters}
use Rattle.table.specs.Routines.{first_statement}
use Rattle.table.proofs.RoutineLaws.{first_grows}
use Rattle.table.proofs.ExtentLaws.{first_at, handle_at_lem, count_at, handles_from_most}
use Rattle.table.proofs.TabulateLaws.{entry_behind}
use Rattle.table.specs.Lists.{HandlesBegin, ParametersCounted, StatementsBegin}

module _ {f : List ℤ} {first : List ℕ} (b : StatementsBegin f first) (r : ℕ) where
  pub statements_begin : r ≤ routines f → get_or first r 0 ≡ first_statement f r
  statements_begin h = first_at f b.sized.routines_most first r b.is h

  -- also where no routine stands
  pub begin_early : get_or first r 0 ≤ 512
  begin_early = at (ltb r (routines f + 1)) refl
    where
      at : (t : Bool) → ltb r (routines f + 1) ≡ t → get_or first r 0 ≤ 512
      at true t =
          let h : r < routines f + 1 = ltb-true r (routines f + 1) t in
          let e : r + (routines f - r) ≡ routines f = omega arith in
          let grows : first_statement f r ≤ first_statement f (routines f) = rw e at (first_grows f r (routines f - r)) in
          subst⁻¹ (λ (n : ℕ). n ≤ 512) (statements_begin (omega arith)) (omega (arith, b.sum, b.sized.statements_most))
      at false t =
          subst⁻¹ (λ (n : ℕ). n ≤ 512) (entry_behind 33 (routines f + 1) (first_statement f) first r b.is (ltb-false r (routines f + 1) t)) zero-le

module _ {f : List ℤ} {handle : List ℕ} (b : HandlesBegin f handle) (r : ℕ) (h : r ≤ routines f) where
  pub handles_begin : get_or handle r 0 ≡ handles_from f r
  handles_begin = handle_at_lem f b.sized.routines_most handle r b.is h

  pub handles_early : get_or handle r 0 ≤ 128
  handles_early = omega (arith, handles_begin, handles_from_most f r, b.sized.handles_most)

pub parameters_counted : {f : List ℤ} {counts : List ℕ} → ParametersCounted f counts → (r : ℕ) → r < routines f → get_or counts r 0 ≡ parameters f r
parameters_counted {f} {counts} b r h = count_at f b.sized.routines_most counts r b.is h
