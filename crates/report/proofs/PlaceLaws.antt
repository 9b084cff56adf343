-- What stands in a list or a union over all statements of all copies. Assumes nothing.
use Rattle.std.specs.Prelude.{ℕ, ◌+◌, ◌≤◌, ◌<◌, ◌≡◌, length}
use Rattle.std.proofs.Common.{sym, ap, ◌∙◌, subst, arith}
use mathlib.Core.List.{List, Memᴰ}
use Rattle.table.specs.Table.{Table, routine, statement, OwnHandle}
use Rattle.table.specs.Accepted.{Accepted, RoutineFacts}
use Rattle.table.specs.declared.Statement.{Statement}
use Rattle.report.specs.Over.{joined_from}
use Rattle.report.proofs.OverLaws.{Within, joined_has, joined_from_lem, below_within, within_below}
use Rattle.report.specs.Layout.{Layout}
use Rattle.report.specs.Fits.{Fits, StatementPlaced, copies_of}
use Rattle.report.specs.Rules.{Place}

module _ (t : Table) (k : Layout) (fits : Fits t k) where
  -- the place of a statement of a copy, and the statement of a place
  pub placed : (c s : ℕ) → Place (copies_of fits) c s → StatementPlaced k c s
  placed c s w = fits.statement_placed c s w.there w.inside

  pub place_at : (p : ℕ) → p < k.statements → Place (copies_of fits) (k.statement_copy p) (k.statement_at p)
  place_at p l = record { there = (fits.statement_there p l).copy; inside = (fits.statement_there p l).own }

  -- what holds of the place, the copy, the statement's number and the statement holds at the place of the statement
  pub at_placed {ℓ} : (P : ℕ → ℕ → ℕ → Statement → Type ℓ) (c s : ℕ) → Place (copies_of fits) c s → (σ : Statement) → statement t s ≡ σ
      → P (k.statement_place c s) c s σ
      → let p = k.statement_place c s in P p (k.statement_copy p) (k.statement_at p) (statement t (k.statement_at p))
  at_placed P c s w σ e h =
      let p = k.statement_place c s in
      let v = placed c s w in
      let q : statement t (k.statement_at p) ≡ σ = ap (statement t) v.same ∙ e in
      subst (λ (d : ℕ). P p d (k.statement_at p) (statement t (k.statement_at p))) (sym v.copy)
      (subst (λ (z : ℕ). P p c z (statement t (k.statement_at p))) (sym v.same) (subst (P p c s) (sym q) h))

  pub from_placed {ℓ} : (P : ℕ → ℕ → ℕ → Statement → Type ℓ) (c s : ℕ) → Place (copies_of fits) c s → (σ : Statement) → statement t s ≡ σ
      → (let p = k.statement_place c s in P p (k.statement_copy p) (k.statement_at p) (statement t (k.statement_at p))) → P (k.statement_place c s) c s σ
  from_placed P c s w σ e h =
      let p = k.statement_place c s in
      let v = placed c s w in
      let q : statement t (k.statement_at p) ≡ σ = ap (statement t) v.same ∙ e in
      subst (P p c s) q
      (subst (λ (z : ℕ). P p c z (statement t (k.statement_at p))) v.same
      (subst (λ (d : ℕ). P p d (k.statement_at p) (statement t (k.statement_at p))) v.copy h))

  module _ {A : Type 0} (F : ℕ → ℕ → ℕ → Statement → List A) where
    -- what statement s of copy c has is in the list of all
    pub among_all : (x : A) (c s : ℕ) → Place (copies_of fits) c s → (σ : Statement) → statement t s ≡ σ → Memᴰ x (F (k.statement_place c s) c s σ)
        → Memᴰ x (joined_from 0 k.statements (λ p. F p (k.statement_copy p) (k.statement_at p) (statement t (k.statement_at p))))
    among_all x c s w σ e m =
        joined_has 0 k.statements _ (k.statement_place c s) x (below_within (placed c s w).there)
        (at_placed (λ p d z τ. Memᴰ x (F p d z τ)) c s w σ e m)

    pub of_some : (x : A) → Memᴰ x (joined_from 0 k.statements (λ p. F p (k.statement_copy p) (k.statement_at p) (statement t (k.statement_at p))))
        → (p : ℕ) × (p < k.statements) × Memᴰ x (F p (k.statement_copy p) (k.statement_at p) (statement t (k.statement_at p)))
    of_some x m =
        let r : (p : ℕ) × Within 0 k.statements p × Memᴰ x (F p (k.statement_copy p) (k.statement_at p) (statement t (k.statement_at p))) =
        joined_from_lem 0 k.statements _ x m in
        (r.0, within_below r.1, r.2)

  -- the parameters of a routine are its handles
  pub parameter_own : Accepted t → (q j : ℕ) → q < length t.routines → j < (routine t q).parameters → OwnHandle t q ((routine t q).handle + j)
  parameter_own acc q j l h =
      let f : RoutineFacts t q = acc.routine_facts q l in
      let a : (routine t q).parameters ≤ (routine t q).handles = f.parameters_among in
      let b : (routine t q).handle + (routine t q).handles ≤ length t.handles = f.handles_there in
      record { there = omega arith; own = f.handle_own ((routine t q).handle + j) (omega arith) (omega arith) }
