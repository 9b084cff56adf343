-- The parts of the invariant that one frame or one stack has: they survive a change of the locks, and a new frame has them. Assumes nothing.
use Rattle.std.specs.Prelude.{ℕ, ◌+◌, ◌-◌, ◌<◌, ◌≤◌, ◌≡◌, Bool, cond, List, [], ◌∷◌, eqb, get_or, length, set}
use Rattle.std.proofs.Common.{arith, sym, ap, ◌∙◌, subst, inr, ⊎_elim}
use borrow.Author.Tests.{eq-eqb}
use Rattle.table.specs.Table.{Table, declaration, routine, passed, OwnHandle}
use Rattle.table.specs.Accepted.{Accepted, Passes}
use Rattle.table.specs.View.{view, calls}
use Rattle.table.specs.declared.Arguments.{Arguments}
use Rattle.table.specs.declared.Statement.{Statement}
use Rattle.machine.proofs.Lists.{set_case}
use Rattle.machine.specs.State.{Holder, entered, opened}
use Rattle.report.specs.Rules.{Copies, Families, Rules, Passing}
use Rattle.table.proofs.TabulateLaws.{get_d_tabulate}
use Rattle.guarantee.specs.Invariant.{Mark, Fits, Valued, Has, AllWait, Good, Called}

module _ {t : Table} (copies : Copies t) (f : Families) (rules : Rules copies f) where
  -- older frames survive when only locks are lost that the frame above may give up
  pub wait_still : (locks locks' : List Holder) (n d : ℕ) (ms : List Mark)
      → ((w : Bool) (k : ℕ) → (f.gives d k → ⊥) → Has copies f locks n w k → Has copies f locks' n w k) → AllWait copies f locks n d ms → AllWait copies f locks' n d ms
  wait_still locks locks' n d [] keep wait = wait
  wait_still locks locks' n d (m ∷ ms) keep (here, below) = (
    record {
      named = here.named;
      arguments = here.arguments;
      here = here.here;
      calls = here.calls;
      leads = here.leads;
      valued = here.valued;
      holds = λ w k held kept. keep w k kept (here.holds w k held kept);
    },
    wait_still locks locks' n m.copy ms (λ w k kept. keep w k (λ given. kept (up k given))) below,
  )
    where
      up : (k : ℕ) → f.gives d k → f.gives m.copy k
      up k given =
          rules.gives_rules.by_call m.copy m.place k here.named here.here (ap (λ (σ : Statement). calls (view σ)) here.calls)
          (subst (λ (e : ℕ). f.gives e k) (sym here.leads) given)

  -- a thread that loses no lock keeps all
  pub good_still : (locks locks' : List Holder) (n : ℕ) (ms : List Mark) → ((w : Bool) (k : ℕ) → Has copies f locks n w k → Has copies f locks' n w k)
      → Good copies f locks n ms → Good copies f locks' n ms
  good_still locks locks' n [] keep good = good
  good_still locks locks' n (m ∷ ms) keep (here, below) = (
    record { here = here.here; valued = here.valued; holds = λ w k held. keep w k (here.holds w k held) },
    wait_still locks locks' n m.copy ms (λ w k kept. keep w k) below,
  )

  -- below a copy that holds or reaches a START, so does every copy that waits
  pub reaching_called : (locks : List Holder) (n d : ℕ) (ms : List Mark) → AllWait copies f locks n d ms → f.reaches d → Called copies f d ms
  reaching_called locks n d [] wait reaches = tt
  reaching_called locks n d (m ∷ ms) (here, below) reaches = (
    inr reaches,
    reaching_called locks n m.copy ms below
        (rules.reach_rules.by_call m.copy m.place here.named here.here (ap (λ (σ : Statement). calls (view σ)) here.calls)
        (subst f.reaches (sym here.leads) reaches)),
  )

-- ---- the values of a new frame

module _ {t : Table} (accepted : Accepted t) (copies : Copies t) (f : Families) (rules : Rules copies f) where
  -- a new frame of copy d, whose parameters get what they may refer to
  pub opened_valued : (d q : ℕ) (values : List ℕ) (a : Arguments) → d < copies.count → copies.of d ≡ q
      → ((k : ℕ) → k < (routine t q).parameters → Fits copies f d ((routine t q).handle + k) (get_or values (get_or (passed a) k 0) 0))
      → Valued copies f d (opened t q values a).values
  unfolding opened entered
  opened_valued d q values a there e params h own =
      rw (get_d_tabulate (length t.handles) (entered t q values a) h 0 own.there, entered, eq-eqb (declaration t h).routine q (own.own ∙ e))
      (⊎_elim parameter_case local_case facts.origin_known)
    where
      facts : Rattle.table.specs.Accepted.HandleFacts t h
      facts = accepted.handle h own.there

      r_is : (declaration t h).routine ≡ q
      r_is = own.own ∙ e

      parameter_case : (declaration t h).origin ≡ 0
          → Fits copies f d h (cond (eqb (declaration t h).origin 0) (get_or values (get_or (passed a) (h - (routine t q).handle) 0) 0) (declaration t h).start)
      parameter_case o =
          let low : (routine t q).handle ≤ h = rw r_is at facts.from in
          let high : h < (routine t q).handle + (routine t q).parameters = rw r_is at (facts.parameter o) in
          let small : h - (routine t q).handle < (routine t q).parameters = omega arith in
          let back : (routine t q).handle + (h - (routine t q).handle) ≡ h = omega arith in
          rw o (subst (λ (j : ℕ). Fits copies f d j (get_or values (get_or (passed a) (h - (routine t q).handle) 0) 0)) back (params (h - (routine t q).handle) small))

      local_case : (declaration t h).origin ≡ 1
          → Fits copies f d h (cond (eqb (declaration t h).origin 0) (get_or values (get_or (passed a) (h - (routine t q).handle) 0) 0) (declaration t h).start)
      local_case o =
          rw o (record { flows = rules.flow_rules.local d h there own o; cell = facts.cell_there o; lock = facts.lock_there o })

  -- what an argument refers to, its parameter may refer to
  pub passed_fits : {c s : ℕ} (values : List ℕ) (q : ℕ) (a : Arguments) → Passes t (copies.of c) q a → Passing copies f.flow c s q a
      → Valued copies f c values → (k : ℕ) → k < (routine t q).parameters
      → Fits copies f (copies.leads c s) ((routine t q).handle + k) (get_or values (get_or (passed a) k 0) 0)
  passed_fits values q a passes passing valued k h =
      let argument = passes.argument k h in
      let fits = valued (get_or (passed a) k 0) argument.own in
      record {
        flows = passing k _ h fits.flows;
        cell = λ e. fits.cell (argument.kind ∙ e);
        lock = λ e. fits.lock (argument.kind ∙ e);
      }

  -- POINT: the handle may refer to what the other may refer to
  pub pointed_valued : {c : ℕ} (values : List ℕ) (h g : ℕ) → OwnHandle t (copies.of c) g → (declaration t h).kind ≡ (declaration t g).kind
      → ((x : ℕ) → f.flow c g x → f.flow c h x) → Valued copies f c values → Valued copies f c (set values h (get_or values g 0))
  pointed_valued {c} values h g own kind flows valued j own_j =
      set_case (Fits copies f c j) values h j (get_or values g 0) 0 new (valued j own_j)
    where
      new : j ≡ h → Fits copies f c j (get_or values g 0)
      new e =
          let fits = valued g own in
          subst (λ (i : ℕ). Fits copies f c i (get_or values g 0)) (sym e)
          (record { flows = flows _ fits.flows; cell = λ k. fits.cell (sym kind ∙ k); lock = λ k. fits.lock (sym kind ∙ k) })
