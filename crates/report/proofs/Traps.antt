-- What the rules say where document 01 names a trap, and C-18 one more: a law each. Assumes nothing.
use Rattle.std.specs.Prelude.{ℕ, ◌+◌, ◌≡◌, refl, Bool, true, Some, None}
use Rattle.std.proofs.Common.{sym, ap, subst, ◌∙◌, inl, inr, ⊎_elim}
use Rattle.table.specs.Table.{Table, routine, statement}
use Rattle.table.specs.View.{view, calls, starts, takes_in}
use Rattle.table.proofs.ViewLaws.{nothing_to, one_reference, taken_takes}
use Rattle.table.specs.declared.Arguments.{Arguments}
use Rattle.table.specs.declared.Handle.{Handle}
use Rattle.table.specs.declared.Statement.{Statement}
use Rattle.table.specs.declared.Statement.TheVariants.{Give, Call, Start, TakeRead}
use Rattle.report.specs.Rules.{Copies, Place, AtReturns, After, Does, Clash, Families, Rules}

module _ {t : Table} (copies : Copies t) (f : Families) (rules : Rules copies f) where
  -- what is held after a statement that goes on, in each mode
  held_after_lem : (mode : Bool) (c s k : ℕ) (σ : Statement) → Place copies c s → statement t s ≡ σ → (view σ).onward ≡ true → f.held mode c (s + 1) k
      → After copies mode f.flow f.gives (f.held mode) c s k σ
  held_after_lem mode c s k σ here eq on held =
      subst (After copies mode f.flow f.gives (f.held mode) c s k) eq
      ((rules.held_rules mode).way c s (s + 1) k here (inr (ap (λ (τ : Statement). (view τ).onward) eq ∙ on, refl)) held)

  -- a statement that takes no lock in a mode, and calls nothing, adds none to its sets
  adds_none : (mode : Bool) (c s k : ℕ) (σ : Statement) → takes_in mode (view σ) ≡ None → calls (view σ) ≡ None
      → After copies mode f.flow f.gives (f.held mode) c s k σ → f.held mode c s k
  adds_none mode c s k σ takes calls (inl (inl (h, e, only))) = nothing_to (sym takes ∙ e)
  adds_none mode c s k σ takes calls (inl (inr (q, e, all))) = nothing_to (sym calls ∙ e)
  adds_none mode c s k σ takes calls (inr (was, kept)) = was

  -- "taking any possible lock of a handle as held": a TAKE, or TAKER, whose handle may be two locks adds none
  pub two_locks_add_none : (mode : Bool) (c s k a b h : ℕ) (σ : Statement) → Place copies c s → statement t s ≡ σ → (view σ).onward ≡ true → (view σ).takes ≡ Some h
      → calls (view σ) ≡ None → f.flow c h a → f.flow c h b → (a ≡ b → ⊥) → f.held mode c (s + 1) k → f.held mode c s k
  two_locks_add_none mode c s k a b h σ here eq on takes calls is_a is_b differ held = go (held_after_lem mode c s k σ here eq on held)
    where
      go : After copies mode f.flow f.gives (f.held mode) c s k σ → f.held mode c s k
      go (inl (inl (j, e, only))) =
          let same : j ≡ h = one_reference (view σ).takes (taken_takes mode (view σ) e) takes in
          absurd (differ (only.alone a (subst (λ (i : ℕ). f.flow c i a) (sym same) is_a) ∙ sym (only.alone b (subst (λ (i : ℕ). f.flow c i b) (sym same) is_b))))
      go (inl (inr (q, e, all))) = nothing_to (sym calls ∙ e)
      go (inr (was, kept)) = was

  -- C-18: "TAKER adds only to the second set": no lock is held for writing because of it
  pub taker_adds_no_writing : (c s k : ℕ) (h : Handle) → Place copies c s → statement t s ≡ TakeRead h → f.held true c (s + 1) k → f.held true c s k
  taker_adds_no_writing c s k h here eq held = adds_none true c s k (TakeRead h) refl refl (held_after_lem true c s k (TakeRead h) here eq refl held)

  -- GIVE removes every lock that its handle may be, in each mode
  pub give_removes_all : (mode : Bool) (c s k : ℕ) (h : Handle) → Place copies c s → statement t s ≡ Give h → f.flow c h.number k → f.held mode c (s + 1) k → ⊥
  give_removes_all mode c s k h here eq may held = go (held_after_lem mode c s k (Give h) here eq refl held)
    where
      go : After copies mode f.flow f.gives (f.held mode) c s k (Give h) → ⊥
      go (inl (inl (j, e, only))) = nothing_to (taken_takes mode (view (Give h)) e)
      go (inl (inr (q, e, all))) = nothing_to e
      go (inr (was, kept)) = kept (inl (h.number, refl, may))

  -- "counting a lock kept over a call that may give it up": such a lock is held afterwards only if it is held at every RETURN
  pub given_lock_not_kept : (mode : Bool) (c s k q : ℕ) (a : Arguments) → Place copies c s → statement t s ≡ Call q a → f.gives (copies.leads c s) k
      → f.held mode c (s + 1) k → AtReturns copies mode f.flow f.gives (f.held mode) (copies.leads c s) k
  given_lock_not_kept mode c s k q a here eq given held = go (held_after_lem mode c s k (Call q a) here eq refl held)
    where
      go : After copies mode f.flow f.gives (f.held mode) c s k (Call q a) → AtReturns copies mode f.flow f.gives (f.held mode) (copies.leads c s) k
      go (inl (inl (j, e, only))) = nothing_to (taken_takes mode (view (Call q a)) e)
      go (inl (inr (r, e, all))) = all
      go (inr (was, kept)) = absurd (kept (inr (q, refl, given)))

  -- a GIVE below a CALL counts as one of the caller's
  pub callee_gives : (c s k q : ℕ) (a : Arguments) (z : ℕ) (h : Handle) → Place copies c s → statement t s ≡ Call q a → Place copies (copies.leads c s) z
      → statement t z ≡ Give h → f.flow (copies.leads c s) h.number k → f.gives c k
  callee_gives c s k q a z h here eq there eq' may =
      rules.gives_rules.by_call c s k q here (ap (λ (σ : Statement). calls (view σ)) eq)
      (rules.gives_rules.by_give (copies.leads c s) z k h.number there (ap (λ (σ : Statement). (view σ).gives) eq') may)

  -- a started thread holds nothing, and nor does thread 0: the way into a routine by START and into routine 0 is empty
  pub start_holds_none : (mode : Bool) (c s k q : ℕ) (a : Arguments) → Place copies c s → statement t s ≡ Start q a
      → f.held mode (copies.leads c s) (routine t q).first k → ⊥
  start_holds_none mode c s k q a here eq = (rules.held_rules mode).by_start c s k q here (ap (λ (σ : Statement). starts (view σ)) eq)

  pub main_holds_none : (mode : Bool) (k : ℕ) → f.held mode copies.main (routine t 0).first k → ⊥
  main_holds_none mode k = (rules.held_rules mode).by_main k

  -- "forgetting that a started thread's own STARTs belong to its effect"
  pub starts_count_in_effect : (c s : ℕ) (w : Bool) (x q : ℕ) (a : Arguments) → Place copies c s → statement t s ≡ Start q a
      → f.effect (copies.leads c s) w x → f.effect c w x
  starts_count_in_effect c s w x q a here eq does = rules.effect_rules.of_statement c s w x here (inr (q, ap (λ (σ : Statement). (view σ).names) eq, does))

  -- what a CALL may come to afterwards is in the future of every statement of the routine called
  pub callers_count_in_future : (c s z : ℕ) (w : Bool) (x q : ℕ) (a : Arguments) → Place copies c s → statement t s ≡ Call q a
      → Place copies (copies.leads c s) z → Place copies c (s + 1) → Does copies f.flow f.effect c (s + 1) (statement t (s + 1)) w x
      → f.future (copies.leads c s) z w x
  callers_count_in_future c s z w x q a here eq there after does =
      rules.future_rules.callers c s z w x q here (ap (λ (σ : Statement). calls (view σ)) eq) there
      (rules.future_rules.next c s (s + 1) w x here after (inr (ap (λ (σ : Statement). (view σ).onward) eq, refl)) does)

-- "calling two readers a race": where neither writes there is no clash
pub readers_do_not_clash : (P Q : Bool → ℕ → Type 0) (x : ℕ) → (P true x → ⊥) → (Q true x → ⊥) → Clash P Q x → ⊥
readers_do_not_clash P Q x p q clash =
    ⊎_elim (λ e. p (subst (λ (b : Bool). P b x) e clash.touches)) (λ e. q (subst (λ (b : Bool). Q b x) e clash.touches_too))
    clash.one_writes
