-- The invariant is kept by each operation. Assumes nothing.
use Rattle.std.specs.Prelude.{ℕ, ◌+◌, ◌<◌, ◌≡◌, Bool, cond, List, [], ◌∷◌, ◌⊎◌, ℤ, pos, get_or, length, set, Some, None}
use Rattle.std.proofs.Common.{sym, ap, ◌∙◌, subst, ⊎_elim, length-set, get_or-set_same}
use Rattle.std.proofs.Math.Path.{refl}
use Rattle.std.proofs.Math.Bool.{true, false}
use Rattle.std.proofs.Math.Logic.{inl, inr}
use Rattle.table.specs.Table.{Table, routine, statement}
use Rattle.table.specs.View.{view, calls, starts, takes_in}
use Rattle.table.proofs.ViewLaws.{nothing_to, one_reference, taken_takes}
use Rattle.table.specs.Accepted.{Accepted, Operands, Passes, OwnOfKind, Names}
use Rattle.table.specs.declared.Arguments.{Arguments}
use Rattle.table.specs.declared.Handle.{Handle}
use Rattle.table.specs.declared.Statement.{Statement}
use Rattle.table.specs.declared.Statement.TheVariants.{Read, Write, Set, Add, Take, Give, Point, Call, Start, Jump, JumpZero, Return, TakeRead}
use Rattle.machine.specs.State.{State, Frame, Holder, free, holds_in, holder, opened}
use Rattle.machine.proofs.Lists.{set_case}
use Rattle.machine.specs.Step.{Answer, moved, Turn, passes, stops, taking, reading, giving, turned, operate, with_thread, after, is_zero}
use Rattle.machine.proofs.LockLaws.{OnPass, on_both, OthersKeep, taking_gets, taking_others, reading_gets, reading_keeps, giving_others}
use Rattle.report.specs.Rules.{Copies, Place, Goes, After, Clash, Families, Rules, Passing}
use Rattle.guarantee.proofs.Lists.{replaced, replaced_all}
use Rattle.guarantee.specs.Invariant.{Mark, Several, newest, waiting, older, Fits, Valued, Has, Stands, AllWait, Good, Left, Potential}
use Rattle.guarantee.specs.Invariant.{Called, Behind, Invariant}
use Rattle.guarantee.proofs.Shrink.{clash_wider, goes_place, first_place, ahead_in_effect, ahead_follows, inside_in_future, left_in_future}
use Rattle.guarantee.proofs.Frames.{wait_still, reaching_called, opened_valued, passed_fits, pointed_valued}
use Rattle.guarantee.proofs.Threads.{others_behind, thread_changed, thread_added}

-- the invariant holds after an answer, for some marks
abbrev pub Kept : {t : Table} (copies : Copies t) (f : Families) → State → Answer → Type 0
Kept copies f state answer = (marks : ℕ → List Mark) × Invariant copies f (after state answer) marks

module _ {t : Table} (accepted : Accepted t) (copies : Copies t) (f : Families) (rules : Rules copies f) (state : State) (marks : ℕ → List Mark)
    (inv : Invariant copies f state marks) (n : ℕ) (there : n < length state.threads) (a : ℤ) (m : Mark) (ms : List Mark) (e : marks n ≡ m ∷ ms) where
  good : Good copies f state.locks n (m ∷ ms)
  good = subst (λ (s : List Mark). Good copies f state.locks n s) e (inv.good n)

  top : Stands copies f state.locks n m
  top = good.0

  below : AllWait copies f state.locks n m.copy ms
  below = good.1

  behind : Several state → Behind copies f (m ∷ ms)
  behind several = subst (Behind copies f) e (inv.behind several n)

  top_preceded : Several state → f.preceded m.copy m.place
  top_preceded several = (behind several).0

  below_called : Several state → Called copies f m.copy ms
  below_called several = (behind several).1

  -- what the operation's statement says of its operands
  operands : (σ : Statement) → statement t m.place ≡ σ → Operands t (copies.of m.copy) σ
  operands σ eq =
      subst (Operands t (copies.of m.copy)) eq
      (accepted.operands _ m.place (copies.of_there m.copy top.here.there) top.here.inside)

  goes_as : (σ : Statement) → statement t m.place ≡ σ → (s : ℕ) → Goes m.place σ s → Goes m.place (statement t m.place) s
  goes_as σ eq s g = subst (λ (τ : Statement). Goes m.place τ s) (sym eq) g

  -- what is held at the statement that it goes to, is held after it
  after_as : (σ : Statement) → statement t m.place ≡ σ → (s : ℕ) → Goes m.place σ s → (w : Bool) (k : ℕ) → f.held w m.copy s k
      → After copies w f.flow f.gives (f.held w) m.copy m.place k σ
  after_as σ eq s g w k held =
      subst (After copies w f.flow f.gives (f.held w) m.copy m.place k) eq
      ((rules.held_rules w).way m.copy m.place s k top.here (goes_as σ eq s g) held)

  -- a step inside the newest frame touches nothing new
  stays_within : (s : ℕ) (values : List ℕ) → Goes m.place (statement t m.place) s → (w : Bool) (x : ℕ)
      → Potential copies f (record { copy = m.copy; place = s; values = values } ∷ ms) w x → Potential copies f (m ∷ ms) w x
  stays_within s values g w x =
      ⊎_elim (λ ahead. inl (inr (ahead_follows accepted copies f rules (goes_place accepted copies top.here g) g ahead)))
      (λ left. inr left)

  before : (w : Bool) (x : ℕ) → Potential copies f (m ∷ ms) w x → Potential copies f (marks n) w x
  before w x = subst (λ (s : List Mark). Potential copies f s w x) (sym e)

  -- the thread goes to statement s of its frame, with the values, cells and locks given
  in_frame : (s : ℕ) (values : List ℕ) (b : ℤ) (cells : List ℤ) (locks : List Holder) (σ : Statement) → statement t m.place ≡ σ → Goes m.place σ s
      → length locks ≡ t.locks → Valued copies f m.copy values → ((w : Bool) (k : ℕ) → f.held w m.copy s k → Has copies f locks n w k)
      → AllWait copies f locks n m.copy ms
      → ((o : ℕ) (w : Bool) (k : ℕ) → (o ≡ n → ⊥) → Has copies f state.locks o w k → Has copies f locks o w k)
      → Kept copies f state
      (moved (with_thread state n b (newest copies f (record { copy = m.copy; place = s; values = values }) ∷ older copies f ms) cells locks))
  in_frame s values b cells locks σ eq g all valued holds wait others = (
    replaced marks n (record { copy = m.copy; place = s; values = values } ∷ ms),
    thread_changed copies f rules state marks inv n there b _ cells locks (record { copy = m.copy; place = s; values = values } ∷ ms) refl all
        (record { here = to; valued = valued; holds = holds }, wait) others (λ w x p. before w x (stays_within s values goes w x p))
        (λ several. (rules.preceded_rules.later m.copy m.place s top.here to goes (top_preceded several), below_called several)),
  )
    where
      goes : Goes m.place (statement t m.place) s
      goes = goes_as σ eq s g

      to : Place copies m.copy s
      to = goes_place accepted copies top.here goes

  -- a statement that takes nothing and calls nothing adds no lock
  adds_none : (w : Bool) (k : ℕ) (σ : Statement) → (view σ).takes ≡ None → calls (view σ) ≡ None
      → After copies w f.flow f.gives (f.held w) m.copy m.place k σ → f.held w m.copy m.place k
  adds_none w k σ takes calls (inl (inl (h, is, only))) = nothing_to (sym takes ∙ taken_takes w (view σ) is)
  adds_none w k σ takes calls (inl (inr (q, is, all))) = nothing_to (sym calls ∙ is)
  adds_none w k σ takes calls (inr (was, kept)) = was

  -- an operation that keeps the values and the locks
  onward : (s : ℕ) (b : ℤ) (cells : List ℤ) (σ : Statement) → statement t m.place ≡ σ → Goes m.place σ s
      → (view σ).takes ≡ None → calls (view σ) ≡ None
      → Kept copies f state
      (moved (with_thread state n b (newest copies f (record { copy = m.copy; place = s; values = m.values }) ∷ older copies f ms) cells state.locks))
  onward s b cells σ eq g takes calls =
      in_frame s m.values b cells state.locks σ eq g inv.all_locks_lem top.valued
      (λ w k held. top.holds w k (adds_none w k σ takes calls (after_as σ eq s g w k held))) below (λ o w k other has. has)

  -- ---- TAKE, TAKER and GIVE

  -- a turn at the lock that a handle of the newest frame refers to
  module _ (σ : Statement) (eq : statement t m.place ≡ σ) (h : ℕ) (own : OwnOfKind t (copies.of m.copy) 2 h)
      (onward : (view σ).onward ≡ true) (no_call : calls (view σ) ≡ None) where
    abbrev lock : ℕ
    lock = get_or m.values h 0

    fits : Fits copies f m.copy h lock
    fits = top.valued h own.own

    in_range : lock < length state.locks
    in_range = rw inv.all_locks_lem (fits.lock own.kind)

    goes_on_to : Goes m.place σ (m.place + 1)
    goes_on_to = inr (onward, refl)

    -- what this turn makes of the lock, with what it says of other locks kept
    module _ (new : Holder) where
      abbrev after_turn : List Holder
      after_turn = set state.locks lock new

      at_lock : (o : ℕ) (w : Bool) (k : ℕ) → lock ≡ k → holds_in w new o ≡ true → Has copies f after_turn o w k
      at_lock o w k at holds =
          subst (λ (j : ℕ). Has copies f after_turn o w j) at (subst (λ (x : Holder). holds_in w x o ≡ true) (sym (get_or-set_same state.locks lock new free in_range)) holds)

      -- a thread that keeps its hold on this lock keeps every hold
      keeps : (o : ℕ) (w : Bool) (k : ℕ) → (k ≡ lock → holds_in w new o ≡ true) → Has copies f state.locks o w k → Has copies f after_turn o w k
      keeps o w k here has = set_case (λ x. holds_in w x o ≡ true) state.locks lock k new free here has

      other_keeps : OthersKeep n (holder state lock) new → (o : ℕ) (w : Bool) (k : ℕ) → (o ≡ n → ⊥) → Has copies f state.locks o w k → Has copies f after_turn o w k
      other_keeps others o w k other has =
          keeps o w k (λ at. others w o other (subst (λ (j : ℕ). Has copies f state.locks o w j) at has)) has

    -- where it passes, the thread goes on: it holds what the statement adds, and what it held but for what the statement may give up, and the others lose nothing
    record Turned (new : Holder) : Type 0 where
      adds : (w : Bool) (k : ℕ) → takes_in w (view σ) ≡ Some h → lock ≡ k → holds_in w new n ≡ true
      own_kept : (w : Bool) → ((view σ).gives ≡ Some h → ⊥) → holds_in w (holder state lock) n ≡ true → holds_in w new n ≡ true
      others : OthersKeep n (holder state lock) new

    turn_kept : (takes : (w : Bool) (j : ℕ) → takes_in w (view σ) ≡ Some j → j ≡ h) (turn : Turn)
        → OnPass turn Turned → Kept copies f state (turned t state n a (newest copies f m) (older copies f ms) lock turn)
    turn_kept takes (stops number) p = (marks, inv)
    turn_kept takes (passes new) p =
        in_frame (m.place + 1) m.values a state.cells (after_turn new) σ eq goes_on_to (length-set state.locks lock new ∙ inv.all_locks_lem) top.valued
        (λ w k held. holds w k (after_as σ eq (m.place + 1) goes_on_to w k held))
        (wait_still copies f rules state.locks (after_turn new) n m.copy ms (λ w k not_given has. kept w k (λ at gave. not_given (given at gave)) has) below)
        (other_keeps new p.others)
      where
        given : {k : ℕ} → k ≡ lock → (view σ).gives ≡ Some h → f.gives m.copy k
        given at gave =
            subst (f.gives m.copy) (sym at)
            (rules.gives_rules.by_give m.copy m.place lock h top.here (ap (λ (τ : Statement). (view τ).gives) eq ∙ gave) fits.flows)

        kept : (w : Bool) (k : ℕ) → (k ≡ lock → (view σ).gives ≡ Some h → ⊥) → Has copies f state.locks n w k → Has copies f (after_turn new) n w k
        kept w k stays has =
            keeps new n w k (λ at. p.own_kept w (stays at) (subst (λ (j : ℕ). Has copies f state.locks n w j) at has)) has

        holds : (w : Bool) (k : ℕ) → After copies w f.flow f.gives (f.held w) m.copy m.place k σ → Has copies f (after_turn new) n w k
        holds w k (inl (inl (j, is, only))) =
            let same : j ≡ h = takes w j is in
            let at : lock ≡ k = only.alone lock (subst (λ (i : ℕ). f.flow m.copy i lock) (sym same) fits.flows) in
            at_lock new n w k at (p.adds w k (is ∙ ap Some same) at)
        holds w k (inl (inr (q, is, all))) = nothing_to (sym no_call ∙ is)
        holds w k (inr (was, stays)) =
            kept w k (λ at gave. stays (inl (h, gave, subst (f.flow m.copy h) (sym at) fits.flows))) (top.holds w k was)

  taken : (h : Handle) → statement t m.place ≡ Take h → Kept copies f state (operate t state n a (newest copies f m) (older copies f ms) (Take h))
  unfolding operate
  taken h eq =
      turn_kept σ eq h.number own refl refl (λ w j is. one_reference (view σ).takes (taken_takes w (view σ) is) refl) (taking n who)
      (on_both (taking n who) {R = Turned σ eq h.number own refl refl}
      (λ new gets others. record { adds = λ w k is at. gets w; own_kept = λ w stays has. gets w; others = others }) (taking_gets n who) (taking_others n who))
    where
      σ : Statement
      σ = Take h

      who : Holder
      who = holder state (get_or m.values h.number 0)

      own : OwnOfKind t (copies.of m.copy) 2 h.number
      own = (operands σ eq).takes h.number refl

  taken_to_read : (h : Handle) → statement t m.place ≡ TakeRead h → Kept copies f state (operate t state n a (newest copies f m) (older copies f ms) (TakeRead h))
  unfolding operate
  taken_to_read h eq =
      turn_kept σ eq h.number own refl refl (λ w j is. one_reference (view σ).takes (taken_takes w (view σ) is) refl) (reading n who)
      (on_both (reading n who) {R = Turned σ eq h.number own refl refl}
      (λ new gets keeps. record { adds = λ w k is at. adds new gets w is; own_kept = λ w stays has. keeps w n has; others = λ w o other has. keeps w o has })
      (reading_gets n who) (reading_keeps n who))
    where
      σ : Statement
      σ = TakeRead h

      who : Holder
      who = holder state (get_or m.values h.number 0)

      own : OwnOfKind t (copies.of m.copy) 2 h.number
      own = (operands σ eq).takes h.number refl

      -- "TAKER adds only to the second set"
      adds : (new : Holder) → holds_in false new n ≡ true → (w : Bool) → takes_in w (view (TakeRead h)) ≡ Some h.number → holds_in w new n ≡ true
      adds new gets true is = nothing_to is
      adds new gets false is = gets

  given : (h : Handle) → statement t m.place ≡ Give h → Kept copies f state (operate t state n a (newest copies f m) (older copies f ms) (Give h))
  unfolding operate
  given h eq =
      turn_kept σ eq h.number own refl refl (λ w j is. nothing_to (taken_takes w (view σ) is)) (giving n who)
      (on_both (giving n who) {R = Turned σ eq h.number own refl refl}
      (λ new others too. record { adds = λ w k is at. nothing_to (taken_takes w (view σ) is); own_kept = λ w stays has. absurd (stays refl); others = others })
      (giving_others n who) (giving_others n who))
    where
      σ : Statement
      σ = Give h

      who : Holder
      who = holder state (get_or m.values h.number 0)

      own : OwnOfKind t (copies.of m.copy) 2 h.number
      own = (operands σ eq).gives h.number refl

  -- ---- CALL, RETURN and START

  passing_as : (σ : Statement) → statement t m.place ≡ σ → (q : ℕ) → Names σ q → Passing copies f.flow m.copy m.place q (view σ).arguments
  passing_as σ eq q names =
      subst (λ (τ : Statement). Passing copies f.flow m.copy m.place q (view τ).arguments) eq
      (rules.flow_rules.passing m.copy m.place q top.here (subst (λ (τ : Statement). Names τ q) (sym eq) names))

  -- the copy that a CALL or START leads to, its first statement, and the frame that is opened there
  module _ (σ : Statement) (eq : statement t m.place ≡ σ) (q : ℕ) (arguments : Arguments) (names : Names σ q)
      (passes : Passes t (copies.of m.copy) q arguments) (passing : Passing copies f.flow m.copy m.place q arguments) where
    callee : Mark
    callee =
        record {
          copy = copies.leads m.copy m.place;
          place = (routine t q).first;
          values = (opened t q m.values arguments).values;
        }

    named : Names (statement t m.place) q
    named = subst (λ (τ : Statement). Names τ q) (sym eq) names

    callee_there : callee.copy < copies.count
    unfolding callee
    callee_there = copies.leads_there m.copy m.place q top.here.there top.here.inside named

    callee_of : copies.of callee.copy ≡ q
    unfolding callee
    callee_of = copies.leads_of m.copy m.place q top.here.there top.here.inside named

    callee_place : Place copies callee.copy callee.place
    unfolding callee
    callee_place = first_place accepted copies callee.copy q callee_there callee_of

    callee_valued : Valued copies f callee.copy callee.values
    unfolding callee
    callee_valued =
        opened_valued accepted copies f rules callee.copy q m.values arguments callee_there callee_of
        (passed_fits accepted copies f rules m.values q arguments passes passing top.valued)

    callee_frame : opened t q m.values arguments ≡ newest copies f callee
    unfolding callee opened
    callee_frame = rw callee_of

  called : (q : ℕ) (arguments : Arguments) → statement t m.place ≡ Call q arguments
      → Kept copies f state
      (moved (with_thread state n a (opened t q m.values arguments ∷ waiting copies f m ∷ older copies f ms) state.cells state.locks))
  unfolding callee
  called q arguments eq = (
    replaced marks n (new ∷ m ∷ ms),
    thread_changed copies f rules state marks inv n there a _ state.cells state.locks (new ∷ m ∷ ms)
        (ap (λ (g : Frame). g ∷ waiting copies f m ∷ older copies f ms) (callee_frame σ eq q arguments refl passes passing)) inv.all_locks_lem (
          record {
            here = new_place;
            valued = callee_valued σ eq q arguments refl passes passing;
            holds = λ w k held. top.holds w k ((rules.held_rules w).by_call m.copy m.place k q top.here calls_q held);
          },
          (
            record {
              named = q;
              arguments = arguments;
              here = top.here;
              calls = eq;
              leads = refl;
              valued = top.valued;
              holds = λ w k held kept. top.holds w k held;
            },
            below,
          ),
        )
        (λ o w k other has. has) (λ w x p. before w x (within w x p))
        (λ several. (
          rules.preceded_rules.by_call m.copy m.place new.place q top.here calls_q new_place (top_preceded several),
          (inl (top_preceded several), below_called several),
        )),
  )
    where
      σ : Statement
      σ = Call q arguments

      calls_q : calls (view (statement t m.place)) ≡ Some q
      calls_q = ap (λ (τ : Statement). calls (view τ)) eq

      passes : Passes t (copies.of m.copy) q arguments
      passes = (operands σ eq).passes q refl

      passing : Passing copies f.flow m.copy m.place q arguments
      passing = passing_as σ eq q refl

      new : Mark
      new = callee σ eq q arguments refl passes passing

      new_place : Place copies new.copy new.place
      new_place = callee_place σ eq q arguments refl passes passing

      within : (w : Bool) (x : ℕ) → Potential copies f (new ∷ m ∷ ms) w x → Potential copies f (m ∷ ms) w x
      within w x (inl ahead) =
          inl (inl (inr (q, ap (λ (τ : Statement). (view τ).names) eq, ahead_in_effect accepted copies f rules new_place ahead)))
      within w x (inr (inl inside)) = inl (inr inside)
      within w x (inr (inr left)) = inr left

  returned : statement t m.place ≡ Return → Kept copies f state (moved (with_thread state n a (older copies f ms) state.cells state.locks))
  returned eq = go ms below (λ w x left. before w x (inr left)) below_called
    where
      go : (cs : List Mark) → AllWait copies f state.locks n m.copy cs
          → ((w : Bool) (x : ℕ) → Left copies f cs w x → Potential copies f (marks n) w x) → (Several state → Called copies f m.copy cs)
          → Kept copies f state (moved (with_thread state n a (older copies f cs) state.cells state.locks))
      go [] wait less were = (
        replaced marks n [],
        thread_changed copies f rules state marks inv n there a [] state.cells state.locks [] refl inv.all_locks_lem tt (λ o w k other has. has)
            (λ w x p. absurd p) (λ several. tt),
      )
      go (c ∷ cs) (wait, under) less were = (
        replaced marks n (back ∷ cs),
        thread_changed copies f rules state marks inv n there a _ state.cells state.locks (back ∷ cs) refl inv.all_locks_lem
            (record { here = back_place_lem; valued = wait.valued; holds = holds }, under) (λ o w k other has. has)
            (λ w x p. less w x (⊎_elim (λ ahead. inl (ahead_follows accepted copies f rules back_place_lem goes ahead)) (λ left. inr left) p))
            (λ several. (back_preceded (were several).0, (were several).1)),
      )
        where
          back : Mark
          back = record { copy = c.copy; place = c.place + 1; values = c.values }

          goes : Goes c.place (statement t c.place) (c.place + 1)
          goes = inr (ap (λ (τ : Statement). (view τ).onward) wait.calls, refl)

          back_place_lem : Place copies c.copy (c.place + 1)
          back_place_lem = goes_place accepted copies wait.here goes

          -- a START can precede the CALL, or came while it waited
          back_preceded : f.preceded c.copy c.place ⊎ f.reaches m.copy → f.preceded c.copy (c.place + 1)
          back_preceded (inl was) = rules.preceded_rules.later c.copy c.place (c.place + 1) wait.here back_place_lem goes was
          back_preceded (inr reaches) =
              rules.preceded_rules.next c.copy c.place (c.place + 1) wait.here back_place_lem goes
              (inr (wait.named, ap (λ (τ : Statement). calls (view τ)) wait.calls, subst f.reaches (sym wait.leads) reaches))

          holds_after : (w : Bool) (k : ℕ) → After copies w f.flow f.gives (f.held w) c.copy c.place k (Call wait.named wait.arguments)
              → Has copies f state.locks n w k
          holds_after w k (inl (inl (h, is, only))) = nothing_to (taken_takes w (view (Call wait.named wait.arguments)) is)
          holds_after w k (inl (inr (q, is, all))) =
              top.holds w k
              (subst (λ (d : ℕ). f.held w d m.place k) wait.leads
              (all m.place (subst (λ (d : ℕ). Place copies d m.place) (sym wait.leads) top.here) (ap (λ (τ : Statement). (view τ).ends) eq)))
          holds_after w k (inr (was, kept)) = wait.holds w k was (λ given. kept (inr (wait.named, refl, subst (λ (d : ℕ). f.gives d k) (sym wait.leads) given)))

          holds : (w : Bool) (k : ℕ) → f.held w c.copy (c.place + 1) k → Has copies f state.locks n w k
          holds w k held =
              holds_after w k
              (subst (After copies w f.flow f.gives (f.held w) c.copy c.place k) wait.calls
              ((rules.held_rules w).way c.copy c.place (c.place + 1) k wait.here goes held))

  started : (q : ℕ) (arguments : Arguments) → statement t m.place ≡ Start q arguments
      → Kept copies f state (operate t state n a (newest copies f m) (older copies f ms) (Start q arguments))
  unfolding callee operate onward in_frame
  started q arguments eq = (
    replaced (replaced marks n (on ∷ ms)) _ (new ∷ []),
    thread_added copies f rules _ (replaced marks n (on ∷ ms)) (onward (m.place + 1) a state.cells σ eq (inr (refl, refl)) refl refl).1 (pos 0) _ (new ∷ [])
        (ap (λ (g : Frame). g ∷ []) (callee_frame σ eq q arguments refl passes passing)) (
          record {
            here = new_place;
            valued = callee_valued σ eq q arguments refl passes passing;
            holds = λ w k held. absurd ((rules.held_rules w).by_start m.copy m.place k q top.here starts_q held);
          },
          tt,
        ) parted (λ some_thread. ((rules.preceded_rules.by_start m.copy m.place new.place q top.here starts_q new_place, tt), all_behind)),
  )
    where
      σ : Statement
      σ = Start q arguments

      starts_q : starts (view (statement t m.place)) ≡ Some q
      starts_q = ap (λ (τ : Statement). starts (view τ)) eq

      passes : Passes t (copies.of m.copy) q arguments
      passes = (operands σ eq).passes q refl

      passing : Passing copies f.flow m.copy m.place q arguments
      passing = passing_as σ eq q refl

      new : Mark
      new = callee σ eq q arguments refl passes passing

      new_place : Place copies new.copy new.place
      new_place = callee_place σ eq q arguments refl passes passing

      -- the starter, one statement on
      on : Mark
      on = record { copy = m.copy; place = m.place + 1; values = m.values }

      goes : Goes m.place (statement t m.place) (m.place + 1)
      goes = inr (ap (λ (τ : Statement). (view τ).onward) eq, refl)

      on_place : Place copies m.copy (m.place + 1)
      on_place = goes_place accepted copies top.here goes

      -- the new thread touches what the started copy does
      in_effect : (w : Bool) (x : ℕ) → Potential copies f (new ∷ []) w x → f.effect new.copy w x
      in_effect w x (inl ahead) = ahead_in_effect accepted copies f rules new_place ahead
      in_effect w x (inr left) = absurd left

      -- the starter touches what lies in the START's future
      in_future : (w : Bool) (x : ℕ) → Potential copies f (on ∷ ms) w x → f.future m.copy m.place w x
      in_future w x (inl ahead) =
          inside_in_future accepted copies f rules top.here (ahead_follows accepted copies f rules on_place goes ahead)
      in_future w x (inr left) = left_in_future accepted copies f rules state.locks n m.copy m.place ms w x top.here below left

      -- what the new thread touches, the starter's START did
      from_starter : (w : Bool) (x : ℕ) → Potential copies f (new ∷ []) w x → Potential copies f (marks n) w x
      from_starter w x p = before w x (inl (inl (inr (q, ap (λ (τ : Statement). (view τ).names) eq, in_effect w x p))))

      parted : (o x : ℕ) → Clash (Potential copies f (new ∷ [])) (Potential copies f (replaced marks n (on ∷ ms) o)) x → f.shared x
      parted o x =
          replaced_all (λ o s. Clash (Potential copies f (new ∷ [])) (Potential copies f s) x → f.shared x) marks n (on ∷ ms)
          (λ clash. rules.shared_rules.at_start m.copy m.place x q top.here starts_q
          (clash_wider (λ w. in_effect w x) (λ w. in_future w x) clash))
          (λ o other clash. inv.apart n o x (λ same. other (sym same)) (clash_wider (λ w. from_starter w x) (λ w p. p) clash)) o

      -- a START can precede the starter's next statement, each CALL of it that waits reaches one, and the others had the starter beside them
      all_behind : (o : ℕ) → Behind copies f (replaced marks n (on ∷ ms) o)
      all_behind =
          replaced_all (λ o s. Behind copies f s) marks n (on ∷ ms) (
            rules.preceded_rules.next m.copy m.place (m.place + 1) top.here on_place goes (inl (q, starts_q, tt)),
            reaching_called copies f rules state.locks n m.copy ms below (rules.reach_rules.by_start m.copy m.place q top.here starts_q),
          )
          (λ o other. others_behind copies f rules state marks inv n o there other)

  -- ---- every operation

  pub operated : (σ : Statement) → statement t m.place ≡ σ → Kept copies f state (operate t state n a (newest copies f m) (older copies f ms) σ)
  unfolding operate
  operated (Read h) eq = onward (m.place + 1) _ state.cells (Read h) eq (inr (refl, refl)) refl refl
  operated (Write h) eq = onward (m.place + 1) a _ (Write h) eq (inr (refl, refl)) refl refl
  operated (Set number) eq = onward (m.place + 1) number state.cells (Set number) eq (inr (refl, refl)) refl refl
  operated (Add number) eq = onward (m.place + 1) _ state.cells (Add number) eq (inr (refl, refl)) refl refl
  operated (Take h) eq = taken h eq
  operated (Give h) eq = given h eq
  operated (Point h g) eq =
      let ops = (operands (Point h g) eq).points h.number refl in
      in_frame (m.place + 1) _ a state.cells state.locks (Point h g) eq (inr (refl, refl)) inv.all_locks_lem
      (pointed_valued accepted copies f rules m.values h.number g.number ops.1 ops.2
      (subst (λ (τ : Statement). (x : ℕ) → f.flow m.copy (view τ).source x → f.flow m.copy h.number x) eq
      (rules.flow_rules.point m.copy m.place h.number top.here (ap (λ (τ : Statement). (view τ).points) eq)))
      top.valued)
      (λ w k held. top.holds w k (adds_none w k (Point h g) refl refl (after_as (Point h g) eq (m.place + 1) (inr (refl, refl)) w k held))) below
      (λ o w k other has. has)
  operated (Call q arguments) eq = called q arguments eq
  operated (Start q arguments) eq = started q arguments eq
  operated (Jump z) eq = onward z.statement a state.cells (Jump z) eq (inl refl) refl refl
  operated (JumpZero z) eq = onward _ a state.cells (JumpZero z) eq (either (is_zero a)) refl refl
    where
      either : (b : Bool) → Goes m.place (JumpZero z) (cond b z.statement (m.place + 1))
      either true = inl refl
      either false = inr (refl, refl)
  operated Return eq = returned eq
  operated (TakeRead h) eq = taken_to_read h eq
