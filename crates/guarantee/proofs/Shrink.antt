-- What a thread may still touch: it lies in the effect of the copies and in the futures, and a clash is symmetric and monotone. Assumes nothing.
use Rattle.std.specs.Prelude.{ℕ, ◌<◌, ◌≤◌, ◌≡◌, Bool, List, [], ◌∷◌}
use Rattle.std.proofs.Common.{arith, sym, ap, subst, inl, inr}
use Rattle.std.proofs.Math.Logic.{⊎_swap}
use Rattle.table.specs.Table.{Table, routine, statement}
use Rattle.table.specs.View.{view, calls}
use Rattle.table.specs.Accepted.{Accepted}
use Rattle.table.specs.declared.Statement.{Statement}
use Rattle.machine.specs.State.{Holder}
use Rattle.report.proofs.NextLaws.{goes_inside}
use Rattle.report.specs.Rules.{Copies, Place, Goes, Does, Clash, Families, Rules}
use Rattle.guarantee.specs.Invariant.{Mark, Inside, next, later, Left, Ahead, AllWait}

-- ---- clashes

pub clash_flip : {P Q : Bool → ℕ → Type 0} {x : ℕ} → Clash P Q x → Clash Q P x
unfolding ⊎_swap
clash_flip c =
    record { v = c.w; w = c.v; touches = c.touches_too; touches_too = c.touches; one_writes = ⊎_swap c.one_writes }

pub clash_wider : {P Q P' Q' : Bool → ℕ → Type 0} {x : ℕ} → ((w : Bool) → P w x → P' w x) → ((w : Bool) → Q w x → Q' w x) → Clash P Q x → Clash P' Q' x
clash_wider p q c =
    record { v = c.v; w = c.w; touches = p c.v c.touches; touches_too = q c.w c.touches_too; one_writes = c.one_writes }

module _ {t : Table} (accepted : Accepted t) (copies : Copies t) where
  -- ---- places: what may follow a statement, and where a named routine begins, is a place of the copy

  pub goes_place : {c s s' : ℕ} → Place copies c s → Goes s (statement t s) s' → Place copies c s'
  goes_place {c} {s} {s'} p g =
      let there = copies.of_there c p.there in
      record {
        there = p.there;
        inside = goes_inside t (copies.of c) s (statement t s) (accepted.operands _ s there p.inside) (accepted.goes_on _ s there p.inside) s' g;
      }

  pub first_place : (d q : ℕ) → d < copies.count → copies.of d ≡ q → Place copies d (routine t q).first
  first_place d q there e =
      let some : 1 ≤ (routine t q).count = rw e at (accepted.routine_facts (copies.of d) (copies.of_there d there)).some_statement in
      record { there = there; inside = rw e (record { low = omega arith; high = omega arith }) }

  module _ (f : Families) (rules : Rules copies f) where
    -- ---- effects

    pub does_in_effect : {c s : ℕ} {w : Bool} {x : ℕ} → Place copies c s → Does copies f.flow f.effect c s (statement t s) w x → f.effect c w x
    does_in_effect {c} {s} {w} {x} p d = rules.effect_rules.of_statement c s w x p d

    inside_effect : {c : ℕ} {w : Bool} {x s : ℕ} → Inside copies f c w x s → f.effect c w x
    inside_effect (next p g d) = does_in_effect p d
    inside_effect (later p g i) = inside_effect i

    pub inside_in_effect : {c s : ℕ} {w : Bool} {x : ℕ} → Inside copies f c w x s → f.effect c w x
    inside_in_effect i = inside_effect i

    pub ahead_in_effect : {c s : ℕ} {w : Bool} {x : ℕ} → Place copies c s → Ahead copies f c s w x → f.effect c w x
    ahead_in_effect p (inl d) = does_in_effect p d
    ahead_in_effect p (inr i) = inside_in_effect i

    -- ---- futures

    inside_future : {c : ℕ} {w : Bool} {x s : ℕ} → Place copies c s → Inside copies f c w x s → f.future c s w x
    inside_future {c} {w} {x} {s} p (next {s' = z} q g d) = rules.future_rules.next c s z w x p q g d
    inside_future {c} {w} {x} {s} p (later {s' = z} q g i) = rules.future_rules.later c s z w x p q g (inside_future q i)

    pub inside_in_future : {c s : ℕ} {w : Bool} {x : ℕ} → Place copies c s → Inside copies f c w x s → f.future c s w x
    inside_in_future p i = inside_future p i

    -- what waits below a frame lies in the future of each of its statements
    pub left_in_future : (locks : List Holder) (n d z : ℕ) (ms : List Mark) (w : Bool) (x : ℕ) → Place copies d z → AllWait copies f locks n d ms
        → Left copies f ms w x → f.future d z w x
    left_in_future locks n d z [] w x p wait l = absurd l
    left_in_future locks n d z (m ∷ ms) w x p (here, below) l =
        subst (λ (e : ℕ). f.future e z w x) here.leads
        (rules.future_rules.callers m.copy m.place z w x here.named here.here (ap (λ (σ : Statement). calls (view σ)) here.calls)
        (subst (λ (e : ℕ). Place copies e z) (sym here.leads) p) (below_call l (left_in_future locks n m.copy m.place ms w x here.here below)))
      where
        below_call : Left copies f (m ∷ ms) w x → (Left copies f ms w x → f.future m.copy m.place w x) → f.future m.copy m.place w x
        below_call (inl i) rest = inside_in_future here.here i
        below_call (inr l) rest = rest l

    -- ---- steps inside a frame

    -- what lies ahead of a statement that may follow lay inside
    pub ahead_follows : {c s s' : ℕ} {w : Bool} {x : ℕ} → Place copies c s' → Goes s (statement t s) s' → Ahead copies f c s' w x → Inside copies f c w x s
    ahead_follows p g (inl d) = next p g d
    ahead_follows p g (inr i) = later p g i
