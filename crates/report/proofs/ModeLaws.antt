-- C-18: the held sets of the two modes. What is held for writing is held in either way, and where nothing is taken for reading the two are the same.
-- Assumes nothing.
use Prim.Native.Nat.{ℕ, ◌^◌, ◌<◌}
use Rattle.std.specs.Prelude.{◌≡◌, refl, Bool, true, false, cond, not, get_or, Option, Some, None}
use Rattle.std.proofs.Math.Path.{ap, fun_ext}
use Rattle.std.proofs.Common.{inl, inr}
use mathlib.Core.List.{List, [], ◌∷◌, ◌++◌, map}
use Rattle.sets.specs.Set.{union, minus}
use Rattle.table.specs.Table.{Table, statement}
use Rattle.table.specs.View.{view, set_on, list_on, test_on, calls, starts, takes_in, takes_to_read}
use Rattle.table.proofs.ViewLaws.{taken_takes}
use Rattle.table.specs.Accepted.{Accepted}
use Rattle.table.specs.declared.Statement.{Statement}
use Rattle.report.specs.Over.{joined_from}
use Rattle.report.proofs.OverLaws.{never}
use Rattle.report.specs.Greatest.{Way, greatest}
use Rattle.report.specs.Layout.{Layout}
use Rattle.report.specs.Fits.{Fits, copies_of}
use Rattle.report.specs.Operations.{nexts}
use Rattle.report.specs.Flow.{flow_at}
use Rattle.report.proofs.FlowLaws.{FlowHas}
use Rattle.report.proofs.EffectLaws.{GivesHas}
use Rattle.report.specs.Held.{all_locks, entry, only_lock, at_returns, taken_in, gained, lost, held_after, ways_from, all_ways, held_sets}
use Rattle.report.proofs.HeldLaws.{HeldHas, held_rules, held_greatest}
use Rattle.report.specs.Rules.{Place, After, HeldRules}

-- ---- "TAKE adds to both sets; TAKER adds only to the second set": so the first lies inside the second

module _ (t : Table) (k : Layout) (acc : Accepted t) (fits : Fits t k) (flow : List ℕ) (below : (i : ℕ) → get_or flow i 0 < 2 ^ 64) (given : List ℕ) where
  abbrev Written : ℕ → ℕ → ℕ → Type 0
  Written = HeldHas k (held_sets t k true flow given)

  written_after : (c s x : ℕ) (σ : Statement) → After (copies_of fits) true (FlowHas k flow) (GivesHas given) Written c s x σ
      → After (copies_of fits) false (FlowHas k flow) (GivesHas given) Written c s x σ
  written_after c s x σ (inl (inl (h, e, only))) = inl (inl (h, taken_takes true (view σ) e, only))
  written_after c s x σ (inl (inr called)) = inl (inr called)
  written_after c s x σ (inr kept) = inr kept

  written_rules : HeldRules (copies_of fits) false (FlowHas k flow) (GivesHas given) Written
  written_rules =
      let rules = held_rules t k acc fits true flow below given in
      record {
        locks = rules.locks;
        way = λ c s n x v g h. written_after c s x (statement t s) (rules.way c s n x v g h);
        by_call = rules.by_call;
        by_start = rules.by_start;
        by_main = rules.by_main;
      }

  pub writing_inside_either : (c s x : ℕ) → Place (copies_of fits) c s → HeldHas k (held_sets t k true flow given) c s x
      → HeldHas k (held_sets t k false flow given) c s x
  writing_inside_either c s x v h = held_greatest t k acc fits false flow below given Written written_rules c s x v h

-- ---- where no statement takes a lock for reading

module _ (t : Table) (k : Layout) (none : (s : ℕ) → takes_to_read (view (statement t s)) ≡ false) (flow given : List ℕ) where
  taken_same : (s : ℕ) → takes_in true (view (statement t s)) ≡ takes_in false (view (statement t s))
  taken_same s = go (view (statement t s)).takes (view (statement t s)).writing (none s)
    where
      go : (r : Option ℕ) (b : Bool) → test_on r (λ h. not b) ≡ false → cond b r None ≡ r
      go (Some h) true e = refl
      go (Some h) false e = never e
      go None true e = refl
      go None false e = refl

  ways_same : (c s : ℕ) → ways_from t k true flow given c s ≡ ways_from t k false flow given c s
  unfolding ways_from held_after gained taken_in
  ways_same c s =
      ap {B = List Way}
      (λ (r : Option ℕ).
      map
      (λ (n : ℕ).
      record {
        to = k.statement_place c n;
        brings = λ held.
            union (union (set_on r (λ h. only_lock (flow_at k flow c h))) (set_on (calls (view (statement t s))) (λ q. at_returns t k held (k.leads c s))))
            (minus (held (k.statement_place c s)) (lost k flow given c s (statement t s)));
      })
      (nexts s (statement t s))
      ++ (list_on (calls (view (statement t s))) (λ q. record { to = entry t k (k.leads c s); brings = λ held. held (k.statement_place c s) } ∷ [])
      ++ list_on (starts (view (statement t s))) (λ q. record { to = entry t k (k.leads c s); brings = λ held. 0 } ∷ [])))
      (taken_same s)

  pub modes_same : held_sets t k true flow given ≡ held_sets t k false flow given
  unfolding held_sets all_ways
  modes_same =
      ap {B = List ℕ}
      (λ (ways : ℕ → List Way).
      greatest (all_locks t) k.statements (record { to = entry t k k.first; brings = λ held. 0 } ∷ joined_from 0 k.statements ways))
      (fun_ext {B = λ _. List Way} (λ p. ways_same (k.statement_copy p) (k.statement_at p)))
