-- The sets of a table that is accepted satisfy all rules of the report, and what the report says of a cell and of a GIVE is what the rules say.
-- Assumes nothing.
use Rattle.std.proofs.lemmas.Bool.{and_parts, and_from}
use Prim.Native.Nat.{ℕ, ◌^◌, ◌<◌}
use Rattle.std.specs.Prelude.{◌≡◌, Bool, cond, ◌⊎◌, Some}
use Rattle.std.proofs.Math.Path.{refl, subst, fun_ext}
use Rattle.std.proofs.Common.{sym, ◌∙◌}
use Rattle.std.proofs.Math.Bool.{true, false}
use Rattle.std.proofs.Math.Logic.{inl, inr}
use mathlib.Core.List.{List}
use Rattle.std.proofs.Math.ListN.{get_or}
use Rattle.sets.specs.Set.{has, union, inter}
use Rattle.sets.proofs.SetLaws.{has_union_left, has_union_right, union_cases, has_inter}
use Rattle.table.specs.Table.{Table, statement}
use Rattle.table.specs.View.{view, On, set_on, starts}
use Rattle.table.proofs.ViewLaws.{set_has, set_from}
use Rattle.table.specs.Accepted.{Accepted}
use Rattle.report.proofs.OverLaws.{union_has, union_from_lem, below_within, within_below}
use Rattle.report.specs.Layout.{Layout}
use Rattle.report.specs.Fits.{Fits, copies_of}
use Rattle.report.specs.Flow.{flow_sets}
use Rattle.report.proofs.FlowLaws.{FlowHas, flow_sets_lem, flow_rules}
use Rattle.report.specs.Effect.{effects, gives}
use Rattle.report.proofs.EffectLaws.{GivesHas, EffectHas, gives_rules, effects_sets, effect_rules}
use Rattle.report.proofs.HeldLaws.{HeldHas, held_rules}
use Rattle.report.specs.Future.{futures}
use Rattle.report.proofs.FutureLaws.{FutureHas, future_rules}
use Rattle.report.specs.Preceded.{reach_sets}
use Rattle.report.proofs.PrecededLaws.{Reaches, Preceded, reach_rules, preceded_rules}
use Rattle.report.specs.Findings.{Sets, sets_of, clash, shared_at, shared_cells}
use Rattle.report.proofs.PlaceLaws.{placed, place_at, at_placed}
use Rattle.report.specs.Rules.{Place, Clash, SharedRules, HeldRules, EffectRules, FutureRules, Families, Rules}

-- reads or writes, by which is asked for
abbrev pub effect_list : Sets → Bool → List ℕ
effect_list a w = cond w a.writes a.reads

abbrev pub future_list : Sets → Bool → List ℕ
future_list a w = cond w a.future_writes a.future_reads

-- held for writing, or in either way
abbrev pub held_list : Sets → Bool → List ℕ
held_list a mode = cond mode a.held_to_write a.held

-- the sets as the rules have them
abbrev pub families : Table → Layout → Families
families t k = record {
  flow = FlowHas k (sets_of t k).flow;
  gives = GivesHas (sets_of t k).given;
  held = λ mode. HeldHas k (held_list (sets_of t k) mode);
  effect = EffectHas (effect_list (sets_of t k));
  future = FutureHas k (future_list (sets_of t k));
  reaches = Reaches (sets_of t k).reach;
  preceded = Preceded k (sets_of t k).preceded;
  shared = λ x. has (shared_cells t k (sets_of t k)) x ≡ true;
}

-- ---- shared

both_in : (a b x : ℕ) → has (inter a b) x ≡ true → (has a x ≡ true) × (has b x ≡ true)
both_in a b x h = and_parts (has a x) (has b x) (sym (has_inter a b x) ∙ h)

in_both : (a b x : ℕ) → has a x ≡ true → has b x ≡ true → has (inter a b) x ≡ true
in_both a b x p q = has_inter a b x ∙ and_from _ _ p q

-- sets of reads (false) and writes (true)
module _ (one : Bool → ℕ) (x : ℕ) where
  touches_either : (v : Bool) → has (one v) x ≡ true → has (union (one false) (one true)) x ≡ true
  touches_either true h = has_union_right (one false) (one true) x h
  touches_either false h = has_union_left (one false) (one true) x h

  either_touches : has (union (one false) (one true)) x ≡ true → (v : Bool) × (has (one v) x ≡ true)
  either_touches h = union_cases (one false) (one true) x (λ a. (false, a)) (λ b. (true, b)) h

module _ (one other : Bool → ℕ) (x : ℕ) where
  clash_has : Clash (λ v y. has (one v) y ≡ true) (λ v y. has (other v) y ≡ true) x → has (clash (one false) (one true) (other false) (other true)) x ≡ true
  unfolding clash
  clash_has c =
      in_both (inter (union (one false) (one true)) (union (other false) (other true))) (union (one true) (other true)) x
      (in_both (union (one false) (one true)) (union (other false) (other true)) x (touches_either one x c.v c.touches) (touches_either other x c.w c.touches_too))
      (go c.one_writes)
    where
      go : (c.v ≡ true) ⊎ (c.w ≡ true) → has (union (one true) (other true)) x ≡ true
      go (inl e) = has_union_left (one true) (other true) x (subst (λ (v : Bool). has (one v) x ≡ true) e c.touches)
      go (inr e) = has_union_right (one true) (other true) x (subst (λ (v : Bool). has (other v) x ≡ true) e c.touches_too)

  clash_from : has (clash (one false) (one true) (other false) (other true)) x ≡ true → Clash (λ v y. has (one v) y ≡ true) (λ v y. has (other v) y ≡ true) x
  unfolding clash
  clash_from h =
      let p = both_in (inter (union (one false) (one true)) (union (other false) (other true))) (union (one true) (other true)) x h in
      let q = both_in (union (one false) (one true)) (union (other false) (other true)) x p.0 in
      union_cases (one true) (other true) x
      (λ a. let r = either_touches other x q.1 in record { v = true; w = r.0; touches = a; touches_too = r.1; one_writes = inl refl })
      (λ b. let r = either_touches one x q.0 in record { v = r.0; w = true; touches = r.1; touches_too = b; one_writes = inr refl })
      p.1

module _ (t : Table) (k : Layout) (acc : Accepted t) (fits : Fits t k) where
  effects_eq : effect_list (sets_of t k) ≡ effects t k (flow_sets t k)
  unfolding sets_of
  effects_eq = fun_ext {B = λ _. List ℕ} go
    where
      go : (w : Bool) → effect_list (sets_of t k) w ≡ effects t k (flow_sets t k) w
      go true = refl
      go false = refl

  futures_eq : future_list (sets_of t k) ≡ (λ w. futures t k (flow_sets t k) (effects t k (flow_sets t k) w) w)
  unfolding sets_of
  futures_eq = fun_ext {B = λ _. List ℕ} go
    where
      go : (w : Bool) → future_list (sets_of t k) w ≡ futures t k (flow_sets t k) (effects t k (flow_sets t k) w) w
      go true = refl
      go false = refl

  flow_below : (i : ℕ) → get_or (flow_sets t k) i 0 < 2 ^ 64
  flow_below = (flow_sets_lem t k acc fits).below

  the_effect_rules : EffectRules (copies_of fits) (FlowHas k (flow_sets t k)) (EffectHas (effect_list (sets_of t k)))
  the_effect_rules =
      subst (λ (e : Bool → List ℕ). EffectRules (copies_of fits) (FlowHas k (flow_sets t k)) (EffectHas e)) (sym effects_eq)
      (effect_rules t k fits (flow_sets t k) flow_below)

  the_future_rules : FutureRules (copies_of fits) (FlowHas k (flow_sets t k)) (EffectHas (effect_list (sets_of t k))) (FutureHas k (future_list (sets_of t k)))
  the_future_rules =
      subst (λ (e : Bool → List ℕ). FutureRules (copies_of fits) (FlowHas k (flow_sets t k)) (EffectHas e) (FutureHas k (future_list (sets_of t k)))) (sym effects_eq)
      (subst (λ (f : Bool → List ℕ). FutureRules (copies_of fits) (FlowHas k (flow_sets t k)) (EffectHas (effects t k (flow_sets t k))) (FutureHas k f)) (sym futures_eq)
      (future_rules t k acc fits (flow_sets t k) flow_below (effects t k (flow_sets t k)) (λ w. (effects_sets t k fits (flow_sets t k) flow_below w).below)))

  -- ---- shared: exactly at some START

  abbrev the_sets : Sets
  the_sets = sets_of t k

  -- the cells over which the effect of the copy that statement s of copy c leads to, and the future at place p, clash
  abbrev clash_at : ℕ → ℕ → ℕ → ℕ
  clash_at p c s =
      clash (get_or the_sets.reads (k.leads c s) 0) (get_or the_sets.writes (k.leads c s) 0) (get_or the_sets.future_reads p 0) (get_or the_sets.future_writes p 0)

  the_shared_rules : SharedRules (copies_of fits) (EffectHas (effect_list the_sets)) (FutureHas k (future_list the_sets)) (λ x. has (shared_cells t k the_sets) x ≡ true)
  unfolding shared_cells shared_at
  the_shared_rules = record {
    at_start = λ c s x q v e h.
        union_has 0 k.statements (shared_at t k the_sets) (k.statement_place c s) x (below_within (placed t k fits c s v).there)
        (at_placed t k fits (λ p d z τ. has (set_on (starts (view τ)) (λ r. clash_at p d z)) x ≡ true) c s v (statement t s) refl
        (set_has (starts (view (statement t s))) (λ r. clash_at (k.statement_place c s) c s) x e
        (clash_has (λ w. get_or (effect_list the_sets w) (k.leads c s) 0) (λ w. get_or (future_list the_sets w) (k.statement_place c s) 0) x h)));
  }

  -- a START at which the effect of the started routine and the future clash over cell x
  pub record AtStart (x : ℕ) : Type 0 where
    pub copy : ℕ
    pub number : ℕ
    pub routine_named : ℕ
    pub place : Place (copies_of fits) copy number
    pub start : starts (view (statement t number)) ≡ Some routine_named
    pub clashes : Clash (EffectHas (effect_list the_sets) (k.leads copy number)) (FutureHas k (future_list the_sets) copy number) x

  start_from : (p : ℕ) → p < k.statements → (x : ℕ) → has (shared_at t k the_sets p) x ≡ true → AtStart x
  unfolding shared_at
  start_from p l x a =
      let c : ℕ = k.statement_copy p in
      let s : ℕ = k.statement_at p in
      let o : On (starts (view (statement t s))) (λ q. has (clash_at p c s) x ≡ true) = set_from (starts (view (statement t s))) (λ q. clash_at p c s) x a in
      record {
        copy = c;
        number = s;
        routine_named = o.0;
        place = place_at t k fits p l;
        start = o.1;
        clashes =
            subst (λ (z : ℕ). Clash (EffectHas (effect_list the_sets) (k.leads c s)) (λ w y. has (get_or (future_list the_sets w) z 0) y ≡ true) x)
            (sym (fits.statement_there p l).back)
            (clash_from (λ w. get_or (effect_list the_sets w) (k.leads c s) 0) (λ w. get_or (future_list the_sets w) p 0) x o.2);
      }

  pub shared_at_start : (x : ℕ) → (families t k).shared x → AtStart x
  unfolding shared_cells
  shared_at_start x h =
      let r = union_from_lem 0 k.statements (shared_at t k the_sets) x h in
      start_from r.0 (within_below r.1) x r.2

  the_held_rules : (mode : Bool) → HeldRules (copies_of fits) mode (FlowHas k (flow_sets t k)) (GivesHas (gives t k (flow_sets t k))) (HeldHas k (held_list (sets_of t k) mode))
  unfolding sets_of
  the_held_rules true = held_rules t k acc fits true (flow_sets t k) flow_below (gives t k (flow_sets t k))
  the_held_rules false = held_rules t k acc fits false (flow_sets t k) flow_below (gives t k (flow_sets t k))

  -- ---- all rules

  pub report_rules : Rules (copies_of fits) (families t k)
  unfolding sets_of
  report_rules = record {
    flow_rules = flow_rules t k acc fits;
    gives_rules = gives_rules t k fits (flow_sets t k) flow_below;
    held_rules = the_held_rules;
    effect_rules = the_effect_rules;
    future_rules = the_future_rules;
    reach_rules = reach_rules t k fits;
    preceded_rules = preceded_rules t k acc fits (reach_sets t k);
    shared_rules = the_shared_rules;
  }
