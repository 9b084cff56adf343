-- Document 01's sets are the ones that are computed: sets that satisfy the rules and are inside all that do (for held: contain all that do) are the same.
-- Assumes nothing.
use Rattle.std.specs.Prelude.{ℕ, ◌^◌, ◌<◌, Bool, List, ◌↔◌, get_or}
use Rattle.table.specs.Table.{Table, OwnHandle}
use Rattle.table.specs.Accepted.{Accepted}
use Rattle.report.specs.Layout.{Layout}
use Rattle.report.specs.Fits.{Fits, copies_of}
use Rattle.report.specs.Flow.{flow_sets}
use Rattle.report.proofs.FlowLaws.{FlowHas, flow_rules, flow_least}
use Rattle.report.specs.Effect.{effects, gives}
use Rattle.report.proofs.EffectLaws.{GivesHas, EffectHas, gives_rules, gives_least, effect_rules, effect_least}
use Rattle.report.specs.Held.{held_sets}
use Rattle.report.proofs.HeldLaws.{HeldHas, held_rules, held_greatest}
use Rattle.report.specs.Future.{futures}
use Rattle.report.proofs.FutureLaws.{FutureHas, future_rules, future_least}
use Rattle.report.specs.Preceded.{reach_sets, preceded_sets}
use Rattle.report.proofs.PrecededLaws.{Reaches, Preceded, reach_rules, reach_least, preceded_rules, preceded_least}
use Rattle.report.specs.Rules.{Copies, Place, FlowRules, GivesRules, HeldRules, EffectRules, FutureRules, ReachRules, PrecededRules}

module _ (t : Table) (k : Layout) (acc : Accepted t) (fits : Fits t k) where
  abbrev copies : Copies t
  copies = copies_of fits

  -- the least flow sets
  pub record LeastFlow (f : ℕ → ℕ → ℕ → Type 0) : Type 1 where
    pub rules : FlowRules copies f
    pub inside : (other : ℕ → ℕ → ℕ → Type 0) → FlowRules copies other → (c h x : ℕ) → c < k.copies → OwnHandle t (k.routine_of c) h → f c h x → other c h x

  pub flow_unique : (f : ℕ → ℕ → ℕ → Type 0) → LeastFlow f → (c h x : ℕ) → c < k.copies → OwnHandle t (k.routine_of c) h
      → f c h x ↔ FlowHas k (flow_sets t k) c h x
  flow_unique f l c h x m o =
      (l.inside (FlowHas k (flow_sets t k)) (flow_rules t k acc fits) c h x m o, flow_least t k acc fits f l.rules c h x m o)

  module _ (flow : List ℕ) (below : (i : ℕ) → get_or flow i 0 < 2 ^ 64) where
    -- the least sets of locks given up
    pub record LeastGives (f : ℕ → ℕ → Type 0) : Type 1 where
      pub rules : GivesRules copies (FlowHas k flow) f
      pub inside : (other : ℕ → ℕ → Type 0) → GivesRules copies (FlowHas k flow) other → (c x : ℕ) → f c x → other c x

    pub gives_unique : (f : ℕ → ℕ → Type 0) → LeastGives f → (c x : ℕ) → f c x ↔ GivesHas (gives t k flow) c x
    gives_unique f l c x =
        (l.inside (GivesHas (gives t k flow)) (gives_rules t k fits flow below) c x, gives_least t k fits flow below f l.rules c x)

    -- the least effects
    pub record LeastEffect (f : ℕ → Bool → ℕ → Type 0) : Type 1 where
      pub rules : EffectRules copies (FlowHas k flow) f
      pub inside : (other : ℕ → Bool → ℕ → Type 0) → EffectRules copies (FlowHas k flow) other → (c : ℕ) (w : Bool) (x : ℕ) → f c w x → other c w x

    pub effect_unique : (f : ℕ → Bool → ℕ → Type 0) → LeastEffect f → (c : ℕ) (w : Bool) (x : ℕ) → f c w x ↔ EffectHas (effects t k flow) c w x
    effect_unique f l c w x =
        (l.inside (EffectHas (effects t k flow)) (effect_rules t k fits flow below) c w x, effect_least t k fits flow below f l.rules w c x)

    module _ (effect : Bool → List ℕ) (effect_below : (w : Bool) (i : ℕ) → get_or (effect w) i 0 < 2 ^ 64) where
      -- the least futures
      pub record LeastFuture (f : ℕ → ℕ → Bool → ℕ → Type 0) : Type 1 where
        pub rules : FutureRules copies (FlowHas k flow) (EffectHas effect) f
        pub inside : (other : ℕ → ℕ → Bool → ℕ → Type 0) → FutureRules copies (FlowHas k flow) (EffectHas effect) other
            → (c s : ℕ) (w : Bool) (x : ℕ) → Place copies c s → f c s w x → other c s w x

      pub future_unique : (f : ℕ → ℕ → Bool → ℕ → Type 0) → LeastFuture f → (c s : ℕ) (w : Bool) (x : ℕ) → Place copies c s
          → f c s w x ↔ FutureHas k (λ v. futures t k flow (effect v) v) c s w x
      future_unique f l c s w x v = (
        l.inside (FutureHas k (λ v. futures t k flow (effect v) v)) (future_rules t k acc fits flow below effect effect_below) c s w x v,
        future_least t k acc fits flow below effect effect_below f l.rules w c s x v,
      )

    module _ (mode : Bool) (given : List ℕ) where
      -- the greatest held sets of a mode
      pub record GreatestHeld (f : ℕ → ℕ → ℕ → Type 0) : Type 1 where
        pub rules : HeldRules copies mode (FlowHas k flow) (GivesHas given) f
        pub contains : (other : ℕ → ℕ → ℕ → Type 0) → HeldRules copies mode (FlowHas k flow) (GivesHas given) other
            → (c s x : ℕ) → Place copies c s → other c s x → f c s x

      pub held_unique : (f : ℕ → ℕ → ℕ → Type 0) → GreatestHeld f → (c s x : ℕ) → Place copies c s → f c s x ↔ HeldHas k (held_sets t k mode flow given) c s x
      held_unique f g c s x v = (
        held_greatest t k acc fits mode flow below given f g.rules c s x v,
        g.contains (HeldHas k (held_sets t k mode flow given)) (held_rules t k acc fits mode flow below given) c s x v,
      )

  -- the least set of copies that hold a START, or reach one by CALLs
  pub record LeastReach (f : ℕ → Type 0) : Type 1 where
    pub rules : ReachRules copies f
    pub inside : (other : ℕ → Type 0) → ReachRules copies other → (c : ℕ) → c < k.copies → f c → other c

  pub reach_unique : (f : ℕ → Type 0) → LeastReach f → (c : ℕ) → c < k.copies → f c ↔ Reaches (reach_sets t k) c
  reach_unique f l c b = (l.inside (Reaches (reach_sets t k)) (reach_rules t k fits) c b, reach_least t k fits f l.rules c b)

  -- the least set of statements that a START can precede
  module _ (reach : List ℕ) where
    pub record LeastPreceded (f : ℕ → ℕ → Type 0) : Type 1 where
      pub rules : PrecededRules copies (Reaches reach) f
      pub inside : (other : ℕ → ℕ → Type 0) → PrecededRules copies (Reaches reach) other → (c s : ℕ) → Place copies c s → f c s → other c s

    pub preceded_unique : (f : ℕ → ℕ → Type 0) → LeastPreceded f → (c s : ℕ) → Place copies c s → f c s ↔ Preceded k (preceded_sets t k reach) c s
    preceded_unique f l c s v = (
      l.inside (Preceded k (preceded_sets t k reach)) (preceded_rules t k acc fits reach) c s v,
      preceded_least t k acc fits reach f l.rules c s v,
    )
