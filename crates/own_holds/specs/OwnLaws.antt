-- What is held in the way of each access: from the sets of both modes, and where nothing is taken for reading. Assumes nothing.
use Rattle.std.specs.Prelude.{◌≡◌, Bool, ℕ, ◌+◌, ◌*◌, ◌-◌, ◌≤◌, ◌<◌, ℤ, length, take, drop, Option, Some, None}
use Rattle.std.proofs.Math.Path.{refl, sym, ap, ap₂}
use Rattle.std.proofs.Common.{◌∙◌, arith, get_or-take, length-take-le, take_at, drop_at}
use Rattle.std.proofs.Math.Bool.{true, false}
use mathlib.Core.List.{List, ◌++◌}
use Rattle.std.proofs.Math.Decide.{dec_lt}
use Rattle.std.proofs.Math.ListN.{get_or, get_or-eq_default}
use Rattle.std.proofs.lemmas.Bool.{not-true}
use borrow.Rule.Slice.PartMut.{put_mid, same_len_mid}
use Rattle.table.specs.Header.{statements}
use Rattle.table.specs.Table.{Table, table_of, statement, statement_of}
use Rattle.table.specs.Tabulate.{tabulate}
use Rattle.table.proofs.TabulateLaws.{length_tabulate, is_tabulate, tabulate_same}
use Rattle.table.specs.Accepted.{Accepted}
use Rattle.table.proofs.CheckLaws.{until_all}
use Rattle.table.proofs.FrontLaws.{part_long, put_first}
use Rattle.table.proofs.LookupLaws.{statement_is, statements_length}
use Rattle.table.specs.Until.{until}
use Rattle.table.specs.Found.{below}
use Rattle.table.proofs.FoundLaws.{below_none}
use Rattle.table.specs.View.{view, on_or, takes_to_read}
use Rattle.table.specs.declared.Statement.{Statement}
use Rattle.table.specs.declared.Statement.TheVariants.{Return}
use Rattle.report.specs.Greatest.{greatest}
use Rattle.report.specs.Layout.{one_each}
use Rattle.report.specs.Flow.{flow_sets}
use Rattle.report.specs.Effect.{gives}
use Rattle.report.specs.Held.{held_sets}
use Rattle.report.proofs.ModeLaws.{modes_same}
use Rattle.report.specs.Findings.{sets_of, own_held, own_holds}
use Rattle.held_edges.specs.TableEdges.{bases_of}
use Rattle.modes.specs.Modes.{takes_to_write_alone, held_by}

-- how many places the held sets of a mode need
abbrev pub needed : List ℤ → ℕ
needed f = (bases_of f).every + 1

module _ (f : List ℤ) where
  abbrev t : Table
  t = table_of f

  -- where there is none, no statement of the table does, and past its end there is none
  none_to_read : None ≡ below (until (takes_to_write_alone f) 0 (statements f)) (statements f) → (s : ℕ) → takes_to_read (view (statement t s)) ≡ false
  unfolding takes_to_write_alone
  none_to_read e s = go (dec_lt s (statements f))
    where
      past : statements f ≤ s → statement t s ≡ Return
      past l = get_or-eq_default t.statements Return (omega (arith, statements_length f))

      go : Dec (s < statements f) → takes_to_read (view (statement t s)) ≡ false
      go (yes l) =
          ap (λ (σ : Statement). takes_to_read (view σ)) (statement_is f s l)
          ∙ not-true (takes_to_read (view (statement_of f s)))
          (until_all (takes_to_write_alone f) 0 (statements f) (statements f) (below_none (until (takes_to_write_alone f) 0 (statements f)) (statements f) e) s (omega arith) l)
      go (no l) = ap (λ (σ : Statement). takes_to_read (view σ)) (past (omega arith))

  -- ---- the sets of both modes in one list

  held_long : (mode : Bool) (flow given : List ℕ) → length (held_sets t (one_each t) mode flow given) ≡ statements f
  unfolding held_sets greatest one_each
  held_long mode flow given = length_tabulate (length t.statements) _ ∙ statements_length f

  held_once : (a : List ℕ) → length a ≡ statements f → held_by f a a ≡ a
  unfolding held_by
  held_once a e = sym (is_tabulate (statements f) _ a 0 e (λ s l. go s (view (statement_of f s)).writes))
    where
      go : (s : ℕ) (r : Option ℕ) → get_or a s 0 ≡ on_or r (λ h. get_or a s 0) (get_or a s 0)
      go s (Some h) = refl
      go s None = refl

  -- where nothing is taken for reading one mode is enough
  pub one_mode : (flow given a : List ℕ) → None ≡ below (until (takes_to_write_alone f) 0 (statements f)) (statements f)
      → a ≡ held_sets t (one_each t) false flow given
      → a ≡ held_by f (held_sets t (one_each t) true flow given) (held_sets t (one_each t) false flow given)
  one_mode flow given a e is =
      is ∙ sym (held_once _ (held_long false flow given))
      ∙ ap (λ (l : List ℕ). held_by f l (held_sets t (one_each t) false flow given)) (sym (modes_same t (one_each t) (none_to_read e) flow given))

  -- only the first places matter
  held_front : (a b c d : List ℕ) → ((s : ℕ) → s < statements f → get_or a s 0 ≡ get_or b s 0) → ((s : ℕ) → s < statements f → get_or c s 0 ≡ get_or d s 0)
      → held_by f a c ≡ held_by f b d
  unfolding held_by
  held_front a b c d e i =
      tabulate_same (statements f) _ _ (λ s l. ap₂ {C = ℕ} (λ (x y : ℕ). on_or (view (statement_of f s)).writes (λ h. x) y) (e s l) (i s l))

  front_at : (a b : List ℕ) → take (statements f) a ≡ b → (s : ℕ) → s < statements f → get_or a s 0 ≡ get_or b s 0
  front_at a b e s l = sym (get_or-take (statements f) a s 0 l) ∙ ap (λ (x : List ℕ). get_or x s 0) e

  -- ---- the places behind the statements filled anew: n statements and m places, as the code has their number

  module _ (w : List ℕ) (n m : ℕ) (n_is : n ≡ statements f) (some : statements f ≤ m) (room : statements f + m ≤ length w) where
    abbrev many : ℕ
    many = n + m - n

    many_is : many ≡ m
    many_is = omega arith

    pub places_long : length (take many (drop n w)) ≡ m
    places_long = part_long n many w (omega (arith, many_is)) ∙ many_is

    module _ (p : List ℕ) (e : length p ≡ length (take many (drop n w))) where
      pub put_long : length (put_mid n many w p) ≡ length w
      put_long = same_len_mid n many w p e

      before : take (statements f) (put_mid n many w p) ≡ take (statements f) w
      before = put_first n many w (statements f) p n_is (omega arith)

      behind : (s : ℕ) → s < statements f → get_or (drop (statements f) (put_mid n many w p)) s 0 ≡ get_or p s 0
      behind s l =
          ap {B = ℕ} (λ (i : ℕ). get_or (drop i (put_mid n many w p)) s 0) (sym n_is)
          ∙ ap {B = ℕ} (λ (x : List ℕ). get_or x s 0) (drop_at (take n w) (p ++ drop many (drop n w)) n (length-take-le n w (omega arith)))
          ∙ sym (get_or-take many (p ++ drop many (drop n w)) s 0 (omega (arith, many_is)))
          ∙ ap {B = ℕ} (λ (x : List ℕ). get_or x s 0) (take_at p (drop many (drop n w)) many (e ∙ places_long ∙ sym many_is))

      -- what is left from it is left from what was put there, and from the list before
      pub put_held : (a out : List ℕ) → take (statements f) p ≡ a → out ≡ held_by f (drop (statements f) (put_mid n many w p)) (put_mid n many w p) → out ≡ held_by f a w
      put_held a out is o =
          o
          ∙ held_front (drop (statements f) (put_mid n many w p)) a (put_mid n many w p) w (λ s l. behind s l ∙ front_at p a is s l)
          (λ s l. front_at (put_mid n many w p) (take (statements f) w) before s l ∙ get_or-take (statements f) w s 0 l)

  -- from the sets of the modes
  pub both_held : (a b w out : List ℕ) → take (statements f) w ≡ b → out ≡ held_by f a w → out ≡ held_by f a b
  both_held a b w out is o = o ∙ held_front a a w b (λ s l. refl) (front_at w b is)

  -- ---- the sets of the report

  pub own_known : (flow given a : List ℕ) → flow ≡ (sets_of t (one_each t)).flow → given ≡ gives t (one_each t) flow
      → a ≡ held_by f (held_sets t (one_each t) true flow given) (held_sets t (one_each t) false flow given) → a ≡ own_holds t (one_each t) (sets_of t (one_each t))
  unfolding sets_of held_by own_holds own_held one_each
  own_known flow given a flow_is given_is e =
      let g : given ≡ gives t (one_each t) (flow_sets t (one_each t)) = given_is ∙ ap (gives t (one_each t)) flow_is in
      e
      ∙ ap₂ {C = List ℕ} (λ (x y : List ℕ). held_by f (held_sets t (one_each t) true x y) (held_sets t (one_each t) false x y)) flow_is g
      ∙ tabulate_same (statements f) _ _
      (λ s l.
      ap {B = ℕ}
      (λ (σ : Statement).
      on_or (view σ).writes (λ h. get_or (held_sets t (one_each t) true (flow_sets t (one_each t)) (gives t (one_each t) (flow_sets t (one_each t)))) s 0)
      (get_or (held_sets t (one_each t) false (flow_sets t (one_each t)) (gives t (one_each t) (flow_sets t (one_each t)))) s 0))
      (sym (statement_is f s l)))
      ∙ ap {B = List ℕ}
      (λ (n : ℕ).
      tabulate n
      (λ s. on_or (view (statement t s)).writes (λ h. get_or (held_sets t (one_each t) true (flow_sets t (one_each t)) (gives t (one_each t) (flow_sets t (one_each t)))) s 0)
      (get_or (held_sets t (one_each t) false (flow_sets t (one_each t)) (gives t (one_each t) (flow_sets t (one_each t)))) s 0)))
      (sym (statements_length f))

-- ---- room for edges: three a statement and one more

pub also_fits : (f : List ℤ) → Accepted (table_of f) → 3 * statements f + 1 ≤ 1537
also_fits f acc = omega (arith, acc.statements_most, statements_length f)

pub edges_fit : (f : List ℤ) → Accepted (table_of f) → {n : ℕ} → 4 * statements f ≤ n → 3 * statements f + 1 ≤ n
edges_fit f acc l = omega (arith, acc.statements_some, statements_length f)
