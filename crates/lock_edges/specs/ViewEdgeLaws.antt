-- The parts of a statement's edges, by what its view says. Assumes nothing.
use Rattle.std.specs.Prelude.{ℕ, ◌+◌, ◌≡◌, refl, Bool, true, false, List, [], ◌∷◌, ◌++◌, map, get_or, Option, Some, None}
use Rattle.std.proofs.Common.{sym, ap, ◌∙◌, append-nil}
use Rattle.sets.specs.Least.{Edge}
use Rattle.table.specs.View.{list_on, when}
use Rattle.table.specs.declared.View.{View}
use Rattle.lock_edges.specs.declared.Bases.{Bases}
use Rattle.lock_edges.specs.declared.Origin.{Origin}
use Rattle.lock_edges.specs.ViewEdges.{edge_from, origin, nexts_of, met_of, call_edges_of, kept_edges_of, give_edges_of, start_edges_of, end_edges_of}

-- the edges to what may come next
pub nexts_mapped : (o : Origin) (s : ℕ) (v : View)
    → list_on v.target (λ j. edge_from o j ∷ []) ++ when v.onward (edge_from o (s + 1) ∷ []) ≡ map (edge_from o) (nexts_of s v)
nexts_mapped o s v = go v.target v.onward
  where
    go : (r : Option ℕ) (b : Bool)
        → list_on r (λ j. edge_from o j ∷ []) ++ when b (edge_from o (s + 1) ∷ []) ≡ map (edge_from o) (list_on r (λ n. n ∷ []) ++ when b ((s + 1) ∷ []))
    go (Some j) true = refl
    go (Some j) false = refl
    go None true = refl
    go None false = refl

pub nexts_onward : (s : ℕ) (v : View) (o : Origin) → v.onward ≡ true → list_on v.target (λ j. edge_from o j ∷ []) ++ (edge_from o (s + 1) ∷ []) ≡ map (edge_from o) (nexts_of s v)
nexts_onward s v o e = ap {B = List Edge} (λ (x : Bool). list_on v.target (λ j. edge_from o j ∷ []) ++ when x (edge_from o (s + 1) ∷ [])) (sym e) ∙ nexts_mapped o s v

pub nexts_not_onward : (s : ℕ) (v : View) (o : Origin) → v.onward ≡ false → list_on v.target (λ j. edge_from o j ∷ []) ≡ map (edge_from o) (nexts_of s v)
nexts_not_onward s v o e =
    sym (append-nil (list_on v.target (λ j. edge_from o j ∷ [])))
    ∙ ap {B = List Edge} (λ (x : Bool). list_on v.target (λ j. edge_from o j ∷ []) ++ when x (edge_from o (s + 1) ∷ [])) (sym e)
    ∙ nexts_mapped o s v

module _ (b : Bases) (s : ℕ) (v : View) where
  -- the place that is met
  pub met_over_take : (h : ℕ) → v.takes ≡ Some h → b.other + h ≡ met_of b s v
  met_over_take h e = rw e

  pub met_over_start : v.takes ≡ None → v.starting ≡ true → s ≡ met_of b s v
  met_over_start e i = rw (e, i)

  pub met_over_call : (q : ℕ) → v.takes ≡ None → v.starting ≡ false → v.names ≡ Some q → b.back + q ≡ met_of b s v
  met_over_call q e i j = rw (e, i, j)

  pub met_over_other : v.takes ≡ None → v.starting ≡ false → v.names ≡ None → s ≡ met_of b s v
  met_over_other e i j = rw (e, i, j)

  -- CALL
  pub call_is : (first : List ℕ) (q to : ℕ) → to ≡ get_or first q 0 → v.starting ≡ false → v.names ≡ Some q
      → (edge_from (origin s s) to ∷ []) ++ map (edge_from (origin (b.back + q) (b.given + q))) (nexts_of s v) ≡ call_edges_of b first s v
  call_is first q to e i j = rw (e, i, j)

  pub start_no_call : (first : List ℕ) → v.starting ≡ true → [] ≡ call_edges_of b first s v
  start_no_call first i = rw i

  pub none_no_call : (first : List ℕ) → v.starting ≡ false → v.names ≡ None → [] ≡ call_edges_of b first s v
  none_no_call first i j = rw (i, j)

  pub kept_is : (m : ℕ) → m ≡ met_of b s v → map (edge_from (origin s m)) (nexts_of s v) ≡ kept_edges_of b s v
  kept_is m e = ap {B = List Edge} (λ (x : ℕ). map (edge_from (origin s x)) (nexts_of s v)) e

  -- RETURN
  pub end_is : (c : ℕ) → v.ends ≡ true → (edge_from (origin s s) (b.back + c) ∷ []) ≡ end_edges_of b s c v
  end_is c e = rw e

  pub none_no_end : (c : ℕ) → v.ends ≡ false → [] ≡ end_edges_of b s c v
  none_no_end c e = rw e

  -- GIVE
  pub give_is : (h : ℕ) → v.gives ≡ Some h → map (edge_from (origin (b.flow + h) (b.flow + h))) (nexts_of s v) ≡ give_edges_of b s v
  give_is h e = rw e

  pub none_no_give : v.gives ≡ None → [] ≡ give_edges_of b s v
  none_no_give e = rw e

  -- START
  pub start_is : (first : List ℕ) (q to : ℕ) → to ≡ get_or first q 0 → v.starting ≡ true → v.names ≡ Some q
      → (edge_from (origin b.every b.every) to ∷ []) ≡ start_edges_of b first v
  start_is first q to e i j = rw (e, i, j)

  pub call_no_start : (first : List ℕ) → v.starting ≡ false → [] ≡ start_edges_of b first v
  call_no_start first i = rw i

  pub none_no_start : (first : List ℕ) → v.starting ≡ true → v.names ≡ None → [] ≡ start_edges_of b first v
  none_no_start first i j = rw (i, j)

-- to what is referred to
pub to_is : (o : Origin) (r : Option ℕ) (j : ℕ) → r ≡ Some j → (edge_from o j ∷ []) ≡ list_on r (λ i. edge_from o i ∷ [])
to_is o r j e = rw e

pub to_none : (o : Origin) (r : Option ℕ) → r ≡ None → [] ≡ list_on r (λ i. edge_from o i ∷ [])
to_none o r e = rw e
