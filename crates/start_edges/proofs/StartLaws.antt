-- What the attributes of a statement's line say of its edges. Assumes nothing.
use Rattle.std.specs.Prelude.{ℕ, ◌+◌, ◌≡◌, refl, Bool, true, false, ◌||◌, ℤ, Option, Some, None, is_some}
use Rattle.std.proofs.Math.Path.{sym, ap, ap₂}
use Rattle.std.proofs.Common.{◌∙◌, zero-add}
use Rattle.std.proofs.Math.Bool.{cond}
use mathlib.Core.List.{List, [], ◌∷◌, ◌++◌, map-append}
use Rattle.sets.specs.Least.{Edge}
use Rattle.table.specs.Header.{routines, statements}
use Rattle.table.proofs.LookupLaws.{routines_length, statements_length}
use Rattle.table.specs.Table.{Table, table_of, statement}
use Rattle.table.specs.View.{view, on_or, set_on, list_on, test_on, when, calls, starts}
use Rattle.table.proofs.ViewLaws.{on_number, on_called, list_same, list_map, when_map}
use Rattle.table.specs.declared.View.{View}
use Rattle.table.specs.declared.Statement.{Statement}
use Rattle.report.specs.Layout.{named, owner_of, one_each}
use Rattle.report.specs.Operations.{nexts}
use Rattle.report.specs.Preceded.{is_marked, reach_edges, brings_start}
use Rattle.edges.specs.Equations.{Callers, edge, edges_at, call_edges}
use Rattle.start_edges.specs.StartEdges.{reach_at, following_edges, entering_edges, last_of, origin_of, preceding_at}

-- ---- a START names the routine that it starts

on_started : {A : Type 0} (v : View) (g : ℕ → A) (d : A) → on_or (starts v) (λ q. g (set_on v.names (λ n. n))) d ≡ on_or (starts v) g d
on_started v g d = go v.starting
  where
    go : (b : Bool) → on_or (cond b v.names None) (λ q. g (set_on v.names (λ n. n))) d ≡ on_or (cond b v.names None) g d
    go true = on_number v.names g d
    go false = refl

-- a list if anything is referred to
when_on : (r : Option ℕ) (l : List Edge) → when (test_on r (λ q. true)) l ≡ list_on r (λ q. l)
when_on (Some n) l = refl
when_on None l = refl

-- whether anything is referred to
pub some_is : {b : Bool} (r : Option ℕ) → b ≡ is_some r → b ≡ test_on r (λ q. true)
some_is (Some n) e = e
some_is None e = e

-- from a place to what may follow, by the two ways on
pub following_split : (origin s : ℕ) (σ : Statement)
    → following_edges origin s σ ≡ list_on (view σ).target (λ (n : ℕ). edge origin n ∷ []) ++ when (view σ).onward (edge origin (s + 1) ∷ [])
unfolding following_edges nexts
following_split origin s σ =
    map-append (λ (n : ℕ). edge origin n) (list_on (view σ).target (λ (n : ℕ). n ∷ [])) (when (view σ).onward ((s + 1) ∷ []))
    ∙ ap₂ {C = List Edge} (λ (a b : List Edge). a ++ b) (list_map (λ (n : ℕ). edge origin n) (view σ).target (λ (n : ℕ). n ∷ []))
    (when_map (λ (n : ℕ). edge origin n) (view σ).onward ((s + 1) ∷ []))

module _ (f : List ℤ) (s : ℕ) {v : View} (is : v ≡ view (statement (table_of f) s)) where
  abbrev t : Table
  t = table_of f

  abbrev σ : Statement
  σ = statement t s

  -- ---- routines that reach a START

  pub reach_parts : (last c : ℕ) → last ≡ routines f → c ≡ owner_of t s → {b : Bool} {started called : Option ℕ}
      → b ≡ test_on started (λ q. true) → started ≡ starts v → called ≡ calls v
      → (when b (edge last c ∷ []) ++ list_on called (λ (q : ℕ). edge q c ∷ [])) ≡ reach_at t s
  unfolding reach_at reach_edges one_each named
  reach_parts last c e o {b} {started} {called} p q r =
      ap₂ {C = List Edge} (λ (x y : List Edge). x ++ y)
      (ap {B = List Edge} (λ (x : Bool). when x (edge last c ∷ [])) (p ∙ ap {B = Bool} (λ x. test_on x (λ q. true)) (q ∙ ap starts is))
      ∙ when_on (starts (view σ)) (edge last c ∷ [])
      ∙ ap {B = List Edge} (λ (x : ℕ). list_on (starts (view σ)) (λ q. edge x c ∷ [])) (e ∙ sym (routines_length f)))
      (ap {B = List Edge} (λ x. list_on x (λ (q : ℕ). edge q c ∷ [])) (r ∙ ap calls is) ∙ sym (on_called (view σ) (λ (q : ℕ). edge q c ∷ []) []))
      ∙ ap {B = List Edge} (λ (x : ℕ). reach_edges (one_each t) x s σ) o

  -- ---- what a statement's followers follow

  module _ (reach : List ℕ) {started called : Option ℕ} (p : started ≡ starts v) (q : called ≡ calls v) {b : Bool}
      (h : b ≡ (test_on started (λ q. true) || test_on called (is_marked reach))) where
    brings : b ≡ brings_start (one_each t) reach (owner_of t s) s σ
    unfolding brings_start one_each named
    brings =
        h
        ∙ ap₂ {C = Bool} (λ x y. test_on x (λ q. true) || test_on y (is_marked reach)) (p ∙ ap starts is) (q ∙ ap calls is)
        ∙ ap {B = Bool} (λ (x : Bool). test_on (starts (view σ)) (λ q. true) || x) (sym (on_called (view σ) (is_marked reach) false))

    origin_is : (x : ℕ) (d : Bool) → b ≡ d → x ≡ cond d (last_of t) s → x ≡ origin_of t reach s
    unfolding origin_of
    origin_is x d e k = k ∙ ap {B = ℕ} (λ (z : Bool). cond z (last_of t) s) (sym e ∙ brings)

    pub origin_start : (last : ℕ) → last ≡ statements f + routines f → b ≡ true → last ≡ origin_of t reach s
    origin_start last e d = origin_is last true d (e ∙ ap₂ {C = ℕ} (λ (m n : ℕ). m + n) (sym (statements_length f)) (sym (routines_length f)))

    pub origin_own : b ≡ false → s ≡ origin_of t reach s
    origin_own d = origin_is s false d refl

  -- ---- the edges to them

  pub following_parts : (origin : ℕ) {r : Option ℕ} {b : Bool} → r ≡ v.target → b ≡ v.onward
      → (list_on r (λ (n : ℕ). edge origin (0 + n) ∷ []) ++ when b (edge origin (s + 1) ∷ [])) ≡ following_edges origin s σ
  following_parts origin {r} {b} p q =
      ap₂ {C = List Edge} (λ (x : Option ℕ) (y : Bool). list_on x (λ (n : ℕ). edge origin (0 + n) ∷ []) ++ when y (edge origin (s + 1) ∷ []))
      (p ∙ ap (λ (v : View). v.target) is) (q ∙ ap (λ (v : View). v.onward) is)
      ∙ ap {B = List Edge} (λ (l : List Edge). l ++ when (view σ).onward (edge origin (s + 1) ∷ []))
      (list_same (view σ).target _ _ (λ n. ap {B = List Edge} (λ (k : ℕ). edge origin k ∷ []) (zero-add n)))
      ∙ sym (following_split origin s σ)

  -- ---- the edges into the routine that is named

  pub entering_parts : (end last : ℕ) → end ≡ statements f → {started : Option ℕ} → started ≡ starts v
      → (list_on started (λ (q : ℕ). edge last (end + q) ∷ []) ++ edges_at Callers t s) ≡ entering_edges (statements f) last (owner_of t s) s σ
  unfolding entering_edges edges_at call_edges named
  entering_parts end last e p =
      ap₂ {C = List Edge} (λ (x y : List Edge). x ++ y)
      (ap₂ {C = List Edge} (λ (x : ℕ) (y : Option ℕ). list_on y (λ (q : ℕ). edge last (x + q) ∷ [])) e (p ∙ ap starts is)
      ∙ sym (on_started (view σ) (λ (q : ℕ). edge last (statements f + q) ∷ []) []))
      (ap {B = List Edge} (λ (x : ℕ). call_edges x s σ ++ call_edges x (x + owner_of t s) σ) (statements_length f))

-- both together
pub preceding_parts : (f : List ℤ) (reach : List ℕ) (s : ℕ) {origin last : ℕ} → origin ≡ origin_of (table_of f) reach s → last ≡ statements f + routines f
    → (following_edges origin s (statement (table_of f) s) ++ entering_edges (statements f) last (owner_of (table_of f) s) s (statement (table_of f) s))
    ≡ preceding_at (table_of f) reach s
unfolding preceding_at
preceding_parts f reach s {origin} {last} e l =
    let n = sym (statements_length f) in
    ap {B = List Edge} (λ (x : ℕ). following_edges x s (statement (table_of f) s) ++ entering_edges (statements f) last (owner_of (table_of f) s) s (statement (table_of f) s)) e
    ∙ ap₂ {C = List Edge}
    (λ (x y : ℕ). following_edges (origin_of (table_of f) reach s) s (statement (table_of f) s) ++ entering_edges x y (owner_of (table_of f) s) s (statement (table_of f) s))
    n (l ∙ ap₂ {C = ℕ} (λ (a b : ℕ). a + b) n (sym (routines_length f)))
