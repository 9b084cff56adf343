-- What the view of a statement's line says of the edges of each equation. Assumes nothing.
use Rattle.std.specs.Prelude.{ℕ, ◌+◌, ◌<◌, ◌≡◌, Bool, true, false, cond, ℤ, length, get_or, Option, Some, None}
use Rattle.std.proofs.Math.Path.{sym, ap, ap₂, subst}
use Rattle.std.proofs.Common.{◌∙◌, zero-add, arith}
use mathlib.Core.List.{List, [], ◌∷◌, ◌++◌, map-append, append-nil}
use Rattle.sets.specs.Least.{Edge}
use Rattle.table.specs.Fields.{field}
use Rattle.table.specs.Header.{routines, statements, statement_line}
use Rattle.table.specs.Table.{Table, table_of, routine, statement, passed, InRoutine, statement_in}
use Rattle.table.specs.Accepted.{Accepted}
use Rattle.table.proofs.LookupLaws.{routines_length, statements_length}
use Rattle.table.proofs.OperationLaws.{view_here}
use Rattle.table.specs.View.{view, list_on, when, calls}
use Rattle.table.proofs.ViewLaws.{on_number, on_called, list_same, list_map, when_map}
use Rattle.table.specs.declared.Arguments.{Arguments}
use Rattle.table.specs.declared.View.{View}
use Rattle.table.specs.declared.Statement.{Statement}
use Rattle.report.specs.Over.{joined_from}
use Rattle.report.specs.Layout.{named, owner_of, one_each}
use Rattle.report.specs.Operations.{nexts}
use Rattle.report.proofs.OneEach.{names_there}
use Rattle.report.specs.Flow.{passing, flow_edges}
use Rattle.edges.specs.Equations.{Effects, Gives, Nexts, Callers, edge, edges_at, up_edges, next_edges, call_edges}

-- the edges from arguments to `count` parameters from `begin` on
unfoldable pub passing_from : Arguments → ℕ → ℕ → List Edge
passing_from a begin count = joined_from 0 count (λ (j : ℕ). edge (get_or (passed a) j 0) (begin + j) ∷ [])

-- they go to the parameters of routine q
pub passing_is : (t : Table) (a : Arguments) (q begin count : ℕ) → begin ≡ (routine t q).handle → count ≡ (routine t q).parameters
    → passing_from a begin count ≡ passing t (one_each t) 0 0 q a
unfolding passing_from passing one_each
passing_is t a q begin count eh ep =
    ap₂ {C = List Edge} (λ (m n : ℕ). joined_from 0 n (λ (j : ℕ). edge (get_or (passed a) j 0) (m + j) ∷ [])) eh ep

-- ---- a statement by the view of its line

-- `f` are the numbers that a program holds, and `g` those that its contracts speak of
pub viewed : {f g : List ℤ} → f ≡ g → {line s : ℕ} → line ≡ statement_line g s → s < statements g → {v : View}
    → v ≡ view (statement_in f line (field f line 1)) → v ≡ view (statement (table_of g) s)
viewed {g} e {line} {s} at b {v} h = view_here g s b at (subst (λ (k : List ℤ). v ≡ view (statement_in k line (field k line 1))) e h)

-- the routine that is named is there
pub names_routine : (f : List ℤ) → Accepted (table_of f) → (s : ℕ) → s < statements f → {v : View} → v ≡ view (statement (table_of f) s) → (q : ℕ) → v.names ≡ Some q
    → q < routines f
names_routine f acc s b is q e =
    let t : Table = table_of f in
    let o : (c : ℕ) × (c < length t.routines) × InRoutine t c s = acc.owner s (omega (arith, statements_length f)) in
    let l : q < length t.routines = names_there t o.0 (statement t s) q (acc.operands o.0 s o.1 o.2) (ap (λ v. v.names) (sym is) ∙ e) in
    omega (arith, routines_length f)

-- ---- what each view adds

module _ (t : Table) (s : ℕ) (σ : Statement) {v : View} (is : v ≡ view σ) where
  abbrev pointed : View → List Edge
  pointed v = list_on v.points (λ (h : ℕ). edge v.source (0 + h) ∷ [])

  -- POINT, and what is passed to a routine that is named
  flow_parts : (pointed v ++ list_on v.names (λ (q : ℕ). passing t (one_each t) 0 0 q v.arguments)) ≡ flow_edges t (one_each t) 0 s σ
  unfolding flow_edges passing one_each
  flow_parts =
      ap {B = List Edge} (λ v. pointed v ++ list_on v.names (λ (q : ℕ). passing t (one_each t) 0 0 q v.arguments)) is
      ∙ ap {B = List Edge} (λ l. l ++ list_on (view σ).names (λ (q : ℕ). passing t (one_each t) 0 0 q (view σ).arguments))
      (list_same (view σ).points _ _ (λ h. ap {B = List Edge} (λ (k : ℕ). edge (view σ).source k ∷ []) (zero-add h)))

  pub flow_naming : (q : ℕ) → v.names ≡ Some q → (pointed v ++ passing t (one_each t) 0 0 q v.arguments) ≡ flow_edges t (one_each t) 0 s σ
  flow_naming q e =
      ap {B = List Edge} (λ r. pointed v ++ list_on r (λ (q : ℕ). passing t (one_each t) 0 0 q v.arguments)) (sym e) ∙ flow_parts

  pub flow_plain : v.names ≡ None → pointed v ≡ flow_edges t (one_each t) 0 s σ
  flow_plain e =
      sym (append-nil (pointed v)) ∙ ap {B = List Edge} (λ r. pointed v ++ list_on r (λ (q : ℕ). passing t (one_each t) 0 0 q v.arguments)) (sym e) ∙ flow_parts

  -- CALL, and START
  pub up_all : (c : ℕ) {r : Option ℕ} → r ≡ v.names → list_on r (λ (q : ℕ). edge q c ∷ []) ≡ up_edges true c σ
  unfolding up_edges named
  up_all c h = ap {B = List Edge} (λ r. list_on r (λ (q : ℕ). edge q c ∷ [])) (h ∙ ap (λ (v : View). v.names) is) ∙ sym (on_number (view σ).names (λ (q : ℕ). edge q c ∷ []) [])

  pub up_calls : (c : ℕ) {r : Option ℕ} → r ≡ calls v → list_on r (λ (q : ℕ). edge q c ∷ []) ≡ up_edges false c σ
  unfolding up_edges named
  up_calls c h = ap {B = List Edge} (λ r. list_on r (λ (q : ℕ). edge q c ∷ [])) (h ∙ ap calls is) ∙ sym (on_called (view σ) (λ (q : ℕ). edge q c ∷ []) [])

  call_parts : (end p : ℕ) → list_on (calls v) (λ (q : ℕ). edge p (end + q) ∷ []) ≡ call_edges end p σ
  unfolding call_edges named
  call_parts end p =
      ap {B = List Edge} (λ v. list_on (calls v) (λ (q : ℕ). edge p (end + q) ∷ [])) is ∙ sym (on_called (view σ) (λ (q : ℕ). edge p (end + q) ∷ []) [])

  -- from a CALL and from the CALLs of its routine c
  pub caller_parts : (end c : ℕ) {r : Option ℕ} → r ≡ calls v
      → (list_on r (λ (q : ℕ). edge s (end + q) ∷ []) ++ list_on r (λ (q : ℕ). edge (end + c) (end + q) ∷ [])) ≡ (call_edges end s σ ++ call_edges end (end + c) σ)
  caller_parts end c e =
      ap {B = List Edge} (λ r. list_on r (λ (q : ℕ). edge s (end + q) ∷ []) ++ list_on r (λ (q : ℕ). edge (end + c) (end + q) ∷ [])) e
      ∙ ap₂ {C = List Edge} (λ (a b : List Edge). a ++ b) (call_parts end s) (call_parts end (end + c))

  -- what may come next
  pub next_parts : (list_on v.target (λ (n : ℕ). edge n s ∷ []) ++ when v.onward (edge (s + 1) s ∷ [])) ≡ next_edges s σ
  unfolding next_edges nexts
  next_parts =
      ap {B = List Edge} (λ v. list_on v.target (λ (n : ℕ). edge n s ∷ []) ++ when v.onward (edge (s + 1) s ∷ [])) is
      ∙ sym (map-append (λ (n : ℕ). edge n s) (list_on (view σ).target (λ (n : ℕ). n ∷ [])) (when (view σ).onward ((s + 1) ∷ []))
      ∙ ap₂ {C = List Edge} (λ (a b : List Edge). a ++ b) (list_map (λ (n : ℕ). edge n s) (view σ).target (λ (n : ℕ). n ∷ []))
      (when_map (λ (n : ℕ). edge n s) (view σ).onward ((s + 1) ∷ [])))

-- ---- all statements

-- up from statement s to the routine that it stands in
pub up_at : (starts : Bool) (t : Table) (s c : ℕ) → c ≡ owner_of t s → up_edges starts c (statement t s) ≡ edges_at (cond starts Effects Gives) t s
unfolding edges_at
up_at true t s c e = ap {B = List Edge} (λ (x : ℕ). up_edges true x (statement t s)) e
up_at false t s c e = ap {B = List Edge} (λ (x : ℕ). up_edges false x (statement t s)) e

pub naming_at : (t : Table) (s c : ℕ) {v : View} → v ≡ view (statement t s) → {r : Option ℕ} → r ≡ v.names → c ≡ owner_of t s
    → list_on r (λ (q : ℕ). edge q c ∷ []) ≡ edges_at Effects t s
naming_at t s c is p e = up_all t s (statement t s) is c p ∙ up_at true t s c e

pub call_at : (t : Table) (s c : ℕ) {v : View} → v ≡ view (statement t s) → {r : Option ℕ} → r ≡ calls v → c ≡ owner_of t s
    → list_on r (λ (q : ℕ). edge q c ∷ []) ≡ edges_at Gives t s
call_at t s c is p e = up_calls t s (statement t s) is c p ∙ up_at false t s c e

-- to statement s from what may come next
pub next_at : (t : Table) (s : ℕ) {v : View} → v ≡ view (statement t s) → {r : Option ℕ} {b : Bool} → r ≡ v.target → b ≡ v.onward
    → (list_on r (λ (n : ℕ). edge n s ∷ []) ++ when b (edge (s + 1) s ∷ [])) ≡ edges_at Nexts t s
unfolding edges_at
next_at t s is p q =
    ap₂ {C = List Edge} (λ (r : Option ℕ) (b : Bool). list_on r (λ (n : ℕ). edge n s ∷ []) ++ when b (edge (s + 1) s ∷ [])) p q ∙ next_parts t s (statement t s) is

-- from statement s of routine c, if it is a CALL, and from the CALLs of its routine, to those of the routine that it names
pub caller_at : (f : List ℤ) (s end c : ℕ) {v : View} → v ≡ view (statement (table_of f) s) → end ≡ statements f → c ≡ owner_of (table_of f) s → {r : Option ℕ}
    → r ≡ calls v
    → (list_on r (λ (q : ℕ). edge s (end + q) ∷ []) ++ list_on r (λ (q : ℕ). edge (end + c) (end + q) ∷ [])) ≡ edges_at Callers (table_of f) s
unfolding edges_at
caller_at f s end c is p q e =
    caller_parts (table_of f) s (statement (table_of f) s) is end c e
    ∙ ap₂ {C = List Edge} (λ (x y : ℕ). call_edges x s (statement (table_of f) s) ++ call_edges x (x + y) (statement (table_of f) s)) (p ∙ sym (statements_length f)) q
