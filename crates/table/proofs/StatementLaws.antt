-- A statement that keeps its rule, by its operation: its operands, what it names, and where it goes on. Assumes nothing.
use Rattle.std.specs.Prelude.{◌≡◌, List, Bool, true, false, cond, not, ◌&&◌, ◌||◌, leb, ltb, get_or, ℤ, Option, Some}
use Rattle.std.proofs.Math.Path.{refl}
use Rattle.std.proofs.Common.{sym, ap, ◌∙◌, subst, ⊎_elim, arith, ltb-true, lt-ltb, leb-true, eqb-true, eq-eqb, ne_eqb}
use Prim.Native.Nat.{ℕ, zero, suc, ◌+◌, ◌≤◌, ◌<◌}
use Rattle.std.proofs.Math.Decide.{dec_lt}
use Rattle.std.proofs.Math.Dec.{eqb}
use Rattle.std.proofs.lemmas.Bool.{eqb-false, not-true, and_parts, or_cases}
use Rattle.sets.specs.Set.{one}
use Rattle.sets.proofs.SetLaws.{has_one}
use Rattle.table.specs.Fields.{unused}
use Rattle.table.specs.Header.{handles, routines, statement_line}
use Rattle.table.specs.Handles.{routine_of, kind_of, handles_from, parameters}
use Rattle.table.specs.Routines.{first_statement}
use Rattle.table.specs.Statements.{operation, operand, own_handle, own_of_kind, own_statement, argument_ok, arguments_ok, naming_ok, point_ok, operation_ok, statement_ok}
use Rattle.table.specs.Naming.{named_by}
use Rattle.table.proofs.ReachLaws.{In}
use Rattle.table.proofs.LookupLaws.{handles_length, routines_length, declaration_says, routine_says, in_routine_lem}
use Rattle.table.specs.Table.{table_of, declaration, routine, passed, arguments_in, statement_of, InRoutine, OwnHandle}
use Rattle.table.specs.View.{no_arguments, view}
use Rattle.table.specs.ViewLaws.{first_if}
use Rattle.table.proofs.ViewLaws.{to_if, set_has, set_from, keeps_frame, view_in, view_in_lem}
use Rattle.table.specs.Accepted.{OwnOfKind, Passes, Operands, GoesOn, Names}
use Rattle.table.specs.declared.View.{View}

-- ---- by the operation

unknown : (f : List ℤ) (r line op : ℕ) → ((k : ℕ) → 1 ≤ k → k ≤ 13 → op ≡ k → ⊥) → operation_ok f r line op ≡ false
unfolding operation_ok
unknown f r line op n =
    let t : (k : ℕ) → 1 ≤ k → k ≤ 13 → eqb op k ≡ false = λ k a b. ne_eqb op k (n k a b) in
    let small : (k : ℕ) → k < 13 → eqb op (suc k) ≡ false = λ k a. t (suc k) (omega arith) (omega arith) in
    rw (
      small 0 (omega arith),
      small 1 (omega arith),
      small 2 (omega arith),
      small 3 (omega arith),
      small 4 (omega arith),
      small 5 (omega arith),
      small 6 (omega arith),
      small 7 (omega arith),
      small 8 (omega arith),
      small 9 (omega arith),
      small 10 (omega arith),
      small 11 (omega arith),
      small 12 (omega arith),
    )

-- an operation that keeps its rule is one of the thirteen
known : (f : List ℤ) (r line op : ℕ) → operation_ok f r line op ≡ true → (1 ≤ op) × (op ≤ 13)
known f r line op e = go (dec_lt 0 op) (dec_lt op 14)
  where
    none : ((k : ℕ) → 1 ≤ k → k ≤ 13 → op ≡ k → ⊥) → ⊥
    none n = let z : true ≡ false = sym e ∙ unknown f r line op n in let w : ◌≡◌ {A = ℕ} 0 1 = cc in omega arith

    go : Dec (0 < op) → Dec (op < 14) → (1 ≤ op) × (op ≤ 13)
    go (yes p) (yes q) = (omega arith, omega arith)
    go (no p) q = absurd (none (λ k a b c. omega arith))
    go (yes p) (no q) = absurd (none (λ k a b c. omega arith))

-- the rule of a statement whose operation is op
rule_of : (f : List ℤ) (r s : ℕ) → statement_ok f r s ≡ true → (op : ℕ) → eqb (operation f s) op ≡ true → operation_ok f r (statement_line f s) op ≡ true
unfolding statement_ok
rule_of f r s ok op e = subst (λ (k : ℕ). operation_ok f r (statement_line f s) k ≡ true) (eqb-true (operation f s) op e) ok

-- the attributes of a statement are those of its operation
said : (f : List ℤ) (s : ℕ) → view (statement_of f s) ≡ view_in f (statement_line f s) (operation f s)
unfolding statement_of
said f s = view_in_lem f (statement_line f s) (operation f s)

-- an attribute that refers to something refers to the first operand, and the operation is one that has it
refers : (f : List ℤ) (s : ℕ) (attribute : View → Option ℕ) (b : Bool) → attribute (view_in f (statement_line f s) (operation f s)) ≡ first_if f (statement_line f s) b
    → {n : ℕ} → attribute (view (statement_of f s)) ≡ Some n → (b ≡ true) × (operand f s 0 ≡ n)
refers f s attribute b is e = to_if b (operand f s 0) (sym is ∙ sym (ap attribute (said f s)) ∙ e)

-- ---- what a statement names

-- a CALL or START keeps its rule, and names its first operand
naming : (f : List ℤ) (r s q : ℕ) → statement_ok f r s ≡ true → Names (statement_of f s) q → (naming_ok f r (statement_line f s) ≡ true) × (operand f s 0 ≡ q)
unfolding operation_ok
naming f r s q ok n =
    let p = refers f s (λ v. v.names) (eqb (operation f s) 8 || eqb (operation f s) 9) refl n in
    (⊎_elim (rule_of f r s ok 8) (rule_of f r s ok 9) (or_cases (eqb (operation f s) 8) (eqb (operation f s) 9) p.0), p.1)

-- the routine that a CALL or START names is there
named_there : (f : List ℤ) (r s : ℕ) → naming_ok f r (statement_line f s) ≡ true → operand f s 0 < routines f
unfolding naming_ok
named_there f r s e =
    ltb-true (operand f s 0) (routines f) (and_parts (ltb (operand f s 0) (routines f)) (arguments_ok f r (operand f s 0) (statement_line f s)) e).0

pub names_there : (f : List ℤ) (r s q : ℕ) → statement_ok f r s ≡ true → Names (statement_of f s) q → q < routines f
names_there f r s q ok n = let p = naming f r s q ok n in let l = named_there f r s p.0 in omega arith

-- a statement names a routine just if its set has it
pub names_has : (f : List ℤ) (r s q : ℕ) → routines f ≤ 32 → statement_ok f r s ≡ true → Names (statement_of f s) q → In (named_by f s) q
unfolding named_by
names_has f r s q few ok n =
    let l = names_there f r s q ok n in
    set_has (view (statement_of f s)).names one q n (has_one q q (omega arith) ∙ eq-eqb q q refl)

pub has_names : (f : List ℤ) (r s q : ℕ) → routines f ≤ 32 → statement_ok f r s ≡ true → In (named_by f s) q → Names (statement_of f s) q
unfolding named_by
has_names f r s q few ok h =
    let o = set_from (view (statement_of f s)).names one q h in
    let l = names_there f r s o.0 ok o.1 in
    subst (Names (statement_of f s)) (sym (eqb-true q o.0 (sym (has_one o.0 q (omega arith)) ∙ o.2))) o.1

-- ---- where a statement goes on

pub goes_on : (f : List ℤ) (r s : ℕ) → statement_ok f r s ≡ true
    → ((operation f s ≡ 10 → ⊥) → (operation f s ≡ 12 → ⊥) → InRoutine (table_of f) r (s + 1)) → GoesOn (table_of f) r s (statement_of f s)
goes_on f r s ok next on =
    let e : (keeps_frame (operation f s) && not (eqb (operation f s) 10)) ≡ true = sym (ap (λ v. v.onward) (said f s)) ∙ on in
    let p = and_parts (keeps_frame (operation f s)) (not (eqb (operation f s) 10)) e in
    next (eqb-false (operation f s) 10 (not-true (eqb (operation f s) 10) p.1))
    (⊎_elim early late (or_cases (ltb 0 (operation f s) && ltb (operation f s) 12) (eqb (operation f s) 13) p.0))
  where
    early : (ltb 0 (operation f s) && ltb (operation f s) 12) ≡ true → operation f s ≡ 12 → ⊥
    early e is = omega (arith, ltb-true (operation f s) 12 (and_parts (ltb 0 (operation f s)) (ltb (operation f s) 12) e).1)

    late : eqb (operation f s) 13 ≡ true → operation f s ≡ 12 → ⊥
    late e is = omega (arith, eqb-true (operation f s) 13 e)

-- ---- operands

own_handle_lem : (f : List ℤ) (r x : ℕ) → own_handle f r x ≡ true → OwnHandle (table_of f) r x
unfolding own_handle
own_handle_lem f r x e =
    let p = and_parts (ltb x (handles f)) (eqb (routine_of f x) r) e in
    let b = ltb-true x (handles f) p.0 in
    let l = handles_length f in
    record { there = omega arith; own = (declaration_says f x b).routine ∙ eqb-true (routine_of f x) r p.1 }

own_of_kind_lem : (f : List ℤ) (r kind x : ℕ) → own_of_kind f r kind x ≡ true → OwnOfKind (table_of f) r kind x
unfolding own_of_kind
own_of_kind_lem f r kind x e =
    let p = and_parts (own_handle f r x) (eqb (kind_of f x) kind) e in
    let own = own_handle_lem f r x p.0 in
    let there = own.there in
    let l = handles_length f in
    record { own = own; kind = (declaration_says f x (omega arith)).kind ∙ eqb-true (kind_of f x) kind p.1 }

-- one argument, of a routine whose parameters are among its handles
argument : (f : List ℤ) (r q k x : ℕ) → q < routines f → handles_from f q + parameters f q ≤ handles f → argument_ok f r q k x ≡ true → k < parameters f q
    → OwnOfKind (table_of f) r (declaration (table_of f) ((routine (table_of f) q).handle + k)).kind x
unfolding argument_ok
argument f r q k x there room e b =
    let own : own_of_kind f r (kind_of f (handles_from f q + k)) x ≡ true = rw (lt-ltb k (parameters f q) b) at e in
    let kind = (declaration_says f (handles_from f q + k) (omega arith)).kind in
    rw ((routine_says f q there).handle, kind) (own_of_kind_lem f r (kind_of f (handles_from f q + k)) x own)

-- the four arguments
pub record ArgumentsRule (f : List ℤ) (r s : ℕ) : Type 0 where
  pub there : operand f s 0 < routines f
  pub zeroth : argument_ok f r (operand f s 0) 0 (operand f s 1) ≡ true
  pub first : argument_ok f r (operand f s 0) 1 (operand f s 2) ≡ true
  pub second : argument_ok f r (operand f s 0) 2 (operand f s 3) ≡ true
  pub third : argument_ok f r (operand f s 0) 3 (operand f s 4) ≡ true

arguments_rule : (f : List ℤ) (r s : ℕ) → naming_ok f r (statement_line f s) ≡ true → ArgumentsRule f r s
unfolding naming_ok arguments_ok
arguments_rule f r s e =
    let line = statement_line f s in
    let q = operand f s 0 in
    let a0 = argument_ok f r q 0 (operand f s 1) in
    let a1 = argument_ok f r q 1 (operand f s 2) in
    let a2 = argument_ok f r q 2 (operand f s 3) in
    let a3 = argument_ok f r q 3 (operand f s 4) in
    let p = and_parts (ltb q (routines f)) (arguments_ok f r q line) e in
    let p4 = and_parts (a0 && a1 && a2 && a3) (unused f line 7) p.1 in
    let p3 = and_parts (a0 && a1 && a2) a3 p4.0 in
    let p2 = and_parts (a0 && a1) a2 p3.0 in
    let p1 = and_parts a0 a1 p2.0 in
    record { there = ltb-true q (routines f) p.0; zeroth = p1.0; first = p1.1; second = p2.1; third = p3.1 }

module _ (f : List ℤ)
    (few : (q : ℕ) → q < routines f → parameters f q ≤ 4)
    (room : (q : ℕ) → q < routines f → handles_from f q + parameters f q ≤ handles f) where
  -- what a CALL or START passes, if it does not name routine 0
  passes : (r s : ℕ) → naming_ok f r (statement_line f s) ≡ true → (operand f s 0 ≡ 0 → ⊥) → Passes (table_of f) r (operand f s 0) (arguments_in f (statement_line f s))
  unfolding arguments_in
  passes r s e not_first = record { there = omega (arith, there, routines_length f); not_first = not_first; argument = go }
    where
      rule : ArgumentsRule f r s
      rule = arguments_rule f r s e

      there : operand f s 0 < routines f
      there = rule.there

      one_of : (k x : ℕ) → argument_ok f r (operand f s 0) k x ≡ true → k < (routine (table_of f) (operand f s 0)).parameters
          → OwnOfKind (table_of f) r (declaration (table_of f) ((routine (table_of f) (operand f s 0)).handle + k)).kind x
      one_of k x ok b =
          let is = (routine_says f (operand f s 0) there).parameters in
          argument f r (operand f s 0) k x there (room (operand f s 0) there) ok (omega arith)

      go : (k : ℕ) → k < (routine (table_of f) (operand f s 0)).parameters
          → OwnOfKind (table_of f) r (declaration (table_of f) ((routine (table_of f) (operand f s 0)).handle + k)).kind (get_or (passed (arguments_in f (statement_line f s))) k 0)
      go zero b = one_of 0 (operand f s 1) rule.zeroth b
      go (suc zero) b = one_of 1 (operand f s 2) rule.first b
      go (suc (suc zero)) b = one_of 2 (operand f s 3) rule.second b
      go (suc (suc (suc zero))) b = one_of 3 (operand f s 4) rule.third b
      go (suc (suc (suc (suc k)))) b =
          let most = few (operand f s 0) there in
          let is = (routine_says f (operand f s 0) there).parameters in
          absurd (omega arith)

  -- the operands of a statement that keeps its rule and does not name routine 0
  pub operands : (r s : ℕ) → r < routines f → statement_ok f r s ≡ true → (Names (statement_of f s) 0 → ⊥) → Operands (table_of f) r (statement_of f s)
  unfolding operation_ok point_ok own_statement
  operands r s b ok not_first = record {
    reads = λ h e. of_kind 1 1 h (refers f s (λ v. v.reads) (eqb op 1) refl e) (λ k. k);
    writes = λ h e. of_kind 2 1 h (refers f s (λ v. v.writes) (eqb op 2) refl e) (λ k. k);
    takes = λ h e. taken h (refers f s (λ v. v.takes) (eqb op 5 || eqb op 13) refl e);
    gives = λ h e. of_kind 6 2 h (refers f s (λ v. v.gives) (eqb op 6) refl e) (λ k. k);
    points = λ h e. point h (refers f s (λ v. v.points) (eqb op 7) refl e);
    passes = λ q n. passing q n;
    target = λ z e. jump z (refers f s (λ v. v.target) (eqb op 10 || eqb op 11) refl e);
  }
    where
      line : ℕ
      line = statement_line f s

      op : ℕ
      op = operation f s

      x : ℕ
      x = operand f s 0

      of_kind : (o kind h : ℕ) → (eqb op o ≡ true) × (x ≡ h)
          → (operation_ok f r line o ≡ true → (own_of_kind f r kind x && unused f line 3) ≡ true) → OwnOfKind (table_of f) r kind h
      of_kind o kind h (e, is) k =
          subst (OwnOfKind (table_of f) r kind) is (own_of_kind_lem f r kind x (and_parts (own_of_kind f r kind x) (unused f line 3) (k (rule_of f r s ok o e))).0)

      taken : (h : ℕ) → ((eqb op 5 || eqb op 13) ≡ true) × (x ≡ h) → OwnOfKind (table_of f) r 2 h
      taken h (e, is) = ⊎_elim (λ a. of_kind 5 2 h (a, is) (λ k. k)) (λ a. of_kind 13 2 h (a, is) (λ k. k)) (or_cases (eqb op 5) (eqb op 13) e)

      inside : (own_statement f r x && unused f line 3) ≡ true → InRoutine (table_of f) r x
      inside k =
          let p = (and_parts (own_statement f r x) (unused f line 3) k).0 in
          let q = and_parts (leb (first_statement f r) x) (ltb x (first_statement f (r + 1))) p in
          in_routine_lem f r x b (leb-true (first_statement f r) x q.0) (ltb-true x (first_statement f (r + 1)) q.1)

      jump : (z : ℕ) → ((eqb op 10 || eqb op 11) ≡ true) × (x ≡ z) → InRoutine (table_of f) r z
      jump z (e, is) =
          subst (InRoutine (table_of f) r) is
          (⊎_elim (λ a. inside (rule_of f r s ok 10 a)) (λ a. inside (rule_of f r s ok 11 a)) (or_cases (eqb op 10) (eqb op 11) e))

      point : (h : ℕ) → (eqb op 7 ≡ true) × (x ≡ h)
          → OwnHandle (table_of f) r h × OwnHandle (table_of f) r (view (statement_of f s)).source
          × ((declaration (table_of f) h).kind ≡ (declaration (table_of f) (view (statement_of f s)).source).kind)
      point h (e, is) =
          let k : point_ok f r line ≡ true = rule_of f r s ok 7 e in
          let p = (and_parts (own_handle f r x && own_of_kind f r (kind_of f x) (operand f s 1)) (unused f line 4) k).0 in
          let q = and_parts (own_handle f r x) (own_of_kind f r (kind_of f x) (operand f s 1)) p in
          let own = own_handle_lem f r x q.0 in
          let g = own_of_kind_lem f r (kind_of f x) (operand f s 1) q.1 in
          let there = own.there in
          let l = handles_length f in
          let source : (view (statement_of f s)).source ≡ operand f s 1 = ap (λ v. v.source) (said f s) ∙ ap (λ (c : Bool). cond c (operand f s 1) 0) e in
          rw (← is, source) (own, g.own, (declaration_says f x (omega arith)).kind ∙ sym g.kind)

      passing : (q : ℕ) → Names (statement_of f s) q → Passes (table_of f) r q (view (statement_of f s)).arguments
      passing q n =
          let p = naming f r s q ok n in
          let is : (eqb op 8 || eqb op 9) ≡ true = (refers f s (λ v. v.names) (eqb op 8 || eqb op 9) refl n).0 in
          let arguments : (view (statement_of f s)).arguments ≡ arguments_in f line =
          ap (λ v. v.arguments) (said f s) ∙ ap (λ (c : Bool). cond c (arguments_in f line) no_arguments) is in
          rw (← p.1, arguments) (passes r s p.0 (λ z. not_first (subst (Names (statement_of f s)) (sym p.1 ∙ z) n)))
