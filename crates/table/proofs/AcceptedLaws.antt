-- The table of an accepted text has all that `Accepted` says. Assumes nothing.
use Rattle.std.specs.Prelude.{◌≡◌, List, ◌⊎◌, ℕ, ◌+◌, ◌≤◌, ◌<◌, length, ℤ, Ok}
use Rattle.std.proofs.Common.{sym, ◌∙◌, subst, inl, inr, arith, eq-eqb, ne_eqb}
use Rattle.std.proofs.Math.Decide.{dec_lt, ℕ_discrete}
use Rattle.lines.specs.Line.{numbers_of}
use Rattle.table.specs.Header.{cells, locks, handles, routines, statements}
use Rattle.table.specs.Handles.{routine_of, kind_of, things, handles_from, parameters}
use Rattle.table.specs.Routines.{first_statement}
use Rattle.table.proofs.ExtentLaws.{handles_from_most}
use Rattle.table.proofs.CheckLaws.{Passed, text_passed}
use Rattle.table.proofs.HandleLaws.{HandleRule, handle_rule, from_grows, own_from, own_upto, own_routine, few_handles, few_parameters, parameters_among, first_without, parameter_before, local_behind}
use Rattle.table.proofs.RoutineLaws as R
use Rattle.table.proofs.LookupLaws.{cells_is, locks_is, handles_length, routines_length, statements_length, statement_is, declaration_says, routine_says, in_routine_lem, routine_in}
use Rattle.table.proofs.StatementLaws as S
use Rattle.table.proofs.NamingLaws.{Naming, named_by_lem, rank_of, naming_falls, rank_below, first_unnamed}
use Rattle.table.specs.Table.{table_of, declaration, routine, statement, InRoutine}
use Rattle.table.specs.Accepted.{Accepted, HandleFacts, RoutineFacts, Operands, GoesOn, Names}
use Rattle.table.specs.declared.Statement.{Statement}
use Rattle.table.specs.Verdict.{verdict}

-- how many things there are, by the kind
things_cells : (f : List ℤ) (kind : ℕ) → kind ≡ 1 → things f kind ≡ cells f
unfolding things
things_cells f kind e = rw (eq-eqb kind 1 e)

things_locks : (f : List ℤ) (kind : ℕ) → kind ≡ 2 → things f kind ≡ locks f
unfolding things
things_locks f kind e = rw (ne_eqb kind 1 (λ k. omega arith))

module _ (f : List ℤ) (p : Passed f) where
  rules : (h : ℕ) → h < handles f → HandleRule f h
  rules h b = handle_rule f h (p.handle_ok_lem h b)

  -- ---- handles

  kind_one_or_two : (k : ℕ) → 1 ≤ k → k ≤ 2 → (k ≡ 1) ⊎ (k ≡ 2)
  kind_one_or_two k a b = go (ℕ_discrete k 1)
    where
      go : Dec (k ≡ 1) → (k ≡ 1) ⊎ (k ≡ 2)
      go (yes e) = inl e
      go (no e) = inr (omega arith)

  handle_facts : (h : ℕ) → h < handles f → HandleFacts (table_of f) h
  handle_facts h b =
      let rule = rules h b in
      let says = declaration_says f h b in
      let there : routine_of f h < routines f = rule.routine_there in
      let own : (declaration (table_of f) h).routine ≡ routine_of f h = says.routine in
      let at = routine_says f (routine_of f h) there in
      let from = own_from f rules h b in
      let upto = own_upto f rules h b in
      let e1 = cells_is f in
      let e2 = locks_is f in
      record {
        routine_there = omega (arith, routines_length f);
        kind_known = rw says.kind (kind_one_or_two (kind_of f h) rule.kind_low rule.kind_high);
        origin_known = rw says.origin rule.origin_known;
        cell_there = λ o k. let l = rule.start_there (sym says.origin ∙ o) in let t = things_cells f (kind_of f h) (sym says.kind ∙ k) in omega arith;
        lock_there = λ o k. let l = rule.start_there (sym says.origin ∙ o) in let t = things_locks f (kind_of f h) (sym says.kind ∙ k) in omega arith;
        from = rw own (omega arith);
        upto = rw own (omega arith);
        parameter = λ o. let l = parameter_before f rules h b (sym says.origin ∙ o) in rw own (omega arith);
        local = λ o. let l = local_behind f rules h b (sym says.origin ∙ o) in rw own (omega arith);
      }

  -- ---- routines

  -- the statements of the routines are all there
  ends_there : (r : ℕ) → r < routines f → first_statement f (r + 1) ≤ statements f
  ends_there r b = let sum = p.sum in let e = R.ends_before f r (routines f) b in omega arith

  routine_facts_of : (r : ℕ) → r < routines f → RoutineFacts (table_of f) r
  routine_facts_of r b =
      let says = routine_says f r b in
      let grows = from_grows f rules r in
      let most = handles_from_most f (r + 1) in
      let few = few_handles f rules r in
      let parameters_few = few_parameters f rules r in
      let among = parameters_among f rules r in
      let some = R.some_statement f r (p.routine_ok_lem r b) in
      let end = ends_there r b in
      let handles_are = handles_length f in
      let statements_are = statements_length f in
      record {
        some_statement = omega arith;
        statements_there = omega arith;
        follows = next (dec_lt (r + 1) (routines f));
        few_handles = omega arith;
        few_parameters = omega arith;
        parameters_among = omega arith;
        handles_there = omega arith;
        handle_own = λ h low high. (declaration_says f h (omega arith)).routine ∙ own_routine f rules r h (omega arith) (omega arith);
      }
    where
      next : Dec (r + 1 < routines f) → ((routine (table_of f) (r + 1)).first ≡ (routine (table_of f) r).first + (routine (table_of f) r).count) ⊎ (r + 1 ≡ length (table_of f).routines)
      next (yes l) = let says = routine_says f r b in let later = (routine_says f (r + 1) l).first in inl (omega arith)
      next (no l) = let e = routines_length f in inr (omega arith)

  -- ---- statements

  statement_there : (r s : ℕ) → r < routines f → InRoutine (table_of f) r s → s < statements f
  statement_there r s b i = let e = routine_in f r s b i in let end = ends_there r b in omega arith

  -- a statement of the table that names a routine
  naming : (r s q : ℕ) → r < routines f → InRoutine (table_of f) r s → Names (statement (table_of f) s) q → Naming f r q
  naming r s q b i n =
      let place = routine_in f r s b i in
      record {
        routine_there = b;
        at = s;
        low = place.0;
        high = place.1;
        names = subst (λ (x : Statement). Names x q) (statement_is f s (statement_there r s b i)) n;
      }

  operands_of : (r s : ℕ) → r < routines f → InRoutine (table_of f) r s → Operands (table_of f) r (statement (table_of f) s)
  operands_of r s b i =
      let place = routine_in f r s b i in
      let is = statement_is f s (statement_there r s b i) in
      let room : (q : ℕ) → q < routines f → handles_from f q + parameters f q ≤ handles f = λ q l. omega (arith, parameters_among f rules q, from_grows f rules q, handles_from_most f (q + 1)) in
      subst (Operands (table_of f) r) (sym is)
      (S.operands f (λ q l. few_parameters f rules q) room r s b (R.statement_good f p r s b place.0 place.1)
      (λ n. first_unnamed f p r (record { routine_there = b; at = s; low = place.0; high = place.1; names = n })))

  goes_on_of : (r s : ℕ) → r < routines f → InRoutine (table_of f) r s → GoesOn (table_of f) r s (statement (table_of f) s)
  goes_on_of r s b i =
      let place = routine_in f r s b i in
      let is = statement_is f s (statement_there r s b i) in
      subst (GoesOn (table_of f) r s) (sym is)
      (S.goes_on f r s (R.statement_good f p r s b place.0 place.1)
      (λ jump return. in_routine_lem f r (s + 1) b (omega arith) (R.not_last f r s (p.end_ok_lem r b) place.1 jump return)))

  owner_of_lem : (s : ℕ) → s < statements f → (r : ℕ) × (r < length (table_of f).routines) × InRoutine (table_of f) r s
  owner_of_lem s b =
      let sum = p.sum in
      let o = R.some_owner f (routines f) s (omega arith) in
      (o.0, omega (arith, o.1, routines_length f), in_routine_lem f o.0 s o.1 o.2 o.3)

  one_owner_of : (r q s : ℕ) → r < routines f → q < routines f → InRoutine (table_of f) r s → InRoutine (table_of f) q s → r ≡ q
  one_owner_of r q s a b i j =
      let x = routine_in f r s a i in
      let y = routine_in f q s b j in
      R.one_owner f r q s x.0 x.1 y.0 y.1

  named_of : (q : ℕ) → 1 ≤ q → q < routines f → (s : ℕ) × (s < length (table_of f).statements) × Names (statement (table_of f) s) q
  named_of q a b =
      let n = (named_by_lem f p q a b).1 in
      let end = ends_there (named_by_lem f p q a b).0 n.routine_there in
      let high = n.high in
      let l : n.at < statements f = omega arith in
      (n.at, omega (arith, statements_length f), subst (λ (x : Statement). Names x q) (sym (statement_is f n.at l)) n.names)

  -- ---- all of them

  pub passed_accepted : Accepted (table_of f)
  passed_accepted =
      let z = p.sized in
      let cells_are = cells_is f in
      let locks_are = locks_is f in
      let handles_are = handles_length f in
      let routines_are = routines_length f in
      let statements_are = statements_length f in
      record {
        cells_some = omega arith;
        cells_most = omega arith;
        locks_most = omega arith;
        handles_most = omega arith;
        routines_some = omega arith;
        routines_most = omega arith;
        statements_some = omega arith;
        statements_most = omega arith;
        handle = λ h b. handle_facts h (omega arith);
        routine_facts = λ r b. routine_facts_of r (omega arith);
        first_first = unfold first_statement in (routine_says f 0 (omega arith)).first;
        first_parameters = (routine_says f 0 (omega arith)).parameters ∙ first_without f rules;
        owner = λ s b. owner_of_lem s (omega arith);
        one_owner = λ r q s a b i j. one_owner_of r q s (omega arith) (omega arith) i j;
        operands = λ r s b i. operands_of r s (omega arith) i;
        goes_on = λ r s b i. goes_on_of r s (omega arith) i;
        named = λ q a b. named_of q a (omega arith);
        rank = rank_of f p;
        rank_below = λ r b. let low = rank_below f p r (omega arith) in omega arith;
        rank_falls = λ r s q b i n. naming_falls f p r q (naming r s q (omega arith) i n);
      }

-- what "accepted" gives
pub accepted : (text : List ℕ) → verdict text ≡ Ok tt → Accepted (table_of (numbers_of text))
accepted text e = passed_accepted (numbers_of text) (text_passed text e)

-- how many handles and routines the numbers of such a table have
module _ (f : List ℤ) (acc : Accepted (table_of f)) where
  pub handles_few : handles f ≤ 128
  handles_few = let h : length (table_of f).handles ≤ 128 = acc.handles_most in omega (arith, handles_length f)

  pub routines_few : routines f ≤ 32
  routines_few = let h : length (table_of f).routines ≤ 32 = acc.routines_most in omega (arith, routines_length f)
