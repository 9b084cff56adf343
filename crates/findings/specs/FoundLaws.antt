-- From the sets of a table to what is found, and from what is found to the report's totals. Assumes nothing.
use Rattle.std.specs.Prelude.{◌≡◌, refl, Bool, true, false, ◌&&◌, ℤ, length}
use Rattle.std.proofs.Math.Path.{sym, ap, ap₂, fun_ext}
use Rattle.std.proofs.Common.{◌∙◌, arith, get_or-append-add}
use Rattle.std.proofs.Math.Bool.{cond}
use mathlib.Core.List.{List, ◌++◌}
use Prim.Native.Nat.{ℕ, ◌+◌, ◌≤◌, ◌<◌}
use Rattle.std.proofs.Math.ListN.{get_or, get_or-append}
use Rattle.sets.specs.Set.{firsts, union, inter}
use Rattle.table.specs.Header.{cells, locks, routines, statements}
use Rattle.table.specs.Table.{Table, table_of, statement, statement_of}
use Rattle.table.specs.Tabulate.{tabulate}
use Rattle.table.proofs.TabulateLaws.{tabulate_same, get_d_tabulate}
use Rattle.table.specs.Accepted.{Accepted}
use Rattle.table.proofs.LookupLaws.{statement_is, statements_length, routines_length, cells_is, locks_is}
use Rattle.report.specs.Over.{union_from, inter_from, count_from}
use Rattle.report.specs.Layout.{one_each}
use Rattle.report.proofs.OneEach.{one_each_fits}
use Rattle.report.specs.Operations.{reading, writing}
use Rattle.report.specs.Flow.{flow_sets}
use Rattle.report.proofs.FlowLaws.{flow_sets_lem}
use Rattle.report.specs.Effect.{effects}
use Rattle.report.proofs.EffectLaws.{effects_sets}
use Rattle.report.proofs.FutureLaws.{futures_sets}
use Rattle.report.specs.Held.{all_locks}
use Rattle.report.specs.Preceded.{is_preceded}
use Rattle.report.specs.Findings.{sets_of, shared_at, shared_cells, own_access, touches_at, counted_at, own_held, own_holds, common_locks, stray_by, stray_at, statement_access, access_count, is_stray, is_unguarded}
use Rattle.report.specs.Counts.{Counts, no_counts, add_access, walk_from, walked, cell_by_cell}
use Rattle.report.proofs.CountsLaws.{walk_is_cell_by_cell}
use Rattle.report.specs.Report.{bit}
use Rattle.report.proofs.OneCopy.{access_one_copy, stray_one_copy}
use Rattle.report.proofs.FindingsLaws.{stray_own}
use Rattle.table.specs.declared.Statement.{Statement}
use Rattle.report.proofs.ReportLaws.{unguarded_cell}
use Rattle.findings.specs.Steps.{counts_of, own_by, accesses, held_at, common_by, walk_by, noted_by, shared_by, stray_in, unguarded_in}
use Rattle.findings.specs.FoldLaws.{fold_same, fold_union, fold_inter, fold_count, fold_walk}
use Rattle.findings.specs.declared.Noted.{Noted}
use Rattle.findings.specs.Found.{sets_in, counted_holds, Found}

-- ---- the same at each number

union_same : (n : ℕ) (g h : ℕ → ℕ) → ((i : ℕ) → i < n → g i ≡ h i) → union_from 0 n g ≡ union_from 0 n h
union_same n g h e = sym (fold_union 0 n g) ∙ fold_same _ _ 0 0 n (λ i b. ap union (e i (omega arith))) ∙ fold_union 0 n h

inter_same : (all n : ℕ) (g h : ℕ → ℕ) → ((i : ℕ) → i < n → g i ≡ h i) → inter_from all 0 n g ≡ inter_from all 0 n h
inter_same all n g h e = sym (fold_inter all 0 n g) ∙ fold_same _ _ all 0 n (λ i b. ap inter (e i (omega arith))) ∙ fold_inter all 0 n h

count_same : (n : ℕ) (g h : ℕ → Bool) → ((i : ℕ) → i < n → g i ≡ h i) → count_from 0 n g ≡ count_from 0 n h
count_same n g h e = sym (fold_count 0 n g) ∙ fold_same _ _ 0 0 n (λ i b. ap (λ (x : Bool). ◌+◌ (bit x)) (e i (omega arith))) ∙ fold_count 0 n h

walk_same : (cells n : ℕ) (g h : Bool → ℕ → ℕ) → ((w : Bool) (i : ℕ) → i < n → g w i ≡ h w i) → walk_from g cells 0 n ≡ walk_from h cells 0 n
walk_same cells n g h e =
    sym (fold_walk g cells 0 n) ∙ fold_same _ _ (no_counts cells) 0 n (λ i b. ap add_access (fun_ext (λ w. e w i (omega arith)))) ∙ fold_walk h cells 0 n

-- two tests, one after the other, are both at once
both_tests : (a b : Bool) (x y : ℕ) → cond a (cond b x y) y ≡ cond (a && b) x y
both_tests true b x y = refl
both_tests false b x y = refl

abbrev of_counts : List ℕ → Counts → Noted
of_counts common c = record { common = common; reads = c.reads; writes = c.writes }

module _ (f : List ℤ) where
  abbrev t : Table
  t = table_of f

  -- an accepted table has 512 statements and 64 cells at most
  pub statements_few : Accepted t → statements f ≤ 512
  statements_few acc = let h : length t.statements ≤ 512 = acc.statements_most in omega (arith, statements_length f)

  cells_few : Accepted t → cells f ≤ 64
  cells_few acc = let h : t.cells ≤ 64 = acc.cells_most in omega (arith, cells_is f)

  -- ---- shared cells, from the effects and the futures

  module _ (acc : Accepted t) {reads writes later : List ℕ} (reads_is : reads ≡ (sets_in t).reads) (writes_is : writes ≡ (sets_in t).writes)
      (later_is : later ≡ (sets_in t).future_reads ++ (sets_in t).future_writes) where
    -- the futures are as many as the statements and the routines
    later_long : length (sets_in t).future_reads ≡ statements f + routines f
    unfolding sets_of one_each
    later_long =
        let below = (flow_sets_lem t (one_each t) acc (one_each_fits t acc)).below in
        (futures_sets t (one_each t) acc (one_each_fits t acc) (flow_sets t (one_each t)) below (effects t (one_each t) (flow_sets t (one_each t)))
        (λ w. (effects_sets t (one_each t) (one_each_fits t acc) (flow_sets t (one_each t)) below w).below) false).places
        ∙ ap₂ ◌+◌ (statements_length f) (routines_length f)

    first_half : (p : ℕ) → p < statements f → get_or later p 0 ≡ get_or (sets_in t).future_reads p 0
    first_half p h =
        ap (λ (l : List ℕ). get_or l p 0) later_is ∙ get_or-append (sets_in t).future_reads (sets_in t).future_writes 0 p (omega (arith, later_long))

    second_half : (p : ℕ) → get_or later (statements f + routines f + p) 0 ≡ get_or (sets_in t).future_writes p 0
    second_half p =
        ap₂ (λ (l : List ℕ) (n : ℕ). get_or l (n + p) 0) later_is (sym later_long) ∙ get_or-append-add (sets_in t).future_reads (sets_in t).future_writes p 0

    shared_at_lem : (p : ℕ) → p < statements f → shared_by f reads writes later (statements f + routines f) p ≡ shared_at t (one_each t) (sets_in t) p
    unfolding shared_by shared_at one_each
    shared_at_lem p h = rw (statement_is f p h, first_half p h, second_half p, reads_is, writes_is)

    pub shared_found : union_from 0 (statements f) (shared_by f reads writes later (statements f + routines f)) ≡ shared_cells t (one_each t) (sets_in t)
    unfolding shared_cells one_each
    shared_found =
        union_same (statements f) _ (shared_at t (one_each t) (sets_in t)) shared_at_lem
        ∙ ap (λ (n : ℕ). union_from 0 n (shared_at t (one_each t) (sets_in t))) (sym (statements_length f))

  -- ---- accesses

  module _ {flow counted : List ℕ} (flow_is : flow ≡ (sets_in t).flow) (counted_is : counted ≡ counted_holds t) where
    own_is : (w : Bool) (p : ℕ) → p < statements f → own_by f flow w p ≡ own_access t (one_each t) (sets_in t) w p
    unfolding own_by own_access one_each
    own_is w p h = rw (statement_is f p h, flow_is)

    -- the walk is that of the table, and so gives its counts
    walk_is : walk_by f flow ≡ cell_by_cell t (one_each t) (sets_in t) 64
    unfolding walk_by walked
    walk_is =
        walk_same 64 (statements f) (own_by f flow) (statement_access t (one_each t) (sets_in t)) (λ w s h. own_is w s h ∙ sym (access_one_copy t (sets_in t) w s))
        ∙ ap (λ (n : ℕ). walk_from (statement_access t (one_each t) (sets_in t)) 64 0 n) (sym (statements_length f))
        ∙ walk_is_cell_by_cell t (one_each t) (sets_in t) 64

    abbrev left : ℕ → ℕ → ℕ
    left x p = cond (counted_at t (one_each t) (sets_in t) x p) (own_held t (one_each t) (sets_in t) p) (all_locks t)

    -- an access that no START can precede leaves all locks
    counted_at_lem : (p : ℕ) → p < statements f
        → get_or counted p 0 ≡ cond (is_preceded (one_each t) (sets_in t).preceded p) (own_held t (one_each t) (sets_in t) p) (all_locks t)
    unfolding counted_holds
    counted_at_lem p h = ap (λ (l : List ℕ). get_or l p 0) counted_is ∙ get_d_tabulate (length t.statements) _ p 0 (omega (arith, statements_length f))

    touched_at : (x p : ℕ) → p < statements f → held_at f flow counted x p ≡ cond (touches_at t (one_each t) (sets_in t) x p) (get_or counted p 0) (all_locks t)
    unfolding held_at accesses touches_at
    touched_at x p h = rw (own_is reading p h, own_is writing p h, locks_is f)

    held_at_lem : (x p : ℕ) → p < statements f → held_at f flow counted x p ≡ left x p
    unfolding counted_at
    held_at_lem x p h =
        touched_at x p h ∙ ap (λ (l : ℕ). cond (touches_at t (one_each t) (sets_in t) x p) l (all_locks t)) (counted_at_lem p h)
        ∙ both_tests (touches_at t (one_each t) (sets_in t) x p) (is_preceded (one_each t) (sets_in t).preceded p) (own_held t (one_each t) (sets_in t) p) (all_locks t)

    common_at : (x : ℕ) → common_by f flow counted x ≡ common_locks t (one_each t) (sets_in t) x
    unfolding common_by common_locks one_each
    common_at x =
        inter_same (firsts (locks f)) (statements f) (held_at f flow counted x) (left x) (held_at_lem x)
        ∙ ap₂ (λ (s n : ℕ). inter_from s 0 n (left x)) (ap firsts (sym (locks_is f))) (sym (statements_length f))

    noted_is : {noted : Noted} → noted ≡ noted_by f flow counted
        → noted ≡ of_counts (tabulate 64 (common_locks t (one_each t) (sets_in t))) (cell_by_cell t (one_each t) (sets_in t) 64)
    unfolding noted_by
    noted_is e = e ∙ ap₂ of_counts (tabulate_same 64 _ _ (λ x l. common_at x)) walk_is

    -- what the walk over the statements noted is what is found
    pub found : Accepted t → {held : List ℕ} → held ≡ own_holds t (one_each t) (sets_in t) → (shared : ℕ) (noted : Noted) → shared ≡ shared_cells t (one_each t) (sets_in t)
        → noted ≡ noted_by f flow counted → Found f flow held shared noted
    unfolding cell_by_cell
    found acc held_is shared noted shared_is e =
        let few : cells f ≤ 64 = cells_few acc in
        record {
          flow_is = flow_is;
          held_is = held_is;
          shared_is = shared_is;
          common_is = λ x h. ap (λ (n : Noted). get_or n.common x 0) (noted_is e) ∙ get_d_tabulate 64 _ x 0 (omega (arith, cells_is f));
          counts_is = λ w x h. ap (λ (n : Noted). get_or (counts_of w n) x 0) (noted_is e) ∙ counts w x (omega (arith, cells_is f));
        }
      where
        counts : (w : Bool) (x : ℕ) → x < 64
            → get_or (counts_of w (of_counts (tabulate 64 (common_locks t (one_each t) (sets_in t))) (cell_by_cell t (one_each t) (sets_in t) 64))) x 0 ≡ access_count t (one_each t) (sets_in t) w x
        counts false x l = get_d_tabulate 64 _ x 0 l
        counts true x l = get_d_tabulate 64 _ x 0 l

  -- ---- the totals

  module _ {flow held : List ℕ} {shared : ℕ} {noted : Noted} (is : Found f flow held shared noted) where
    held_own : (p : ℕ) → p < statements f → get_or held p 0 ≡ own_held t (one_each t) (sets_in t) p
    unfolding own_holds one_each
    held_own p h = ap (λ (l : List ℕ). get_or l p 0) is.held_is ∙ get_d_tabulate (length t.statements) _ p 0 (omega (arith, statements_length f))

    pub stray_is : (p : ℕ) → p < statements f → stray_in f flow held p ≡ is_stray t (one_each t) (sets_in t) p
    unfolding stray_in stray_at own_held one_each
    stray_is p h =
        ap₂ {C = Bool} (λ (l : List ℕ) (x : ℕ). stray_by (λ h. get_or l h 0) x (statement_of f p)) is.flow_is (held_own p h)
        ∙ ap {B = Bool} (λ (σ : Statement). stray_by (λ h. get_or (sets_in t).flow h 0) (own_held t (one_each t) (sets_in t) p) σ) (sym (statement_is f p h))
        ∙ stray_own (λ h. get_or (sets_in t).flow h 0) (get_or (sets_in t).held_to_write p 0) (get_or (sets_in t).held p 0) (statement t p)
        ∙ sym (stray_one_copy t (sets_in t) p)

    pub strays_counted : count_from 0 (statements f) (stray_in f flow held) ≡ count_from 0 (length t.statements) (is_stray t (one_each t) (sets_in t))
    strays_counted =
        count_same (statements f) (stray_in f flow held) (is_stray t (one_each t) (sets_in t)) stray_is
        ∙ ap (λ (n : ℕ). count_from 0 n (is_stray t (one_each t) (sets_in t))) (sym (statements_length f))

    pub unguarded_counted : count_from 0 (cells f) (unguarded_in shared noted.common) ≡ count_from 0 t.cells (unguarded_cell t (one_each t))
    unfolding unguarded_in unguarded_cell
    unguarded_counted =
        count_same (cells f) (unguarded_in shared noted.common) (unguarded_cell t (one_each t))
        (λ x h. ap₂ (λ (s c : ℕ). is_unguarded s c x) is.shared_is (is.common_is x (omega (arith, cells_is f))))
        ∙ ap (λ (n : ℕ). count_from 0 n (unguarded_cell t (one_each t))) (sym (cells_is f))
