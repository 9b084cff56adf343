-- "the report does not depend on values": it looks at a table's statements by their views alone, so two tables that differ in the numbers of SET and ADD
-- have the same report. Assumes nothing.
use Rattle.std.specs.Prelude.{ℕ, ◌≡◌, Bool, List, ◌++◌}
use Rattle.std.proofs.Common.{ap}
use Rattle.std.proofs.Math.Path.{fun_ext}
use Rattle.table.specs.Table.{Table, statement}
use Rattle.table.specs.View.{view}
use Rattle.table.specs.declared.Arguments.{Arguments}
use Rattle.table.specs.declared.Statement.{Statement}
use Rattle.report.specs.Layout.{Layout, named, is_in, owner_of, one_each}
use Rattle.report.specs.Operations.{nexts, reading, writing, accessed, given}
use Rattle.report.specs.Flow.{start_of, passing, flow_edges, all_flow_edges, flow_initials, flow_sets}
use Rattle.report.specs.Effect.{over_copy, naming_edges, call_edges, effects, gives, effect_of}
use Rattle.report.specs.Future.{next_effects, future_edges, future_initials, futures}
use Rattle.report.specs.Preceded.{reach_edges, reach_sets, brings_start, preceding_edges, preceded_sets}
use Rattle.report.specs.Held.{entry, at_returns, taken_in, gained, lost, held_after, ways_from, all_ways, held_sets}
use Rattle.report.specs.Findings.{Sets, sets_of, shared_at, shared_cells, own_access, touches_at, counted_at, own_held, common_locks, stray_by, stray_at, statement_access, access_count, is_stray}
use Rattle.report.specs.Report.{cell_line, cell_lines, stray_lines, finding_lines, lines_for, report_lines, report_text}
use Rattle.report.specs.ValueLaws.{Alike, SameButNumber, SameButNumbers, same, sets, adds}

-- ---- such tables have the same report: in each definition, the parts and views of one may stand for those of the other

module _ (t u : Table) (alike : Alike t u) where
  open alike use {cells_same, locks_same, handles_same, routines_same, count_same}

  views_same : (s : ℕ) → view (statement t s) ≡ view (statement u s)
  views_same s = alike.each s

  -- for any layout of copies
  module _ (k : Layout) where
    -- the flow sets
    passing_by_view : (c d q : ℕ) (a : Arguments) → passing t k c d q a ≡ passing u k c d q a
    unfolding passing
    passing_by_view c d q a = simp routines_same

    flow_by_view : flow_sets t k ≡ flow_sets u k
    unfolding flow_sets all_flow_edges flow_edges flow_initials start_of
    flow_by_view = simp (views_same, handles_same, passing_by_view)

    -- the effects, and the locks that may be given up
    effects_by_view : (flow : List ℕ) (w : Bool) → effects t k flow w ≡ effects u k flow w
    unfolding effects naming_edges over_copy accessed
    effects_by_view flow w = simp (views_same, routines_same)

    gives_by_view : (flow : List ℕ) → gives t k flow ≡ gives u k flow
    unfolding gives call_edges over_copy given
    gives_by_view flow = simp (views_same, routines_same)

    -- the futures
    effect_by_view : (flow effect : List ℕ) (w : Bool) (c : ℕ) → effect_of t k flow effect w c ≡ effect_of u k flow effect w c
    unfolding effect_of accessed
    effect_by_view flow effect w c = fun_ext (λ s. simp views_same)

    futures_by_view : (flow effect : List ℕ) (w : Bool) → futures t k flow effect w ≡ futures u k flow effect w
    unfolding futures future_edges future_initials next_effects nexts
    futures_by_view flow effect w = simp (views_same, effect_by_view)

    -- the held sets
    held_by_view : (mode : Bool) (flow freed : List ℕ) → held_sets t k mode flow freed ≡ held_sets u k mode flow freed
    unfolding held_sets all_ways ways_from entry held_after gained taken_in lost at_returns nexts
    held_by_view mode flow freed = simp (views_same, routines_same, locks_same, entry)

    -- what a START can precede
    reach_by_view : reach_sets t k ≡ reach_sets u k
    unfolding reach_sets reach_edges
    reach_by_view = simp views_same

    preceded_by_view : (reach : List ℕ) → preceded_sets t k reach ≡ preceded_sets u k reach
    unfolding preceded_sets preceding_edges brings_start nexts
    preceded_by_view reach = simp views_same

    -- all sets
    sets_by_view : sets_of t k ≡ sets_of u k
    unfolding sets_of
    sets_by_view = simp (flow_by_view, effects_by_view, gives_by_view, held_by_view, futures_by_view, reach_by_view, preceded_by_view)

    -- the findings
    shared_by_view : (a : Sets) → shared_at t k a ≡ shared_at u k a
    unfolding shared_at
    shared_by_view a = fun_ext (λ p. simp views_same)

    access_by_view : (a : Sets) (w : Bool) → own_access t k a w ≡ own_access u k a w
    unfolding own_access accessed
    access_by_view a w = fun_ext (λ p. simp views_same)

    touches_by_view : (a : Sets) (x p : ℕ) → touches_at t k a x p ≡ touches_at u k a x p
    unfolding touches_at
    touches_by_view a x p = rw (access_by_view a reading, access_by_view a writing)

    own_held_by_view : (a : Sets) (p : ℕ) → own_held t k a p ≡ own_held u k a p
    unfolding own_held
    own_held_by_view a p = simp views_same

    findings_by_view : (a : Sets) → cell_lines t k a ++ stray_lines t k a ≡ cell_lines u k a ++ stray_lines u k a
    unfolding cell_lines cell_line access_count statement_access common_locks counted_at shared_cells stray_lines is_stray stray_at stray_by
    findings_by_view a = simp (views_same, cells_same, locks_same, count_same, shared_by_view, access_by_view, touches_by_view, own_held_by_view)

    -- the lines
    pub lines_by_view : lines_for t k ≡ lines_for u k
    unfolding lines_for finding_lines
    lines_by_view = simp (sets_by_view, findings_by_view)

  -- the layout with one copy of each routine
  owner_by_view : owner_of t ≡ owner_of u
  unfolding owner_of is_in
  owner_by_view = fun_ext (λ s. simp (routines_same, is_in))

  pub layout_by_view : one_each t ≡ one_each u
  unfolding one_each named
  layout_by_view = simp (views_same, routines_same, handles_same, count_same, owner_by_view)

  -- the report
  pub report_by_view : report_text t ≡ report_text u
  unfolding report_text report_lines
  report_by_view = simp (lines_by_view, layout_by_view)

-- ---- two tables that differ in the numbers of SET and ADD are such tables

-- a view does not show the number of a SET or of an ADD
same_view : (σ τ : Statement) → SameButNumber σ τ → view σ ≡ view τ
same_view σ τ (same e) = ap view e
same_view σ τ (sets m n p q) = rw (p, q)
same_view σ τ (adds m n p q) = rw (p, q)

-- C-17: "the report does not depend on values"
pub report_without_values : (t u : Table) → SameButNumbers t u → report_text t ≡ report_text u
report_without_values t u numbers =
    report_by_view t u
    (record {
      cells_same = numbers.cells_same;
      locks_same = numbers.locks_same;
      handles_same = numbers.handles_same;
      routines_same = numbers.routines_same;
      count_same = numbers.count_same;
      each = λ s. same_view (statement t s) (statement u s) (numbers.each s);
    })
