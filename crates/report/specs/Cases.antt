-- A case is a table as its lines and the report that it is to have. Assumes nothing.
use Rattle.std.specs.Prelude.{ℕ, List, [], ◌∷◌, ◌++◌, ℤ, pos}
use Rattle.std.specs.Int.Count.{ones_in}
use Rattle.sets.specs.Set.{has, firsts, one, union, inter, minus, subset, is_empty, count, is_single}
use Rattle.sets.specs.Least.{same, room, settle, settled, put_into, along, pass_edges, least}
use Rattle.lines.specs.Lowest.{lowest}
use Rattle.table.specs.Until.{until}
use Rattle.table.specs.Fields.{plain}
use Rattle.table.specs.Handles.{handles_from, parameters}
use Rattle.table.specs.Routines.{first_statement}
use Rattle.table.specs.Table.{Table, arguments_in, statement_in, statement_of, declaration_of, routine_at, table_of}
use Rattle.table.specs.Tabulate.{tabulate_from, tabulate}
use Rattle.report.specs.Over.{joined_from, union_from, inter_from, count_from, union_at}
use Rattle.report.specs.Greatest.{leaving, narrow, narrow_all, left_out, greatest}
use Rattle.report.specs.Layout.{named, is_in, owner_of, one_each}
use Rattle.report.specs.Operations.{nexts, accessed, given}
use Rattle.report.specs.Flow.{start_of, passing, flow_edges, all_flow_edges, flow_initials, flow_sets}
use Rattle.report.specs.Effect.{over_copy, up_from, naming_edges, call_edges, effects, gives, effect_of}
use Rattle.report.specs.Held.{entry, only_lock, at_returns, taken_in, gained, lost, held_after, ways_from, all_ways, held_sets}
use Rattle.report.specs.Future.{callers, next_effects, future_edges, future_initials, futures}
use Rattle.report.specs.Preceded.{marked, is_marked, reach_edges, reach_sets, brings_start, entered, preceding_edges, preceded_sets, is_preceded}
use Rattle.report.specs.Findings.{sets_of, clash, shared_at, shared_cells, own_access, touches_at, counted_at, own_held, common_locks, is_unguarded, stray_by, stray_at, statement_access, access_count, is_stray}
use Rattle.report.specs.Counts.{Counts, no_counts, add_each, add_access, walk_from, walked}
use Rattle.report.specs.Report.{cell_line, cell_lines, stray_line, stray_lines, count_lines, says_unguarded, says_stray, total_line, finding_lines, lines_for, report_lines}

pub record Case : Type 0 where
  pub lines : List (List ℤ)
  pub report : List (List ℤ)

-- a line of eight numbers
abbrev pub row : ℕ → ℕ → ℕ → ℕ → ℕ → ℕ → ℕ → ℕ → List ℤ
row a b c d e f g h = pos a ∷ pos b ∷ pos c ∷ pos d ∷ pos e ∷ pos f ∷ pos g ∷ pos h ∷ []

abbrev pub in_one_list : List (List ℤ) → List ℤ
in_one_list [] = []
in_one_list (l ∷ ls) = l ++ in_one_list ls

-- the reports of the cases, as the definitions give them and as they are to be
unfoldable pub as_computed : List Case → List (List (List ℤ))
unfolding ones_in has firsts one union inter minus subset is_empty count is_single same room settle settled put_into along pass_edges least lowest until plain handles_from parameters first_statement tabulate_from tabulate arguments_in statement_in statement_of declaration_of routine_at table_of joined_from union_from inter_from count_from union_at leaving narrow narrow_all left_out greatest named is_in owner_of one_each nexts accessed given start_of passing flow_edges all_flow_edges flow_initials flow_sets over_copy up_from naming_edges call_edges effects gives effect_of entry only_lock at_returns taken_in gained lost held_after ways_from all_ways held_sets callers next_effects future_edges future_initials futures marked is_marked reach_edges reach_sets brings_start entered preceding_edges preceded_sets is_preceded sets_of clash shared_at shared_cells own_access touches_at counted_at own_held common_locks is_unguarded stray_by stray_at statement_access access_count is_stray cell_line cell_lines stray_line stray_lines count_lines says_unguarded says_stray total_line finding_lines lines_for report_lines
as_computed [] = []
as_computed (c ∷ cs) = report_lines (table_of (in_one_list c.lines)) ∷ as_computed cs

-- the counts of a case's lines 51, summed in one walk
unfoldable pub walk_of : Case → Counts
unfolding as_computed no_counts add_each add_access walk_from walked
walk_of c = let t : Table = table_of (in_one_list c.lines) in walked t (one_each t) (sets_of t (one_each t)) t.cells

abbrev pub as_given : List Case → List (List (List ℤ))
as_given [] = []
as_given (c ∷ cs) = c.report ∷ as_given cs
