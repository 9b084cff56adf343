-- C-20: "this walk and summing cell by cell give the same counts on every table", over any copies. Assumes nothing.
use Rattle.std.specs.Prelude.{◌≡◌, Bool, cond, length}
use Rattle.std.proofs.Math.Path.{refl, ap, ap₂}
use Rattle.std.proofs.Common.{sym, ◌∙◌, subst}
use mathlib.Core.List.{List, [], ◌∷◌, ◌++◌, append_assoc}
use Prim.Native.Nat.{ℕ, zero, suc, ◌+◌, ◌≤◌, ◌<◌}
use Rattle.std.proofs.Math.ListN.{get_or}
use Rattle.sets.specs.Set.{has}
use Rattle.table.specs.Table.{Table}
use Rattle.table.specs.Tabulate.{tabulate_from, tabulate}
use Rattle.table.proofs.TabulateLaws.{length_tabulate, get_d_tabulate, tabulate_same, get_d_front}
use Rattle.report.specs.Over.{joined_from, count_from}
use Rattle.report.specs.Layout.{Layout}
use Rattle.report.specs.Operations.{reading, writing}
use Rattle.report.specs.Findings.{Sets, sets_of, shared_cells, statement_access, access_count}
use Rattle.report.specs.Report.{cell_line, cell_lines, stray_lines, total_line, finding_lines, lines_for}
use Rattle.report.proofs.ReportTextLaws.{count_most}
use Rattle.report.specs.Counts.{no_counts, add_each, add_access, walk_from, walked, cell_by_cell}

-- what is added to counts that are known cell by cell
pub add_tabulate : (set cells : ℕ) (g : ℕ → ℕ) → add_each set (tabulate cells g) ≡ tabulate cells (λ x. cond (has set x) 1 0 + g x)
unfolding add_each
add_tabulate set cells g =
    ap (λ (n : ℕ). tabulate n (λ x. cond (has set x) 1 0 + get_or (tabulate cells g) x 0)) (length_tabulate cells g)
    ∙ tabulate_same cells _ _ (λ x h. ap (λ (n : ℕ). cond (has set x) 1 0 + n) (get_d_tabulate cells g x 0 h))

-- the same walk, whatever a statement accesses
module _ (own : Bool → ℕ → ℕ) (cells : ℕ) where
  -- how many of n statements access each cell
  abbrev each : ℕ → ℕ → Bool → List ℕ
  each from n w = tabulate cells (λ x. count_from from n (λ s. has (own w s) x))

  pub walk_counts : (from n : ℕ) → walk_from own cells from n ≡ record { reads = each from n reading; writes = each from n writing }
  unfolding walk_from no_counts add_access count_from
  walk_counts from zero = refl
  walk_counts from (suc n) =
      ap (add_access (λ w. own w from)) (walk_counts (from + 1) n)
      ∙ ap₂ (λ (r w : List ℕ). record { reads = r; writes = w }) (add_tabulate (own reading from) cells _) (add_tabulate (own writing from) cells _)

  -- no count is above the number of statements
  few : (from n : ℕ) (w : Bool) (x : ℕ) → x < cells → get_or (each from n w) x 0 ≤ n
  few from n w x h = subst (λ (m : ℕ). m ≤ n) (sym (get_d_tabulate cells _ x 0 h)) (count_most from n _)

  pub walk_few : (from n x : ℕ) → x < cells → (get_or (walk_from own cells from n).reads x 0 ≤ n) × (get_or (walk_from own cells from n).writes x 0 ≤ n)
  walk_few from n x h = rw (walk_counts from n) (few from n reading x h, few from n writing x h)

-- the law
pub walk_is_cell_by_cell : (t : Table) (k : Layout) (a : Sets) (cells : ℕ) → walked t k a cells ≡ cell_by_cell t k a cells
unfolding walked cell_by_cell access_count
walk_is_cell_by_cell t k a cells = walk_counts (statement_access t k a) cells 0 (length t.statements)

-- ---- as the report has it

-- a line for each number
lines_of : (from n : ℕ) (f : ℕ → List ℕ) → joined_from from n (λ x. f x ∷ []) ≡ tabulate_from from n f
unfolding joined_from tabulate_from
lines_of from zero f = refl
lines_of from (suc n) f = ap (λ (ls : List (List ℕ)). f from ∷ ls) (lines_of (from + 1) n f)

module _ (t : Table) (k : Layout) (x : ℕ) (there : x < t.cells) where
  -- line x of the report, from 0 on, is line 51 of cell x
  pub line_51 : get_or (lines_for t k) x [] ≡ cell_line t k (sets_of t k) (shared_cells t k (sets_of t k)) x
  unfolding lines_for finding_lines cell_lines tabulate
  line_51 =
      ap (λ (ls : List (List ℕ)). get_or ls x []) (append_assoc (cell_lines t k (sets_of t k)) (stray_lines t k (sets_of t k)) (total_line (finding_lines t k) ∷ []))
      ∙ ap (λ (ls : List (List ℕ)). get_or (ls ++ rest) x []) (lines_of 0 t.cells (cell_line t k (sets_of t k) (shared_cells t k (sets_of t k))))
      ∙ get_d_front t.cells (cell_line t k (sets_of t k) (shared_cells t k (sets_of t k))) rest x [] there
    where
      rest : List (List ℕ)
      rest = stray_lines t k (sets_of t k) ++ (total_line (finding_lines t k) ∷ [])

  -- its counts are the walk's
  pub line_by_walk : (get_or (get_or (lines_for t k) x []) 2 0 ≡ get_or (walked t k (sets_of t k) t.cells).reads x 0)
      × (get_or (get_or (lines_for t k) x []) 3 0 ≡ get_or (walked t k (sets_of t k) t.cells).writes x 0)
  unfolding cell_line cell_by_cell
  line_by_walk =
      rw (line_51, walk_is_cell_by_cell t k (sets_of t k) t.cells, get_d_tabulate t.cells (access_count t k (sets_of t k) reading) x 0 there, get_d_tabulate t.cells (access_count t k (sets_of t k) writing) x 0 there)
      (refl, refl)
