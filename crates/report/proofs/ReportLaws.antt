-- The lines of the report: the totals of line 59 are the counts of unguarded cells and of stray GIVEs, and where both are 0 the report is clean.
-- Assumes nothing.
use Rattle.std.proofs.lemmas.List.{map-append}
use Prim.Native.Nat.{ℕ, zero, suc, ◌+◌}
use Rattle.std.specs.Prelude.{◌≡◌, Bool, List, [], ◌∷◌, ◌++◌, map, ℤ, pos, length, get_or}
use Rattle.std.proofs.Math.Path.{refl, ap}
use Rattle.std.proofs.Common.{sym, ◌∙◌, arith, add_assoc}
use Rattle.std.proofs.Math.Bool.{true, false, cond}
use Rattle.std.proofs.Math.Nat.{zero-add, add-zero}
use Rattle.std.proofs.Math.Dec.{eqb}
use Rattle.table.specs.Table.{Table}
use Rattle.table.specs.Accepted.{Accepted}
use Rattle.report.specs.Over.{joined_from, count_from}
use Rattle.report.proofs.OverLaws.{Within, first_or, never, below_within}
use Rattle.report.specs.Layout.{Layout, one_each}
use Rattle.report.specs.Fits.{Fits, StatementThere, copies_of}
use Rattle.report.proofs.OneEach.{one_each_fits}
use Rattle.report.specs.Findings.{Sets, sets_of, shared_cells, common_locks, is_unguarded, stray_at, is_stray}
use Rattle.report.proofs.FindingsLaws.{guarded_is, sound_if, stray_has}
use Rattle.report.proofs.PlaceLaws.{placed}
use Rattle.report.specs.Report.{bit, cell_line, cell_lines, stray_line, stray_lines, count_lines, says_unguarded, says_stray, total_line, finding_lines, lines_for, report_lines, last_line, unguarded_total, stray_total}
use Rattle.report.proofs.ReportRules.{families, report_rules}
use Rattle.report.specs.Rules.{Place, Clean, Rules}

-- ---- counting

count_append : (test : List ℕ → Bool) (a b : List (List ℕ)) → count_lines test (a ++ b) ≡ count_lines test a + count_lines test b
unfolding count_lines
count_append test [] b = sym (zero-add (count_lines test b))
count_append test (l ∷ a) b = ap (λ (x : ℕ). bit (test l) + x) (count_append test a b) ∙ sym (add_assoc (bit (test l)) (count_lines test a) (count_lines test b))

count_joined : (test : List ℕ → Bool) (f : ℕ → List (List ℕ)) (g : ℕ → Bool) → ((i : ℕ) → count_lines test (f i) ≡ bit (g i)) → (from n : ℕ)
    → count_lines test (joined_from from n f) ≡ count_from from n g
unfolding count_lines joined_from count_from
count_joined test f g e from zero = refl
count_joined test f g e from (suc n) =
    count_append test (f from) (joined_from (from + 1) n f) ∙ ap (λ (x : ℕ). x + count_lines test (joined_from (from + 1) n f)) (e from)
    ∙ ap (λ (x : ℕ). bit (g from) + x) (count_joined test f g e (from + 1) n)

count_none : (from n : ℕ) → count_from from n (λ i. false) ≡ 0
unfolding count_from
count_none from zero = refl
count_none from (suc n) = zero-add _ ∙ count_none (from + 1) n

-- where none is counted, none passes
pub counted_none : (from n : ℕ) (g : ℕ → Bool) → count_from from n g ≡ 0 → (i : ℕ) → Within from n i → g i ≡ false
unfolding count_from
counted_none from zero g e i w = absurd (omega arith)
counted_none from (suc n) g e i w =
    let ih : count_from (from + 1) n g ≡ 0 → Within (from + 1) n i → g i ≡ false = λ q v. counted_none (from + 1) n g q i v in
    first_or w (λ q. ap g q ∙ go (g from) e) (λ v. ih (omega arith) v)
  where
    go : (b : Bool) → bit b + count_from (from + 1) n g ≡ 0 → b ≡ false
    go true q = absurd (omega arith)
    go false q = refl

-- ---- the lines of the report

one_line : (test : List ℕ → Bool) (l : List ℕ) → count_lines test (l ∷ []) ≡ bit (test l)
unfolding count_lines
one_line test l = add-zero (bit (test l))

module _ (t : Table) (k : Layout) where
  abbrev the_sets : Sets
  the_sets = sets_of t k

  -- cell x is reported unguarded
  unfoldable pub unguarded_cell : ℕ → Bool
  unguarded_cell x = is_unguarded (shared_cells t k the_sets) (common_locks t k the_sets x) x

  says_unguarded_lem : (x : ℕ) → says_unguarded (cell_line t k the_sets (shared_cells t k the_sets) x) ≡ unguarded_cell x
  unfolding says_unguarded cell_line unguarded_cell
  says_unguarded_lem x = go (is_unguarded (shared_cells t k the_sets) (common_locks t k the_sets x) x)
    where
      go : (b : Bool) → eqb (bit b) 1 ≡ b
      go true = refl
      go false = refl

  says_not_stray : (x : ℕ) → says_stray (cell_line t k the_sets (shared_cells t k the_sets) x) ≡ false
  unfolding says_stray cell_line
  says_not_stray x = refl

  stray_count : (s : ℕ) → count_lines says_stray (cond (is_stray t k the_sets s) (stray_line s ∷ []) []) ≡ bit (is_stray t k the_sets s)
  unfolding count_lines says_stray stray_line
  stray_count s = go (is_stray t k the_sets s)
    where
      go : (b : Bool) → count_lines says_stray (cond b (stray_line s ∷ []) []) ≡ bit b
      go true = refl
      go false = refl

  stray_not_unguarded : (s : ℕ) → count_lines says_unguarded (cond (is_stray t k the_sets s) (stray_line s ∷ []) []) ≡ 0
  unfolding count_lines says_unguarded stray_line
  stray_not_unguarded s = go (is_stray t k the_sets s)
    where
      go : (b : Bool) → count_lines says_unguarded (cond b (stray_line s ∷ []) []) ≡ 0
      go true = refl
      go false = refl

  -- the totals are the counts of the cells that are unguarded and of the statements that are stray GIVEs
  pub unguarded_counted : count_lines says_unguarded (finding_lines t k) ≡ count_from 0 t.cells unguarded_cell
  unfolding finding_lines cell_lines stray_lines
  unguarded_counted =
      count_append says_unguarded (cell_lines t k the_sets) (stray_lines t k the_sets)
      ∙ ap (λ (x : ℕ). count_lines says_unguarded (cell_lines t k the_sets) + x)
      (count_joined says_unguarded (λ s. cond (is_stray t k the_sets s) (stray_line s ∷ []) []) (λ s. false) stray_not_unguarded 0 (length t.statements)
      ∙ count_none 0 (length t.statements))
      ∙ add-zero (count_lines says_unguarded (cell_lines t k the_sets))
      ∙ count_joined says_unguarded (λ x. cell_line t k the_sets (shared_cells t k the_sets) x ∷ []) unguarded_cell
      (λ x. one_line says_unguarded (cell_line t k the_sets (shared_cells t k the_sets) x) ∙ ap bit (says_unguarded_lem x)) 0 t.cells

  pub stray_counted : count_lines says_stray (finding_lines t k) ≡ count_from 0 (length t.statements) (is_stray t k the_sets)
  unfolding finding_lines cell_lines stray_lines
  stray_counted =
      count_append says_stray (cell_lines t k the_sets) (stray_lines t k the_sets)
      ∙ ap (λ (x : ℕ). x + count_lines says_stray (stray_lines t k the_sets))
      (count_joined says_stray (λ x. cell_line t k the_sets (shared_cells t k the_sets) x ∷ []) (λ x. false)
      (λ x. one_line says_stray (cell_line t k the_sets (shared_cells t k the_sets) x) ∙ ap bit (says_not_stray x)) 0 t.cells
      ∙ count_none 0 t.cells)
      ∙ zero-add (count_lines says_stray (stray_lines t k the_sets))
      ∙ count_joined says_stray (λ s. cond (is_stray t k the_sets s) (stray_line s ∷ []) []) (is_stray t k the_sets) stray_count 0 (length t.statements)

  -- ---- both totals 0: the report is clean

  pub clean_if : Accepted t → (fits : Fits t k) → count_lines says_unguarded (finding_lines t k) ≡ 0 → count_lines says_stray (finding_lines t k) ≡ 0
      → Clean (copies_of fits) (families t k)
  unfolding unguarded_cell
  clean_if acc fits u z = record {
    guarded = λ x l. guarded_is t k acc fits x (counted_none 0 t.cells unguarded_cell (sym unguarded_counted ∙ u) x (below_within l));
    not_stray = λ c s h v e. sound_if t k acc fits c s h v e (calm c s v (stray_at t k the_sets (k.statement_place c s)) refl);
  }
    where
      calm : (c s : ℕ) → Place (copies_of fits) c s → (b : Bool) → stray_at t k the_sets (k.statement_place c s) ≡ b → stray_at t k the_sets (k.statement_place c s) ≡ false
      calm c s v false e = e
      calm c s v true e =
          let p : ℕ = k.statement_place c s in
          let w : StatementThere t k p = fits.statement_there p (placed t k fits c s v).there in
          never (sym (stray_has t k acc fits (k.statement_at p) p w.among e)
          ∙ counted_none 0 (length t.statements) (is_stray t k the_sets) (sym stray_counted ∙ z) (k.statement_at p) (below_within w.number))

-- ---- the report

last_of_lem : (ls : List (List ℤ)) (l : List ℤ) → last_line (ls ++ (l ∷ [])) ≡ l
unfolding last_line
last_of_lem [] l = refl
last_of_lem (a ∷ []) l = refl
last_of_lem (a ∷ b ∷ ls) l = last_of_lem (b ∷ ls) l

-- the last line is line 59 with the two totals
pub last_line_lem : (t : Table) → last_line (report_lines t) ≡ map pos (total_line (finding_lines t (one_each t)))
unfolding report_lines lines_for
last_line_lem t =
    ap last_line (map-append (map pos) (finding_lines t (one_each t)) (total_line (finding_lines t (one_each t)) ∷ []))
    ∙ last_of_lem (map (map pos) (finding_lines t (one_each t))) (map pos (total_line (finding_lines t (one_each t))))

pub unguarded_total_lem : (t : Table) → unguarded_total t ≡ pos (count_from 0 t.cells (unguarded_cell t (one_each t)))
unfolding unguarded_total total_line
unguarded_total_lem t = ap (λ (l : List ℤ). get_or l 1 (pos 0)) (last_line_lem t) ∙ ap pos (unguarded_counted t (one_each t))

pub stray_total_lem : (t : Table) → stray_total t ≡ pos (count_from 0 (length t.statements) (is_stray t (one_each t) (sets_of t (one_each t))))
unfolding stray_total total_line
stray_total_lem t = ap (λ (l : List ℤ). get_or l 2 (pos 0)) (last_line_lem t) ∙ ap pos (stray_counted t (one_each t))

-- an accepted table whose report's two totals are 0 has a clean report
pub clean_report : (t : Table) (acc : Accepted t) → unguarded_total t ≡ pos 0 → stray_total t ≡ pos 0
    → Clean (copies_of (one_each_fits t acc)) (families t (one_each t))
clean_report t acc u z =
    clean_if t (one_each t) acc (one_each_fits t acc)
    (unguarded_counted t (one_each t) ∙ none (sym (unguarded_total_lem t) ∙ u))
    (stray_counted t (one_each t) ∙ none (sym (stray_total_lem t) ∙ z))
  where
    none : {n : ℕ} → pos n ≡ pos 0 → n ≡ 0
    none e = cc

-- and the sets of its report satisfy the rules
pub report_satisfies : (t : Table) (acc : Accepted t) → Rules (copies_of (one_each_fits t acc)) (families t (one_each t))
report_satisfies t acc = report_rules t (one_each t) acc (one_each_fits t acc)
