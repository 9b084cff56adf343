-- The printed lines are the report's, its totals are those that were counted, and so many bytes are written. Assumes nothing.
use Rattle.std.specs.Prelude.{◌≡◌, refl, cond, ◌&&◌, ℕ, zero, suc, ◌+◌, ◌*◌, ◌≤◌, ◌<◌, eqb, ℤ, length, drop, Some, None}
use Rattle.std.proofs.Math.Path.{sym, ap, ap₂, subst}
use Rattle.std.proofs.Common.{◌∙◌, arith, zero-add, lt-ltb, le-ltb}
use mathlib.Core.List.Memᴰ
use mathlib.Core.List.{List, [], ◌∷◌, ◌++◌, map, Memᴰ}
use Rattle.std.proofs.Math.IntN.{pos}
use Rattle.lines.specs.Line.{line_text}
use Rattle.table.specs.Header.{cells, statements}
use Rattle.table.specs.Table.{Table, table_of}
use Rattle.table.specs.Accepted.{Accepted}
use Rattle.table.proofs.LookupLaws.{cells_is, statements_length}
use Rattle.report.specs.Over.{joined_from, count_from}
use Rattle.report.proofs.OverLaws.{below_within, joined_has}
use Rattle.report.specs.Layout.{one_each}
use Rattle.report.specs.Operations.{reading, writing}
use Rattle.report.specs.Findings.{Sets, shared_cells, is_stray}
use Rattle.report.specs.Report.{cell_line, cell_lines, stray_line, stray_lines, total_line, finding_lines, lines_for, report_lines, text_of, report_text}
use Rattle.report.proofs.ReportLaws as Totals
use Rattle.report.specs.ReportTextLaws.{Line8}
use Rattle.report.proofs.ReportTextLaws.{lines_8, report_length}
use Rattle.findings.specs.Steps.{stray_in, unguarded_in}
use Rattle.findings.specs.declared.Noted.{Noted}
use Rattle.findings.specs.Found.{sets_in, Found}
use Rattle.findings.specs.FoundLaws.{stray_is, strays_counted, unguarded_counted}
use Rattle.report_printer.specs.Printed.{printed_over, bytes_in, counts_nothing}
use Rattle.report_printer.specs.Lines.{cell_numbers, total_numbers, cells_by, strays_by, text_from, put_at, report_by, RoomForAll}
use Rattle.report_printer.specs.WriteLaws.{text_append, text_one}

joined_same : (from n : ℕ) (g h : ℕ → List (List ℕ)) → ((i : ℕ) → i < from + n → g i ≡ h i) → joined_from from n g ≡ joined_from from n h
unfolding joined_from
joined_same from zero g h e = refl
joined_same from (suc n) g h e =
    ap₂ {C = List (List ℕ)} (λ (a b : List (List ℕ)). a ++ b) (e from (omega arith)) (joined_same (from + 1) n g h (λ i b. e i (omega arith)))

-- ---- the report of what is found

module _ (f : List ℤ) {flow held : List ℕ} {shared : ℕ} {noted : Noted} (is : Found f flow held shared noted) where
  abbrev t : Table
  t = table_of f

  abbrev a : Sets
  a = sets_in t

  -- line 51
  abbrev said : ℕ → List (List ℕ)
  said x = cell_line t (one_each t) a (shared_cells t (one_each t) a) x ∷ []

  cell_is : (x : ℕ) → x < cells f → cells_by shared noted x ≡ said x
  unfolding cells_by cell_numbers cell_line
  cell_is x h =
      let l : x < t.cells = omega (arith, cells_is f) in
      rw (is.counts_is reading x l, is.counts_is writing x l, is.common_is x l, is.shared_is)

  -- line 52
  abbrev strayed : ℕ → List (List ℕ)
  strayed s = cond (is_stray t (one_each t) a s) (stray_line s ∷ []) []

  stray_said : (s : ℕ) → s < statements f → strays_by f flow held s ≡ strayed s
  unfolding strays_by
  stray_said s h = rw (stray_is f is s h)

  module _ (unguarded strays : ℕ) (u : unguarded ≡ count_from 0 (cells f) (unguarded_in shared noted.common))
      (z : strays ≡ count_from 0 (statements f) (stray_in f flow held)) where
    -- line 59
    total_is : total_numbers unguarded strays ≡ total_line (finding_lines t (one_each t))
    unfolding total_numbers total_line
    total_is =
        rw (u ∙ unguarded_counted f is ∙ sym (Totals.unguarded_counted t (one_each t)), z ∙ strays_counted f is ∙ sym (Totals.stray_counted t (one_each t)))

    pub totals_are : (eqb unguarded 0 && eqb strays 0) ≡ counts_nothing t
    unfolding counts_nothing
    totals_are = rw (Totals.unguarded_total_lem t, Totals.stray_total_lem t, u ∙ unguarded_counted f is, z ∙ strays_counted f is)

    -- all lines
    pub report_is : report_by f flow held shared noted unguarded strays ≡ report_text t
    unfolding report_by text_from report_text report_lines lines_for finding_lines cell_lines stray_lines
    report_is =
        ap₂ (λ (x y : List ℕ). x ++ y)
        (ap₂ (λ (x y : List (List ℕ)). text_of (map (map pos) x) ++ text_of (map (map pos) y))
        (joined_same 0 (cells f) _ said (λ i h. cell_is i (omega arith)) ∙ ap (λ (n : ℕ). joined_from 0 n said) (sym (cells_is f)))
        (joined_same 0 (statements f) _ strayed (λ i h. stray_said i (omega arith)) ∙ ap (λ (n : ℕ). joined_from 0 n strayed) (sym (statements_length f)))
        ∙ sym (text_append (cell_lines t (one_each t) a) (stray_lines t (one_each t) a)))
        (ap (λ (l : List ℕ). line_text (map pos l)) total_is ∙ sym (text_one (total_line (finding_lines t (one_each t)))))
        ∙ sym (text_append (finding_lines t (one_each t)) (total_line (finding_lines t (one_each t)) ∷ []))

    module _ (acc : Accepted t) where
      pub report_bytes : 49 * (cells f + strays + 1) ≡ length (report_text t)
      report_bytes = ap₂ (λ (x y : ℕ). 49 * (x + y + 1)) (sym (cells_is f)) (z ∙ strays_counted f is) ∙ sym (report_length t acc)

      -- they are lines
      in_findings : (l : List ℕ) → Memᴰ l (finding_lines t (one_each t)) → Line8 l
      unfolding lines_for
      in_findings l m = lines_8 t (one_each t) acc l (Memᴰ.append_left (total_line (finding_lines t (one_each t)) ∷ []) m)

      cells_eight : (i : ℕ) → i < cells f → (l : List ℕ) → Memᴰ l (cells_by shared noted i) → Line8 l
      unfolding finding_lines cell_lines
      cells_eight i h l m =
          in_findings l (Memᴰ.append_left (stray_lines t (one_each t) a)
          (joined_has 0 t.cells said i l (below_within (omega (arith, cells_is f))) (subst (λ (x : List (List ℕ)). Memᴰ l x) (cell_is i h) m)))

      strays_eight : (i : ℕ) → i < statements f → (l : List ℕ) → Memᴰ l (strays_by f flow held i) → Line8 l
      unfolding finding_lines stray_lines
      strays_eight i h l m =
          in_findings l (Memᴰ.append_right (cell_lines t (one_each t) a)
          (joined_has 0 (length t.statements) strayed i l (below_within (omega (arith, statements_length f)))
          (subst (λ (x : List (List ℕ)). Memᴰ l x) (stray_said i h) m)))

      total_eight : Line8 (total_numbers unguarded strays)
      unfolding lines_for
      total_eight =
          subst Line8 (sym total_is)
          (lines_8 t (one_each t) acc (total_line (finding_lines t (one_each t))) (Memᴰ.append_right (finding_lines t (one_each t)) (Memᴰ.head refl)))

      pub room_for_all : (out : List ℕ) → length (report_text t) ≤ length out → RoomForAll f flow held shared noted unguarded strays out
      room_for_all out h = record {
        cells_eight = cells_eight;
        strays_eight = strays_eight;
        total_eight = total_eight;
        room = subst (λ (x : List ℕ). length x ≤ length out) (sym report_is) h;
      }

-- what the counts say: `n` cells, so many of them unguarded, and so many stray GIVEs
pub record Counted (f : List ℤ) (flow held : List ℕ) (shared : ℕ) (noted : Noted) (n unguarded strays : ℕ) : Type 0 where
  pub count : n ≡ cells f
  pub clean : (eqb unguarded 0 && eqb strays 0) ≡ counts_nothing (table_of f)
  pub bytes : 49 * (n + strays + 1) ≡ length (report_text (table_of f))
  pub report : report_by f flow held shared noted unguarded strays ≡ report_text (table_of f)
  pub room : {out : List ℕ} → 49 * (n + strays + 1) ≤ length out → RoomForAll f flow held shared noted unguarded strays out

pub counted : {f : List ℤ} {flow held : List ℕ} {shared : ℕ} {noted : Noted} → Found f flow held shared noted → {n unguarded strays : ℕ} → n ≡ cells f
    → unguarded ≡ count_from 0 n (unguarded_in shared noted.common) → strays ≡ count_from 0 (statements f) (stray_in f flow held) → Accepted (table_of f)
    → Counted f flow held shared noted n unguarded strays
counted {f} {shared = shared} {noted} is {n} {unguarded} {strays} e u z acc =
    let v : unguarded ≡ count_from 0 (cells f) (unguarded_in shared noted.common) = u ∙ ap (λ (m : ℕ). count_from 0 m (unguarded_in shared noted.common)) e in
    let bytes : 49 * (n + strays + 1) ≡ length (report_text (table_of f)) = ap (λ (m : ℕ). 49 * (m + strays + 1)) e ∙ report_bytes f is unguarded strays v z acc in
    record {
      count = e;
      clean = totals_are f is unguarded strays v z;
      bytes = bytes;
      report = report_is f is unguarded strays v z;
      room = λ {out} h. room_for_all f is unguarded strays v z acc out (omega (arith, bytes, h));
    }

-- ---- a buffer that has room, or not

pub no_room : (report out : List ℕ) → length out < length report → (None ≡ bytes_in report (length out)) × (out ≡ printed_over report out)
no_room report out h = (rw (lt-ltb (length out) (length report) h), rw (lt-ltb (length out) (length report) h))

put_front : (out report : List ℕ) → put_at out 0 report ≡ report ++ drop (length report) out
unfolding put_at
put_front out report = rw (zero-add (length report))

pub has_room : (report out : List ℕ) → length report ≤ length out → (Some (length report) ≡ bytes_in report (length out)) × (put_at out 0 report ≡ printed_over report out)
has_room report out h = (rw (le-ltb (length out) (length report) h), rw (le-ltb (length out) (length report) h) (put_front out report))
