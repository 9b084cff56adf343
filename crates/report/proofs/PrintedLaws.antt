-- A line 51 of the report, as printed, says what the definitions give of its cell. Assumes nothing.
use Rattle.std.specs.Prelude.{ℕ, zero, suc, ◌+◌, ◌*◌, ◌<◌, ◌≡◌, refl, Bool, true, false, cond, ◌⊎◌, ℤ, pos, length, take, drop}
use Rattle.std.proofs.Common.{sym, ◌∙◌, subst, inl, inr, arith, drop-drop}
use Rattle.std.proofs.Math.Path.{ap}
use Rattle.std.proofs.Math.Option.{some}
use mathlib.Core.List.Memᴰ
use mathlib.Core.List.{List, [], ◌∷◌, ◌++◌, map, Memᴰ}
use Rattle.std.proofs.Math.ListN.{get_or}
use Rattle.std.proofs.lemmas.List.{length-map}
use Rattle.std.proofs.Math.Seq.{drop-nil, take-append_seam, drop-append_seam}
use Rattle.lines.specs.Line.{line_text, line_of, line_at}
use Rattle.lines.proofs.LineLaws.{LineIs, line_text_length, printed_reads_back, read_prints_back}
use Rattle.table.specs.Table.{Table}
use Rattle.table.specs.Accepted.{Accepted}
use Rattle.report.proofs.OverLaws.{Within, within_below, joined_from_lem}
use Rattle.report.specs.Layout.{Layout, one_each}
use Rattle.report.specs.Findings.{Sets, sets_of, shared_cells, is_stray}
use Rattle.report.specs.Report.{cell_line, cell_lines, stray_line, stray_lines, total_line, finding_lines, lines_for, report_lines, text_of, report_text, Says51}
use Rattle.report.specs.ReportTextLaws.{Line8}
use Rattle.report.proofs.ReportTextLaws.{lines_8}

-- ---- a line of a text of lines is one of them

first_line : (a b : List ℕ) → length a ≡ 49 → line_at (a ++ b) 0 ≡ a
first_line a b e = subst (λ (n : ℕ). take n (a ++ b) ≡ a) e (take-append_seam a b)

later_line : (a b : List ℕ) → length a ≡ 49 → (i : ℕ) → line_at (a ++ b) (suc i) ≡ line_at b i
later_line a b e i =
    let far : 49 * suc i ≡ length a + 49 * i = omega arith in
    ap (take 49) (ap (λ (n : ℕ). drop n (a ++ b)) far ∙ sym (drop-drop (49 * i) (length a) (a ++ b)) ∙ ap (drop (49 * i)) (drop-append_seam a b))

some_same : {a b : List ℤ} → some a ≡ some b → a ≡ b
some_same e = cc

-- no line stands behind the last
no_line {ℓ} : {C : Type ℓ} (i : ℕ) (zs : List ℤ) → line_of (line_at [] i) ≡ some zs → C
no_line i zs e =
    let empty : line_at [] i ≡ [] = ap (take 49) (drop-nil (49 * i)) in
    let is : LineIs 8 (line_at [] i) zs = read_prints_back (line_at [] i) zs e in
    let long : length (line_text zs) ≡ 6 * length zs + 1 = line_text_length zs is.range in
    let none : ◌≡◌ {A = ℕ} (length (line_text zs)) 0 = ap length (sym is.bytes ∙ empty) in
    absurd (omega arith)

abbrev Among : List (List ℕ) → List ℤ → Type 0
Among ls zs = (l : List ℕ) × Memᴰ l ls × (map pos l ≡ zs)

line_among : (ls : List (List ℕ)) → ((l : List ℕ) → Memᴰ l ls → Line8 l) → (i : ℕ) (zs : List ℤ)
    → line_of (line_at (text_of (map (map pos) ls)) i) ≡ some zs → Among ls zs
unfolding text_of
line_among [] good i zs e = no_line i zs e
line_among (l ∷ ls) good i zs e = at (λ j. line_among ls (λ m i. good m (Memᴰ.tail i)) j zs) i e
  where
    h : Line8 l
    h = good l (Memᴰ.head refl)

    eight_long : length (map pos l) ≡ 8
    eight_long = length-map l pos ∙ h.long

    long : length (line_text (map pos l)) ≡ 49
    long = line_text_length (map pos l) h.range ∙ ap (λ (n : ℕ). 6 * n + 1) eight_long

    rest : List ℕ
    rest = text_of (map (map pos) ls)

    at : ((j : ℕ) → line_of (line_at rest j) ≡ some zs → Among ls zs) → (i : ℕ) → line_of (line_at (line_text (map pos l) ++ rest) i) ≡ some zs → Among (l ∷ ls) zs
    at later zero e = (
      l,
      Memᴰ.head refl,
      some_same (sym (printed_reads_back (map pos l) eight_long h.range) ∙ ap line_of (sym (first_line (line_text (map pos l)) rest long)) ∙ e),
    )
    at later (suc i) e = let r = later i (ap line_of (sym (later_line (line_text (map pos l)) rest long i)) ∙ e) in (r.0, Memᴰ.tail r.1, r.2)

-- ---- of the report's lines those that begin with 51 are the cells'

module _ (t : Table) (k : Layout) where
  abbrev the_sets : Sets
  the_sets = sets_of t k

  abbrev cell_says : ℕ → List ℕ
  cell_says x = cell_line t k the_sets (shared_cells t k the_sets) x

  pub line_of_cell : (l : List ℕ) → Memᴰ l (lines_for t k) → get_or l 0 0 ≡ 51 → (x : ℕ) × (x < t.cells) × (l ≡ cell_says x)
  unfolding lines_for finding_lines cell_lines stray_lines stray_line total_line
  line_of_cell l m e = go (Memᴰ.append_cases (finding_lines t k) m)
    where
      other : (l' : List ℕ) → l ≡ l' → get_or l' 0 0 ≡ 51
      other l' same = ap (λ (r : List ℕ). get_or r 0 0) (sym same) ∙ e

      stray : (s : ℕ) (b : Bool) → Memᴰ l (cond b (stray_line s ∷ []) []) → (x : ℕ) × (x < t.cells) × (l ≡ cell_says x)
      stray s true m = let z : ◌≡◌ {A = ℕ} 52 51 = other (stray_line s) (Memᴰ.eq_of_singleton m) in absurd (omega arith)
      stray s false m = elim m [ ]

      found : Memᴰ l (cell_lines t k the_sets) ⊎ Memᴰ l (stray_lines t k the_sets) → (x : ℕ) × (x < t.cells) × (l ≡ cell_says x)
      found (inl c) =
          let r : (x : ℕ) × Within 0 t.cells x × Memᴰ l (cell_says x ∷ []) = joined_from_lem 0 t.cells _ l c in
          (r.0, within_below r.1, Memᴰ.eq_of_singleton r.2)
      found (inr c) =
          let r : (s : ℕ) × Within 0 (length t.statements) s × Memᴰ l (cond (is_stray t k the_sets s) (stray_line s ∷ []) []) =
          joined_from_lem 0 (length t.statements) _ l c in
          stray r.0 (is_stray t k the_sets r.0) r.2

      go : Memᴰ l (finding_lines t k) ⊎ Memᴰ l (total_line (finding_lines t k) ∷ []) → (x : ℕ) × (x < t.cells) × (l ≡ cell_says x)
      go (inl c) = found (Memᴰ.append_cases (cell_lines t k the_sets) c)
      go (inr c) = let z : ◌≡◌ {A = ℕ} 59 51 = other (total_line (finding_lines t k)) (Memᴰ.eq_of_singleton c) in absurd (omega arith)

-- ---- as printed

pos_lists : (a b : List ℕ) → map pos a ≡ map pos b → a ≡ b
pos_lists [] [] e = refl
pos_lists [] (y ∷ b) e = let z : ◌≡◌ {A = ℕ} 0 1 = cc in absurd (omega arith)
pos_lists (x ∷ a) [] e = let z : ◌≡◌ {A = ℕ} 0 1 = cc in absurd (omega arith)
pos_lists (x ∷ a) (y ∷ b) e =
    let head : x ≡ y = cc in
    let tail : map pos a ≡ map pos b = cc in
    ap (λ (n : ℕ). n ∷ a) head ∙ ap {B = List ℕ} (λ r. y ∷ r) (pos_lists a b tail)

-- a line 51 that is printed of cell x is the definitions' line of it, number for number
pub printed_51 : (t : Table) → Accepted t → (x reads writes shared common unguarded : ℕ) → Says51 (report_text t) x reads writes shared common unguarded
    → (x < t.cells) × (51 ∷ x ∷ reads ∷ writes ∷ shared ∷ common ∷ unguarded ∷ 0 ∷ [] ≡ cell_says t (one_each t) x)
unfolding report_text report_lines cell_line
printed_51 t acc x reads writes shared common unguarded says =
    let k = one_each t in
    let line : List ℕ = 51 ∷ x ∷ reads ∷ writes ∷ shared ∷ common ∷ unguarded ∷ 0 ∷ [] in
    let r = line_among (lines_for t k) (lines_8 t k acc) says.number (map pos line) says.line_51 in
    let same : r.0 ≡ line = pos_lists r.0 line r.2 in
    let c = line_of_cell t k r.0 r.1 (ap (λ (l : List ℕ). get_or l 0 0) same) in
    let is : line ≡ cell_says t k c.0 = sym same ∙ c.2 in
    let at : x ≡ c.0 = ap (λ (l : List ℕ). get_or l 1 0) is in
    (subst (λ (j : ℕ). j < t.cells) (sym at) c.1, is ∙ ap (cell_says t k) (sym at))
