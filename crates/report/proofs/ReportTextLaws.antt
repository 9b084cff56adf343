-- The lines of the report have a table line's form: eight numbers each, all in the range of a field; so many bytes. Assumes nothing.
use Rattle.std.specs.Prelude.{ℕ, zero, suc, ◌+◌, ◌-◌, ◌*◌, ◌^◌, ◌≤◌, ◌<◌, ◌≡◌, refl, Bool, true, false, cond, ◌⊎◌, ℤ, pos, drop}
use Rattle.std.proofs.Common.{sym, ap, ◌∙◌, inl, inr, length-append, drop_at}
use Rattle.std.proofs.Math.Path.{subst}
use mathlib.Core.List.Memᴰ
use mathlib.Core.List.{List, [], ◌∷◌, ◌++◌, append_assoc, append-nil, map, map-append, Memᴰ}
use native.Mathlib.Omega.{arith}
use Rattle.std.proofs.Math.Option.{some}
use Rattle.std.proofs.Math.ListN.{length}
use Rattle.std.proofs.lemmas.List.{length-map}
use borrow.Author.Tests.{lt-ltb, ltb-true}
use Rattle.fields.specs.Field.{in_field}
use Rattle.lines.specs.Line.{all_in_field, line_text, line_of}
use Rattle.lines.proofs.LineLaws.{all_none, all_good, line_text_length, printed_reads_back}
use Rattle.sets.specs.Set.{has}
use Rattle.sets.proofs.SetLaws.{has_firsts, below_of_has}
use Rattle.table.specs.Table.{Table}
use Rattle.table.specs.Accepted.{Accepted}
use Rattle.report.specs.Over.{joined_from, count_from}
use Rattle.report.proofs.OverLaws.{Within, within_below, not_has, joined_from_lem, inter_inside}
use Rattle.report.specs.Layout.{Layout, one_each}
use Rattle.report.specs.Operations.{reading, writing}
use Rattle.report.specs.Held.{all_locks}
use Rattle.report.specs.Findings.{Sets, sets_of, shared_cells, common_locks, is_unguarded, access_count, is_stray}
use Rattle.report.specs.Report.{bit, cell_line, cell_lines, stray_line, stray_lines, count_lines, says_unguarded, says_stray, total_line, finding_lines, lines_for, report_lines, text_of, report_text, last_line}
use Rattle.report.proofs.ReportLaws.{unguarded_counted, stray_counted, last_line_lem}
use Rattle.report.specs.ReportTextLaws.{Line8}

-- ---- numbers in the range of a field

small : (n : ℕ) → n < 1000000 → in_field (pos n) ≡ true
small n h = lt-ltb n 1000000 h

eight : (a b c d e f g h : ℕ) → a < 1000000 → b < 1000000 → c < 1000000 → d < 1000000 → e < 1000000 → f < 1000000 → g < 1000000 → h < 1000000
    → Line8 (a ∷ b ∷ c ∷ d ∷ e ∷ f ∷ g ∷ h ∷ [])
eight a b c d e f g h p q r s u v w x = record { long = refl; range = good a _ p (good b _ q (good c _ r (good d _ s (good e _ u (good f _ v (good g _ w (good h _ x all_none))))))) }
  where
    good : (n : ℕ) (zs : List ℤ) → n < 1000000 → all_in_field zs ≡ true → all_in_field (pos n ∷ zs) ≡ true
    good n zs l i = all_good (pos n) zs (small n l) ∙ i

bit_small : (b : Bool) → bit b < 1000000
bit_small true = omega arith
bit_small false = omega arith

pub count_most : (from n : ℕ) (test : ℕ → Bool) → count_from from n test ≤ n
unfolding count_from
count_most from zero test = omega arith
count_most from (suc n) test =
    let ih : count_from (from + 1) n test ≤ n = count_most (from + 1) n test in
    let b : bit (test from) ≤ 1 = most (test from) in
    omega arith
  where
    most : (b : Bool) → bit b ≤ 1
    most true = omega arith
    most false = omega arith

module _ (t : Table) (k : Layout) (acc : Accepted t) where
  abbrev the_sets : Sets
  the_sets = sets_of t k

  common_small : (x : ℕ) → common_locks t k the_sets x < 2 ^ 16
  unfolding common_locks
  common_small x =
      below_of_has 16 (common_locks t k the_sets x)
      (λ i l. not_has (common_locks t k the_sets x) i
      (λ h.
      let a : t.locks ≤ 16 = acc.locks_most in
      let b : i < t.locks = ltb-true i t.locks (sym (has_firsts t.locks i (omega arith)) ∙ inter_inside (all_locks t) 0 k.statements _ i h) in
      omega arith))

  counts_small : (w : Bool) (x : ℕ) → access_count t k the_sets w x < 1000000
  unfolding access_count
  counts_small w x =
      let a : access_count t k the_sets w x ≤ length t.statements = count_most 0 (length t.statements) _ in
      let b : length t.statements ≤ 512 = acc.statements_most in
      omega arith

  cell_line_8 : (x : ℕ) → x < t.cells → Line8 (cell_line t k the_sets (shared_cells t k the_sets) x)
  unfolding cell_line
  cell_line_8 x l =
      let a : t.cells ≤ 64 = acc.cells_most in
      let c : common_locks t k the_sets x < 2 ^ 16 = common_small x in
      eight 51 x (access_count t k the_sets reading x) (access_count t k the_sets writing x) (bit (has (shared_cells t k the_sets) x)) (common_locks t k the_sets x)
      (bit (is_unguarded (shared_cells t k the_sets) (common_locks t k the_sets x) x)) 0
      (omega arith) (omega arith) (counts_small reading x) (counts_small writing x) (bit_small (has (shared_cells t k the_sets) x)) (omega arith)
      (bit_small (is_unguarded (shared_cells t k the_sets) (common_locks t k the_sets x) x)) (omega arith)

  stray_line_8 : (s : ℕ) → s < length t.statements → Line8 (stray_line s)
  unfolding stray_line
  stray_line_8 s l =
      let a : length t.statements ≤ 512 = acc.statements_most in
      let z : 0 < 1000000 = omega arith in
      eight 52 s 0 0 0 0 0 0 (omega arith) (omega arith) z z z z z z

  total_line_8 : Line8 (total_line (finding_lines t k))
  unfolding total_line
  total_line_8 =
      let a : t.cells ≤ 64 = acc.cells_most in
      let b : length t.statements ≤ 512 = acc.statements_most in
      let u : count_lines says_unguarded (finding_lines t k) ≤ t.cells = subst (λ (n : ℕ). n ≤ t.cells) (sym (unguarded_counted t k)) (count_most 0 t.cells _) in
      let v : count_lines says_stray (finding_lines t k) ≤ length t.statements =
      subst (λ (n : ℕ). n ≤ length t.statements) (sym (stray_counted t k)) (count_most 0 (length t.statements) _) in
      let z : 0 < 1000000 = omega arith in
      eight 59 _ _ 0 0 0 0 0 (omega arith) (omega arith) (omega arith) z z z z z

  in_stray : (s : ℕ) (l : List ℕ) → s < length t.statements → (b : Bool) → Memᴰ l (cond b (stray_line s ∷ []) []) → Line8 l
  in_stray s l h true m = subst Line8 (sym (Memᴰ.eq_of_singleton m)) (stray_line_8 s h)
  in_stray s l h false m = elim m [ ]

  -- each line of the report is eight numbers in the range of a field
  pub lines_8 : (l : List ℕ) → Memᴰ l (lines_for t k) → Line8 l
  unfolding lines_for finding_lines cell_lines stray_lines
  lines_8 l m = go (Memᴰ.append_cases (finding_lines t k) m)
    where
      found : Memᴰ l (cell_lines t k the_sets) ⊎ Memᴰ l (stray_lines t k the_sets) → Line8 l
      found (inl c) =
          let r : (x : ℕ) × Within 0 t.cells x × Memᴰ l (cell_line t k the_sets (shared_cells t k the_sets) x ∷ []) = joined_from_lem 0 t.cells _ l c in
          subst Line8 (sym (Memᴰ.eq_of_singleton r.2)) (cell_line_8 r.0 (within_below r.1))
      found (inr c) =
          let r : (s : ℕ) × Within 0 (length t.statements) s × Memᴰ l (cond (is_stray t k the_sets s) (stray_line s ∷ []) []) =
          joined_from_lem 0 (length t.statements) _ l c in
          in_stray r.0 l (within_below r.1) (is_stray t k the_sets r.0) r.2

      go : Memᴰ l (finding_lines t k) ⊎ Memᴰ l (total_line (finding_lines t k) ∷ []) → Line8 l
      go (inl c) = found (Memᴰ.append_cases (cell_lines t k the_sets) c)
      go (inr c) = subst Line8 (sym (Memᴰ.eq_of_singleton c)) total_line_8

-- ---- how many lines and bytes

length_joined : (f : ℕ → List (List ℕ)) (g : ℕ → Bool) → ((i : ℕ) → length (f i) ≡ bit (g i)) → (from n : ℕ) → length (joined_from from n f) ≡ count_from from n g
unfolding joined_from count_from
length_joined f g e from zero = refl
length_joined f g e from (suc n) =
    length-append (f from) (joined_from (from + 1) n f) ∙ ap (λ (x : ℕ). x + length (joined_from (from + 1) n f)) (e from)
    ∙ ap (λ (x : ℕ). bit (g from) + x) (length_joined f g e (from + 1) n)

count_all : (from n : ℕ) → count_from from n (λ i. true) ≡ n
unfolding count_from
count_all from zero = refl
count_all from (suc n) = let ih : count_from (from + 1) n (λ i. true) ≡ n = count_all (from + 1) n in omega arith

cond_length : (s : ℕ) (b : Bool) → length (cond b (stray_line s ∷ []) []) ≡ bit b
cond_length s true = refl
cond_length s false = refl

-- a line for each cell, one for each stray GIVE, and line 59
pub lines_count : (t : Table) (k : Layout) → length (lines_for t k) ≡ t.cells + count_from 0 (length t.statements) (is_stray t k (sets_of t k)) + 1
unfolding lines_for finding_lines cell_lines stray_lines
lines_count t k =
    let a : Sets = sets_of t k in
    length-append (finding_lines t k) (total_line (finding_lines t k) ∷ [])
    ∙ ap (λ (x : ℕ). x + 1)
    (length-append (cell_lines t k a) (stray_lines t k a)
    ∙ ap (λ (x : ℕ). x + length (stray_lines t k a)) (length_joined (λ x. cell_line t k a (shared_cells t k a) x ∷ []) (λ x. true) (λ x. refl) 0 t.cells ∙ count_all 0 t.cells)
    ∙ ap (λ (x : ℕ). t.cells + x)
    (length_joined (λ s. cond (is_stray t k a s) (stray_line s ∷ []) []) (is_stray t k a) (λ s. cond_length s (is_stray t k a s)) 0 (length t.statements)))

pub text_length : (ls : List (List ℕ)) → ((l : List ℕ) → Memᴰ l ls → Line8 l) → length (text_of (map (map pos) ls)) ≡ 49 * length ls
unfolding text_of
text_length [] f = refl
text_length (l ∷ ls) f =
    let h : Line8 l = f l (Memᴰ.head refl) in
    let a : length (line_text (map pos l)) ≡ 6 * length (map pos l) + 1 = line_text_length (map pos l) h.range in
    let b : length (map pos l) ≡ length l = length-map l pos in
    let c : length l ≡ 8 = h.long in
    let ih : length (text_of (map (map pos) ls)) ≡ 49 * length ls = text_length ls (λ m i. f m (Memᴰ.tail i)) in
    length-append (line_text (map pos l)) (text_of (map (map pos) ls)) ∙ omega arith

-- the report of an accepted table is 49 bytes for each cell, for each stray GIVE, and for line 59
pub report_length : (t : Table) → Accepted t
    → length (report_text t) ≡ 49 * (t.cells + count_from 0 (length t.statements) (is_stray t (one_each t) (sets_of t (one_each t))) + 1)
unfolding report_text report_lines
report_length t acc =
    text_length (lines_for t (one_each t)) (lines_8 t (one_each t) acc) ∙ ap (λ (n : ℕ). 49 * n) (lines_count t (one_each t))

-- ---- the last line of the bytes

text_behind : (ls : List (List ℤ)) (l : List ℤ) → text_of (ls ++ (l ∷ [])) ≡ text_of ls ++ line_text l
unfolding text_of
text_behind [] l = append-nil (line_text l)
text_behind (m ∷ ls) l = ap (λ (b : List ℕ). line_text m ++ b) (text_behind ls l) ∙ sym (append_assoc (line_text m) (text_of ls) (line_text l))

-- the last 49 bytes of a report read as its last line
pub last_49 : (t : Table) → Accepted t → line_of (drop (length (report_text t) - 49) (report_text t)) ≡ some (last_line (report_lines t))
unfolding report_text report_lines lines_for
last_49 t acc =
    let k = one_each t in
    let above = map (map pos) (finding_lines t k) in
    let last = map pos (total_line (finding_lines t k)) in
    let whole : text_of (map (map pos) (lines_for t k)) ≡ text_of above ++ line_text last =
    ap text_of (map-append (map pos) (finding_lines t k) (total_line (finding_lines t k) ∷ [])) ∙ text_behind above last in
    let line : Line8 (total_line (finding_lines t k)) = total_line_8 t k acc in
    let eight_long : length last ≡ 8 = length-map (total_line (finding_lines t k)) pos ∙ line.long in
    let long : length (line_text last) ≡ 49 = line_text_length last line.range ∙ ap (λ (n : ℕ). 6 * n + 1) eight_long in
    let seam : length (text_of above) ≡ length (text_of above ++ line_text last) - 49 = omega (arith, length-append (text_of above) (line_text last)) in
    rw (whole, last_line_lem t)
    (ap line_of (drop_at (text_of above) (line_text last) (length (text_of above ++ line_text last) - 49) seam)
    ∙ printed_reads_back last eight_long line.range)
