-- A line that is printed reads back as its numbers, and bytes that are a line are the ones that are printed for its numbers. The
-- numbers of a text are those of its fields, each at its place. Assumes nothing.
use Rattle.std.specs.Prelude.{◌≡◌, refl, ℕ, zero, suc, ◌+◌, ◌*◌, ◌<◌, Bool, true, false, List, [], ◌∷◌, ◌++◌, ℤ, pos, length, get_or, take, drop}
use Rattle.std.proofs.Common.{sym, ap, ◌∙◌, arith, length-append, take-append-drop, take_at, drop_at, drop-drop}
use Rattle.std.proofs.Math.Option.{Option, none, some}
use Rattle.fields.specs.Field.{field_of, field_text, in_field}
use Rattle.fields.specs.FieldLaws.{FieldIs, field_text_length, printed_field_reads_back, read_field_prints_back}
use Rattle.lines.specs.Line.{fields_of, line_of, line_text, line_at, all_in_field, is_some, or_zeros, good_line, line_count, first_bad, line_numbers, numbers_of, page_answer, page_of}
use Rattle.lines.proofs.LineLoops.{Joined, joined_some, end_some, fields_end, fields_cons, line_sized, pieces_at, line_field}
use Rattle.lines.proofs.LowestLaws.{Lowest, some_lowest}

-- all in the range, one case each

pub all_none : all_in_field [] ≡ true
unfolding all_in_field
all_none = refl

pub all_good : (z : ℤ) (zs : List ℤ) → in_field z ≡ true → all_in_field (z ∷ zs) ≡ all_in_field zs
unfolding all_in_field
all_good z zs e = rw (e, all_in_field)

pub all_bad : (z : ℤ) (zs : List ℤ) → in_field z ≡ false → all_in_field (z ∷ zs) ≡ false
unfolding all_in_field
all_bad z zs e = rw (e, all_in_field)

pub all_head : (z : ℤ) (zs : List ℤ) → all_in_field (z ∷ zs) ≡ true → in_field z ≡ true
all_head z zs h = go (in_field z) refl
  where
    go : (b : Bool) → in_field z ≡ b → in_field z ≡ true
    go true e = e
    go false e = let g : false ≡ true = sym (all_bad z zs e) ∙ h in let u : ◌≡◌ {A = ℕ} 0 1 = cc in absurd (omega arith)

pub all_tail : (z : ℤ) (zs : List ℤ) → all_in_field (z ∷ zs) ≡ true → all_in_field zs ≡ true
all_tail z zs h = sym (all_good z zs (all_head z zs h)) ∙ h

pub all_at : (zs : List ℤ) (i : ℕ) → all_in_field zs ≡ true → in_field (get_or zs i (pos 0)) ≡ true
all_at [] i h = refl
all_at (z ∷ zs) zero h = all_head z zs h
all_at (z ∷ zs) (suc i) h = all_at zs i (all_tail z zs h)

-- a line as text

pub text_end : line_text [] ≡ 10 ∷ []
unfolding line_text
text_end = refl

pub text_cons : (z : ℤ) (zs : List ℤ) → line_text (z ∷ zs) ≡ field_text z ++ line_text zs
unfolding line_text
text_cons z zs = refl

pub line_text_length : (zs : List ℤ) → all_in_field zs ≡ true → length (line_text zs) ≡ 6 * length zs + 1
line_text_length [] h = rw text_end
line_text_length (z ∷ zs) h =
    rw (text_cons, length-append, field_text_length z (all_head z zs h), line_text_length zs (all_tail z zs h)) (omega arith)

fields_read_back : (k : ℕ) (zs : List ℤ) → length zs ≡ k → all_in_field zs ≡ true → fields_of k (line_text zs) ≡ some zs
fields_read_back zero [] l h = rw (text_end) (fields_end (10 ∷ []))
fields_read_back zero (z ∷ zs) l h = absurd (omega arith)
fields_read_back (suc k) [] l h = absurd (omega arith)
fields_read_back (suc k) (z ∷ zs) l h =
    let s : length (field_text z) ≡ 6 = field_text_length z (all_head z zs h) in
    rw (text_cons, fields_cons, take_at (field_text z) (line_text zs) 6 s, drop_at (field_text z) (line_text zs) 6 s, printed_field_reads_back z (all_head z zs h), fields_read_back k zs (omega arith) (all_tail z zs h))

-- a printed line reads back
pub printed_reads_back : (zs : List ℤ) → length zs ≡ 8 → all_in_field zs ≡ true → line_of (line_text zs) ≡ some zs
printed_reads_back zs l h = fields_read_back 8 zs l h

-- what bytes that say zs are
pub record LineIs (k : ℕ) (bs : List ℕ) (zs : List ℤ) : Type 0 where
  pub count : length zs ≡ k
  pub bytes : bs ≡ line_text zs
  pub range : all_in_field zs ≡ true

fields_print_back : (k : ℕ) (bs : List ℕ) (zs : List ℤ) → fields_of k bs ≡ some zs → LineIs k bs zs
fields_print_back zero bs zs h =
    let g : (bs ≡ 10 ∷ []) × (zs ≡ []) = end_some bs zs (sym (fields_end bs) ∙ h) in
    rw (g.0, g.1) (record { count = refl; bytes = sym text_end; range = all_none })
fields_print_back (suc k) bs zs h =
    let j : Joined (field_of (take 6 bs)) (fields_of k (drop 6 bs)) zs = joined_some _ _ zs (sym (fields_cons k bs) ∙ h) in
    let f : FieldIs (take 6 bs) j.head = read_field_prints_back (take 6 bs) j.head j.of_head in
    let r : LineIs k (drop 6 bs) j.tail = fields_print_back k (drop 6 bs) j.tail j.of_tail in
    record {
      count = ap length j.whole ∙ ap suc r.count;
      bytes = sym (take-append-drop 6 bs) ∙ ap (λ (l : List ℕ). l ++ drop 6 bs) f.bytes ∙ ap (λ (l : List ℕ). field_text j.head ++ l) r.bytes ∙ sym (text_cons j.head j.tail) ∙ ap line_text (sym j.whole);
      range = ap all_in_field j.whole ∙ all_good j.head j.tail f.range ∙ r.range;
    }

-- a line that is read is the one that is printed for its numbers
pub read_prints_back : (bs : List ℕ) (zs : List ℤ) → line_of bs ≡ some zs → LineIs 8 bs zs
read_prints_back bs zs h = fields_print_back 8 bs zs h

-- the numbers of a text

fields_at : (k j : ℕ) (bs : List ℕ) (zs : List ℤ) → fields_of k bs ≡ some zs → j < k → field_of (take 6 (drop (6 * j) bs)) ≡ some (get_or zs j (pos 0))
fields_at zero j bs zs h l = absurd (omega arith)
fields_at (suc k) zero bs zs h l =
    let p : Joined (field_of (take 6 bs)) (fields_of k (drop 6 bs)) zs = joined_some _ _ zs (sym (fields_cons k bs) ∙ h) in
    p.of_head ∙ ap (λ (ws : List ℤ). some (get_or ws 0 (pos 0))) (sym p.whole)
fields_at (suc k) (suc j) bs zs h l =
    let p : Joined (field_of (take 6 bs)) (fields_of k (drop 6 bs)) zs = joined_some _ _ zs (sym (fields_cons k bs) ∙ h) in
    let u : 6 * suc j ≡ 6 + 6 * j = omega arith in
    rw (u, ← drop-drop) (fields_at k j (drop 6 bs) p.tail p.of_tail (omega arith))
    ∙ ap (λ (ws : List ℤ). some (get_or ws (suc j) (pos 0))) (sym p.whole)

good_some : (o : Option (List ℤ)) → is_some o ≡ true → o ≡ some (or_zeros o)
good_some none h = let u : ◌≡◌ {A = ℕ} 0 1 = cc in absurd (omega arith)
good_some (some zs) h = refl

-- number j of line i of a text
pub number_of_line : (t : List ℕ) (i j : ℕ) → i < line_count t → j < 8 → get_or (numbers_of t) (8 * i + j) (pos 0) ≡ get_or (line_numbers (line_at t i)) j (pos 0)
number_of_line t i j h l = pieces_at line_numbers 49 8 line_sized (line_count t) i j t (pos 0) h l

-- the numbers of a good line are what it says
pub good_line_lem : (t : List ℕ) (i : ℕ) → good_line t i ≡ true → line_of (line_at t i) ≡ some (line_numbers (line_at t i))
good_line_lem t i g = good_some (line_of (line_at t i)) g

-- the number of a field of a good line stands at its place
pub number_at : (t : List ℕ) (i j : ℕ) → i < line_count t → j < 8 → good_line t i ≡ true
    → field_of (take 6 (drop (49 * i + 6 * j) t)) ≡ some (get_or (numbers_of t) (8 * i + j) (pos 0))
number_at t i j h l g =
    rw (number_of_line t i j h l, ← line_field t (49 * i) j l) (fields_at 8 j (line_at t i) (line_numbers (line_at t i)) (good_line_lem t i g) l)

-- what a page is

bad_none : (o : Option (List ℤ)) → is_some o ≡ false → o ≡ none
bad_none none h = refl
bad_none (some zs) h = let u : ◌≡◌ {A = ℕ} 0 1 = cc in absurd (omega arith)

pub bad_line : (t : List ℕ) (i : ℕ) → good_line t i ≡ false → line_of (line_at t i) ≡ none
bad_line t i g = bad_none (line_of (line_at t i)) g

-- the first bad line is a line, it is bad, and those before it are good
pub first_bad_line : (t : List ℕ) (i : ℕ) → first_bad t ≡ some i → Lowest (good_line t) 0 (line_count t) i
first_bad_line t i e = some_lowest (good_line t) 0 (line_count t) i e

pub page_good : (t : List ℕ) → first_bad t ≡ none → page_of t ≡ page_answer none (numbers_of t)
page_good t e = ap (λ (o : Option ℕ). page_answer o (numbers_of t)) e

pub page_bad : (t : List ℕ) (i : ℕ) → first_bad t ≡ some i → page_of t ≡ page_answer (some i) (numbers_of t)
page_bad t i e = ap (λ (o : Option ℕ). page_answer o (numbers_of t)) e
