-- Lines written one behind the other: the loop's invariant, and what a buffer holds after each. Assumes nothing.
use Rattle.std.specs.Prelude.{◌≡◌, refl, true, false, ℤ, pos, take, drop}
use Rattle.std.proofs.Common.{sym, ◌∙◌, subst, add-zero, add_assoc, le_refl, length-take, length-drop, take-append-drop, drop-drop, le-leb}
use Rattle.std.proofs.Math.Path.{ap, ap₂}
use mathlib.Core.List.{List, [], ◌∷◌, ◌++◌, map, append-nil, append_assoc, Memᴰ}
use Prim.Native.Nat.{ℕ, suc, ◌+◌, ◌-◌, ◌*◌, ◌≤◌, ◌<◌, zero-le}
use native.Mathlib.Omega.{arith}
use Rattle.std.proofs.Math.ListN.{length, length-append}
use Rattle.std.proofs.lemmas.List.{length-map}
use Rattle.std.proofs.Math.Seq.{take-length, paste}
use Rattle.std.proofs.lemmas.List.Edits.{take-paste, drop-paste}
use Rattle.lines.specs.Line.{line_text, all_in_field}
use Rattle.lines.proofs.LineLaws.{line_text_length}
use Rattle.line_printer.specs.Print.{printed_at}
use Rattle.report.specs.Over.{joined_from}
use Rattle.report.specs.Report.{text_of, stray_line}
use Rattle.report.specs.ReportTextLaws.{Line8}
use Rattle.table.specs.Header.{cells, statements}
use Rattle.findings.specs.Steps.{stray_in}
use Rattle.findings.specs.declared.Noted.{Noted}
use Rattle.report_printer.specs.declared.Lines.{Lines}
use Rattle.report_printer.specs.Written.{Written}
use Rattle.report_printer.specs.Lines.{text_from, put_at, total_numbers, cells_by, strays_by, report_by, RoomFor, RoomForAll}

-- ---- lines

-- the bytes of a line are 49
line_long : (l : List ℕ) → Line8 l → length (line_text (map pos l)) ≡ 49
line_long l h =
    let a : length (line_text (map pos l)) ≡ 6 * length (map pos l) + 1 = line_text_length (map pos l) h.range in
    let b : length (map pos l) ≡ length l = length-map l pos in
    let c : length l ≡ 8 = h.long in
    omega arith

pub text_append : (a b : List (List ℕ)) → text_of (map (map pos) (a ++ b)) ≡ text_of (map (map pos) a) ++ text_of (map (map pos) b)
unfolding text_of
text_append [] b = refl
text_append (l ∷ a) b =
    ap (λ (r : List ℕ). line_text (map pos l) ++ r) (text_append a b) ∙ sym (append_assoc (line_text (map pos l)) (text_of (map (map pos) a)) (text_of (map (map pos) b)))

pub text_one : (l : List ℕ) → text_of (map (map pos) (l ∷ [])) ≡ line_text (map pos l)
unfolding text_of
text_one l = append-nil (line_text (map pos l))

-- the lines from one number on, by its own and those of the next
text_next : (g : ℕ → List (List ℕ)) (i n : ℕ) → i < n → text_from i (n - i) g ≡ text_of (map (map pos) (g i)) ++ text_from (i + 1) (n - (i + 1)) g
unfolding text_from joined_from
text_next g i n h =
    let e : n - i ≡ suc (n - (i + 1)) = omega arith in
    ap (λ (m : ℕ). text_from i m g) e ∙ text_append (g i) (joined_from (i + 1) (n - (i + 1)) g)

text_none : (g : ℕ → List (List ℕ)) (i n : ℕ) → n ≤ i → text_from i (n - i) g ≡ []
unfolding text_from joined_from text_of
text_none g i n h = let e : n - i ≡ 0 = omega arith in ap (λ (m : ℕ). text_from i m g) e

-- ---- bytes put into a buffer

put_paste : (out : List ℕ) (at : ℕ) (a : List ℕ) → put_at out at a ≡ paste out at a (length a)
unfolding put_at
put_paste out at a = rw (take-length a)

put_none : (out : List ℕ) (at : ℕ) → put_at out at [] ≡ out
unfolding put_at
put_none out at = rw (append-nil (take at out), add-zero at) (take-append-drop at out)

-- one behind the other
put_next : (out : List ℕ) (at : ℕ) (a b : List ℕ) → at ≤ length out → put_at (put_at out at a) (at + length a) b ≡ put_at out at (a ++ b)
unfolding put_at
put_next out at a b h =
    let p : List ℕ = paste out at a (length a) in
    let t : take (at + length a) p ≡ take at out ++ a = take-paste out at a (length a) h (le_refl (length a)) ∙ ap (λ (x : List ℕ). take at out ++ x) (take-length a) in
    let d : drop (at + length a + length b) p ≡ drop (at + length (a ++ b)) out =
    sym (drop-drop (length b) (at + length a) p)
    ∙ ap (drop (length b)) (drop-paste out at a (length a) h (le_refl (length a)))
    ∙ drop-drop (length b) (at + length a) out
    ∙ ap (λ (n : ℕ). drop n out) (add_assoc at (length a) (length b) ∙ ap (λ (n : ℕ). at + n) (sym (length-append a b))) in
    ap (λ (x : List ℕ). put_at x (at + length a) b) (put_paste out at a) ∙ whole p t d
  where
    whole : (p : List ℕ) → take (at + length a) p ≡ take at out ++ a → drop (at + length a + length b) p ≡ drop (at + length (a ++ b)) out
        → put_at p (at + length a) b ≡ put_at out at (a ++ b)
    whole p t d = rw (t, d) (ap (λ (x : List ℕ). x ++ drop (at + length (a ++ b)) out) (append_assoc (take at out) a b))

-- a line printed into a buffer with room
pub put_line : (out : List ℕ) (at : ℕ) (zs : List ℤ) → length zs ≡ 8 → all_in_field zs ≡ true → at + 49 ≤ length out
    → (49 ≡ length (line_text zs)) × (printed_at out at zs ≡ put_at out at (line_text zs))
unfolding put_at
put_line out at zs l h r =
    let long : length (line_text zs) ≡ 49 = line_text_length zs h ∙ omega (arith, l) in
    (sym long, rw (h, le-leb (at + 49) (length out) r, long))

put_length : (out : List ℕ) (at : ℕ) (a : List ℕ) → at + length a ≤ length out → length (put_at out at a) ≡ length out
unfolding put_at
put_length out at a h =
    let x : length (take at out ++ a ++ drop (at + length a) out) ≡ length (take at out ++ a) + length (drop (at + length a) out) = length-append (take at out ++ a) (drop (at + length a) out) in
    let y : length (take at out ++ a) ≡ length (take at out) + length a = length-append (take at out) a in
    let z = length-take at out in
    let w : length (drop (at + length a) out) ≡ length out - (at + length a) = length-drop (at + length a) out in
    omega arith

-- ---- the loop

-- the lines of the numbers below i are written
pub record Writing (g : ℕ → List (List ℕ)) (n at₀ : ℕ) (out₀ out : List ℕ) (at i : ℕ) : Type 0 where
  pub text : List ℕ
  pub left : text ++ text_from i (n - i) g ≡ text_from 0 n g
  pub is : out ≡ put_at out₀ at₀ text
  pub place : at ≡ at₀ + length text
  pub has_room : RoomFor g n at₀ out₀
  pub few : i ≤ n

pub writing_start : (g : ℕ → List (List ℕ)) (n at : ℕ) (out : List ℕ) → RoomFor g n at out → Writing g n at out out at 0
writing_start g n at out f =
    let e : n - 0 ≡ n = omega arith in
    record {
      text = [];
      left = ap (λ (m : ℕ). text_from 0 m g) e;
      is = sym (put_none out at);
      place = sym (add-zero at);
      has_room = f;
      few = zero-le;
    }

module _ {g : ℕ → List (List ℕ)} {n at₀ : ℕ} {out₀ out : List ℕ} {at i : ℕ} (w : Writing g n at₀ out₀ out at i) where
  text_fits : length w.text + length (text_from i (n - i) g) ≡ length (text_from 0 n g)
  text_fits = sym (length-append w.text (text_from i (n - i) g)) ∙ ap length w.left

  pub writing_length : length out ≡ length out₀
  writing_length =
      let r : at₀ + length (text_from 0 n g) ≤ length out₀ = w.has_room.room in
      let e = text_fits in
      ap length w.is ∙ put_length out₀ at₀ w.text (omega arith)

  module _ (h : i < n) (l : List ℕ) (e : g i ≡ l ∷ []) where
    pub writing_eight : Line8 l
    writing_eight = w.has_room.eight i h l (subst (λ (x : List (List ℕ)). Memᴰ l x) (sym e) (Memᴰ.head refl))

    next_text : text_from i (n - i) g ≡ line_text (map pos l) ++ text_from (i + 1) (n - (i + 1)) g
    next_text =
        text_next g i n h
        ∙ ap (λ (x : List ℕ). x ++ text_from (i + 1) (n - (i + 1)) g) (ap (λ (x : List (List ℕ)). text_of (map (map pos) x)) e ∙ text_one l)

    -- there is room for the line
    pub writing_room : at + 49 ≤ length out
    writing_room =
        let r : at₀ + length (text_from 0 n g) ≤ length out₀ = w.has_room.room in
        let a = text_fits in
        let b : length (text_from i (n - i) g) ≡ length (line_text (map pos l)) + length (text_from (i + 1) (n - (i + 1)) g) =
        ap length next_text ∙ length-append (line_text (map pos l)) (text_from (i + 1) (n - (i + 1)) g) in
        let c = line_long l writing_eight in
        let p = w.place in
        omega (arith, writing_length)

    module _ {out' : List ℕ} {at' : ℕ} (e_at : at' ≡ at + length (line_text (map pos l))) (e_out : out' ≡ put_at out at (line_text (map pos l))) where
      pub writing_line : Writing g n at₀ out₀ out' at' (i + 1)
      writing_line =
          let before : at₀ ≤ length out₀ = omega (arith, writing_room, writing_length, w.place) in
          record {
            text = w.text ++ line_text (map pos l);
            left =
                append_assoc w.text (line_text (map pos l)) (text_from (i + 1) (n - (i + 1)) g)
                ∙ ap (λ (x : List ℕ). w.text ++ x) (sym next_text) ∙ w.left;
            is =
                e_out
                ∙ ap₂ (λ (o : List ℕ) (p : ℕ). put_at o p (line_text (map pos l))) w.is w.place
                ∙ put_next out₀ at₀ w.text (line_text (map pos l)) before;
            place = omega (arith, e_at, w.place, length-append w.text (line_text (map pos l)));
            has_room = w.has_room;
            few = omega arith;
          }

  -- a number with no line
  pub writing_none : i < n → g i ≡ [] → Writing g n at₀ out₀ out at (i + 1)
  unfolding text_of
  writing_none h e =
      record {
        text = w.text;
        left =
            ap (λ (x : List ℕ). w.text ++ x)
            (sym (text_next g i n h ∙ ap (λ (x : List (List ℕ)). text_of (map (map pos) x) ++ text_from (i + 1) (n - (i + 1)) g) e))
            ∙ w.left;
        is = w.is;
        place = w.place;
        has_room = w.has_room;
        few = omega arith;
      }

  module _ (h : n ≤ i) where
    all_text : w.text ≡ text_from 0 n g
    all_text = sym (append-nil w.text) ∙ ap (λ (x : List ℕ). w.text ++ x) (sym (text_none g i n h)) ∙ w.left

    writing_place : at ≡ at₀ + length (text_from 0 n g)
    writing_place = w.place ∙ ap (λ (x : List ℕ). at₀ + length x) all_text

    writing_out : out ≡ put_at out₀ at₀ (text_from 0 n g)
    writing_out = w.is ∙ ap (put_at out₀ at₀) all_text

-- all lines of a loop
pub writing_done : {g : ℕ → List (List ℕ)} {n i : ℕ} {a b : Lines} → Writing g n a.used a.out.now b.out.now b.used i → n ≤ i → b.out.ghost_name ≡ a.out.ghost_name
    → Written a b (text_from 0 n g)
writing_done w h e = record { same = e; used_is = writing_place w h; bytes_are = writing_out w h }

-- ---- the whole report

pub stray_line_lem : (f : List ℤ) (flow held : List ℕ) (s : ℕ) → stray_in f flow held s ≡ true → strays_by f flow held s ≡ stray_line s ∷ []
unfolding strays_by
stray_line_lem f flow held s e = rw e

pub no_line : (f : List ℤ) (flow held : List ℕ) (s : ℕ) → stray_in f flow held s ≡ false → strays_by f flow held s ≡ []
unfolding strays_by
no_line f flow held s e = rw e

module _ {f : List ℤ} {flow held : List ℕ} {shared : ℕ} {noted : Noted} {unguarded strays : ℕ} {out : List ℕ}
    (h : RoomForAll f flow held shared noted unguarded strays out) where
  abbrev cell_text : List ℕ
  cell_text = text_from 0 (cells f) (cells_by shared noted)

  abbrev stray_text : List ℕ
  stray_text = text_from 0 (statements f) (strays_by f flow held)

  abbrev total_text : List ℕ
  total_text = line_text (map pos (total_numbers unguarded strays))

  -- there is room for all three
  whole_room : length cell_text + length stray_text + 49 ≤ length out
  unfolding report_by
  whole_room =
      let a : length (report_by f flow held shared noted unguarded strays) ≡ length (cell_text ++ stray_text) + length total_text = length-append (cell_text ++ stray_text) total_text in
      let b : length (cell_text ++ stray_text) ≡ length cell_text + length stray_text = length-append cell_text stray_text in
      let c = line_long (total_numbers unguarded strays) h.total_eight in
      let r : length (report_by f flow held shared noted unguarded strays) ≤ length out = h.room in
      omega arith

  pub cells_room : RoomFor (cells_by shared noted) (cells f) 0 out
  cells_room = record { eight = h.cells_eight; room = omega (arith, whole_room) }

  module _ (p : ℕ) (o : List ℕ) (e : p ≡ 0 + length cell_text) (q : o ≡ put_at out 0 cell_text) where
    cells_length : length o ≡ length out
    cells_length = ap length q ∙ put_length out 0 cell_text (omega (arith, whole_room))

    pub strays_room : RoomFor (strays_by f flow held) (statements f) p o
    strays_room = record { eight = h.strays_eight; room = omega (arith, whole_room, cells_length) }

    module _ (p2 : ℕ) (o2 : List ℕ) (e2 : p2 ≡ p + length stray_text) (q2 : o2 ≡ put_at o p stray_text) where
      strays_put : o2 ≡ put_at out 0 (cell_text ++ stray_text)
      strays_put = q2 ∙ ap₂ (λ (a : List ℕ) (b : ℕ). put_at a b stray_text) q e ∙ put_next out 0 cell_text stray_text zero-le

      pub total_room : p2 + 49 ≤ length o2
      total_room =
          let l : length o2 ≡ length o = ap length q2 ∙ put_length o p stray_text (omega (arith, whole_room, cells_length)) in
          omega (arith, whole_room, cells_length)

      pub report_put : put_at o2 p2 total_text ≡ put_at out 0 (report_by f flow held shared noted unguarded strays)
      unfolding report_by
      report_put =
          let n : p2 ≡ 0 + length (cell_text ++ stray_text) = omega (arith, length-append cell_text stray_text) in
          ap₂ (λ (a : List ℕ) (b : ℕ). put_at a b total_text) strays_put n ∙ put_next out 0 (cell_text ++ stray_text) total_text zero-le
