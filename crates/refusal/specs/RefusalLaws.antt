-- Line 50 has 49 bytes, and is written where both its numbers are fields and there is room. Assumes nothing.
use Rattle.std.specs.Prelude.{◌≡◌, Bool, ◌&&◌, ℕ, ◌≤◌, ◌<◌, ltb, ℤ, ◌++◌, drop, length, Result, Ok, Err}
use Rattle.std.proofs.Math.Path.{refl}
use Rattle.std.proofs.Common.{sym, ap, ◌∙◌, w32, SFits}
use Rattle.std.proofs.Math.Bool.{true, false, cond}
use mathlib.Core.List.{List, [], ◌∷◌, map}
use native.Mathlib.Omega.{arith}
use Rattle.std.proofs.Math.Dec.{leb}
use Rattle.std.proofs.Math.IntN.{pos}
use borrow.Author.Tests.{lt-ltb, le-ltb, le-leb, lt-leb, ltb-true, ltb-false, leb-true}
use Rattle.lines.specs.Line.{all_in_field}
use Rattle.lines.proofs.LineLaws.{all_none, all_good, all_bad, line_text_length}
use Rattle.line_printer.specs.Print.{print_answer, printed_at}
use Rattle.line_printer.specs.declared.PrintError.{PrintError}
use Rattle.line_printer.specs.declared.PrintError.TheVariants.{NoRoom, NoField}
use Rattle.refusal.specs.Refusal.{refusal_line, refusal_text, refusal_in, over}

good : (n : ℕ) (zs : List ℤ) → n < 1000000 → all_in_field zs ≡ true → all_in_field (pos n ∷ zs) ≡ true
good n zs l i = all_good (pos n) zs (lt-ltb n 1000000 l) ∙ i

module _ (number line : ℕ) where
  module _ (a : number < 1000000) (b : line < 1000000) where
    in_fields : all_in_field (map pos (refusal_line number line)) ≡ true
    unfolding refusal_line
    in_fields =
        let z : 0 < 1000000 = omega arith in
        good 50 _ (omega arith) (good number _ a (good line _ b (good 0 _ z (good 0 _ z (good 0 _ z (good 0 _ z (good 0 _ z all_none)))))))

    pub refusal_long : length (refusal_text number line) ≡ 49
    unfolding refusal_text refusal_line
    refusal_long = line_text_length (map pos (refusal_line number line)) in_fields

    -- there is room
    pub refusal_said : (room : ℕ) → 49 ≤ room → refusal_in number line room ≡ refusal_text number line
    unfolding refusal_in
    refusal_said room h = rw (lt-ltb number 1000000 a, lt-ltb line 1000000 b, le-leb 49 room h)

  -- nothing is written
  pub no_number : (room : ℕ) → 1000000 ≤ number → refusal_in number line room ≡ []
  unfolding refusal_in
  no_number room h = rw (le-ltb number 1000000 h)

  pub no_line : (room : ℕ) → 1000000 ≤ line → refusal_in number line room ≡ []
  unfolding refusal_in
  no_line room h = rw (le-ltb line 1000000 h) (go (ltb number 1000000))
    where
      go : (b : Bool) → cond (b && false && leb 49 room) (refusal_text number line) [] ≡ []
      go true = refl
      go false = refl

  pub no_room : (room : ℕ) → room < 49 → refusal_in number line room ≡ []
  unfolding refusal_in
  no_room room h = rw (lt-leb 49 room h) (go (ltb number 1000000) (ltb line 1000000))
    where
      go : (b c : Bool) → cond (b && c && false) (refusal_text number line) [] ≡ []
      go true true = refl
      go true false = refl
      go false c = refl

  -- its numbers are in the range of a field where the number and the line are
  fields_are : all_in_field (map pos (refusal_line number line)) ≡ (ltb number 1000000 && ltb line 1000000)
  unfolding refusal_line
  fields_are = go (ltb number 1000000) refl (ltb line 1000000) refl
    where
      fifty : (zs : List ℤ) → all_in_field (pos 50 ∷ zs) ≡ all_in_field zs
      fifty zs = all_good (pos 50) zs refl

      go : (a : Bool) → ltb number 1000000 ≡ a → (b : Bool) → ltb line 1000000 ≡ b → all_in_field (map pos (refusal_line number line)) ≡ (a && b)
      go true p true q = in_fields (ltb-true number 1000000 p) (ltb-true line 1000000 q)
      go true p false q = rw (fifty, all_good (pos number) _ p, all_bad (pos line) _ q)
      go false p b q = rw (fifty, all_bad (pos number) _ p)

  module _ (out : List ℕ) where
    -- what the printer leaves
    pub refusal_printed : printed_at out 0 (map pos (refusal_line number line)) ≡ over (refusal_in number line (length out)) out
    unfolding refusal_in refusal_text
    refusal_printed = rw fields_are (go (ltb number 1000000) refl (ltb line 1000000) refl (leb 49 (length out)))
      where
        go : (a : Bool) → ltb number 1000000 ≡ a → (b : Bool) → ltb line 1000000 ≡ b → (c : Bool)
            → cond (a && b) (cond c (refusal_text number line ++ drop 49 out) out) out ≡ over (cond (a && b && c) (refusal_text number line) []) out
        go true p true q true = rw (refusal_long (ltb-true number 1000000 p) (ltb-true line 1000000 q))
        go true p true q false = refl
        go true p false q c = refl
        go false p b q c = refl

    -- what its answer says
    pub refusal_whole : Ok tt ≡ print_answer out 0 (map pos (refusal_line number line)) → 49 ≡ length (refusal_in number line (length out))
    unfolding refusal_in
    refusal_whole e = go (ltb number 1000000) refl (ltb line 1000000) refl (leb 49 (length out)) (rw fields_are at e)
      where
        go : (a : Bool) → ltb number 1000000 ≡ a → (b : Bool) → ltb line 1000000 ≡ b → (c : Bool)
            → ◌≡◌ {A = Result (Unit {0}) PrintError} (Ok tt) (cond (a && b) (cond c (Ok tt) (Err NoRoom)) (Err NoField)) → 49 ≡ length (cond (a && b && c) (refusal_text number line) [])
        go true p true q true h = sym (refusal_long (ltb-true number 1000000 p) (ltb-true line 1000000 q))
        go true p true q false h = let z : ◌≡◌ {A = ℕ} 0 1 = cc in absurd (omega arith)
        go true p false q c h = let z : ◌≡◌ {A = ℕ} 0 1 = cc in absurd (omega arith)
        go false p b q c h = let z : ◌≡◌ {A = ℕ} 0 1 = cc in absurd (omega arith)

    pub refusal_none : {e : PrintError} → Err e ≡ print_answer out 0 (map pos (refusal_line number line)) → 0 ≡ length (refusal_in number line (length out))
    unfolding refusal_in
    refusal_none {e} h = go (ltb number 1000000) (ltb line 1000000) (leb 49 (length out)) (rw fields_are at h)
      where
        go : (a b c : Bool) → ◌≡◌ {A = Result (Unit {0}) PrintError} (Err e) (cond (a && b) (cond c (Ok tt) (Err NoRoom)) (Err NoField)) → 0 ≡ length (cond (a && b && c) (refusal_text number line) [])
        go true true true h = let z : ◌≡◌ {A = ℕ} 0 1 = cc in absurd (omega arith)
        go true true false h = refl
        go true false c h = refl
        go false b c h = refl

-- a number that is no word is no field
pub no_word : (n : ℕ) → (SFits w32 (pos n) → ⊥) → 1000000 ≤ n
no_word n h = go (ltb n 1000000) refl
  where
    go : (b : Bool) → ltb n 1000000 ≡ b → 1000000 ≤ n
    go true e = absurd (h (record { sfits = omega (arith, ltb-true n 1000000 e) }))
    go false e = ltb-false n 1000000 e

pub nothing_said : (bytes out : List ℕ) → bytes ≡ [] → (0 ≡ length bytes) × (out ≡ over bytes out)
nothing_said bytes out e = (sym (ap length e), rw e)

-- what is written fits
pub refusal_fits : (number line room : ℕ) → length (refusal_in number line room) ≤ room
unfolding refusal_in
refusal_fits number line room = go (ltb number 1000000) refl (ltb line 1000000) refl (leb 49 room) refl
  where
    go : (a : Bool) → ltb number 1000000 ≡ a → (b : Bool) → ltb line 1000000 ≡ b → (c : Bool) → leb 49 room ≡ c
        → length (cond (a && b && c) (refusal_text number line) []) ≤ room
    go true p true q true r = omega (arith, refusal_long number line (ltb-true number 1000000 p) (ltb-true line 1000000 q), leb-true 49 room r)
    go true p true q false r = omega arith
    go true p false q c r = omega arith
    go false p b q c r = omega arith
