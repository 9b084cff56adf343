-- `station_check::check_file` meets its contract: what is read is the text, or as much of it as the buffer takes, and what is written is what is said of it. Assumes nothing.
use Rattle.std.proofs.Common.{rules, arith, IfSome, OnOk, take, drop, replicate, ◌≡◌, ℕ, ◌<◌, ◌≤◌, length, List, [], ◌∷◌, ◌++◌, sym, ap, ◌∙◌, subst, take_at, take_all, length-take-le, append-nil}
use Rattle.std.specs.Prelude.{refl, Bool, true, false, ◌&&◌, ◌%◌, ltb, leb, eqb, Result, Ok, Err, Option, Some, None}
use Rattle.std.specs.Io.KnownBytes.{Appends, Consumes, IsAtEnd}
use Rattle.std.proofs.lemmas.Bool.{cases_lt, lt-leb}
use Rattle.std.proofs.Common.{inl, inr}
use Rattle.table.specs.Verdict.{text_ok, verdict}
use Rattle.table.specs.declared.Refusal.TheVariants.{Length}
use Rattle.answer.specs.Said.{said_of}
use Rattle.answer.specs.SaidLaws.{said_refused}
use Rattle.station_check.proofs.check_file.Goals as goal

-- as much of a text as a buffer took is its front, of the buffer's length
front_read : (xs : List ℕ) (rest : Option (List ℕ)) (buf : List ℕ) (n room : ℕ) → length buf ≡ room → n ≤ length buf → Consumes (Some xs) rest (take n buf)
    → (n < length buf → IsAtEnd rest) → take n buf ≡ take room xs
front_read xs None buf n room long few read end = absurd read
front_read xs (Some []) buf n room long few read end =
    let size = length-take-le n buf few in
    let all : xs ≡ take n buf = read ∙ append-nil (take n buf) in
    sym (ap (take room) all ∙ take_all room (take n buf) (omega arith))
front_read xs (Some (y ∷ ys)) buf n room long few read end =
    let more : n < length buf → 1 ≤ 0 = λ (h : n < length buf). let no : ◌≡◌ {A = List ℕ} (y ∷ ys) [] = end h in let u : ◌≡◌ {A = ℕ} 0 1 = cc in omega arith in
    let full : length buf ≤ n = grind (arith, more) in
    let size : length (take n buf) ≡ room = length-take-le n buf few ∙ omega arith in
    sym (ap (take room) read ∙ take_at (take n buf) (y ∷ ys) room size)

text_too_long : (n : ℕ) → 32977 < n → text_ok n ≡ false
unfolding text_ok
text_too_long n h = go (ltb 0 n && eqb (n % 49) 0) (leb n 32977) (lt-leb n 32977 h)
  where
    go : (a b : Bool) → b ≡ false → (a && b) ≡ false
    go true b e = e
    go false b e = refl

too_long : (xs : List ℕ) → 32977 < length xs → verdict xs ≡ Err Length
unfolding verdict
too_long xs h = rw (text_too_long (length xs) h)

-- a text that the buffer does not take is too long by its front alone
said_of_front : (xs : List ℕ) → said_of (take 65536 xs) 65536 ≡ said_of xs 65536
said_of_front xs =
    elim (cases_lt 65536 (length xs)) [
      | inl h ↦
          let size = length-take-le 65536 xs (omega arith) in
          said_refused (take 65536 xs) 65536 Length (too_long (take 65536 xs) (omega arith)) (omega arith) ∙ sym (said_refused xs 65536 Length (too_long xs (omega arith)) (omega arith))
      | inr h ↦ ap (λ (t : List ℕ). said_of t 65536) (take_all 65536 xs h)
    ]

printed : {T E : Type 0} (r : Result T E) (left rest old new : Option (List ℕ)) (buf out out' : List ℕ) (n b : ℕ) → length buf ≡ 65536 → length out ≡ 65536 → n ≤ length buf
    → Consumes left rest (take n buf) → (n < length buf → IsAtEnd rest) → b ≡ length (said_of (take n buf) (length out))
    → out' ≡ said_of (take n buf) (length out) ++ drop (length (said_of (take n buf) (length out))) out → OnOk r (Appends old new (take b out'))
    → OnOk r (IfSome left (λ text. Appends old new (said_of text 65536)))
printed (Err e) left rest old new buf out out' n b long room few read end count is wrote = tt
printed (Ok u) None rest old new buf out out' n b long room few read end count is wrote = tt
printed (Ok u) (Some xs) rest old new buf out out' n b long room few read end count is wrote =
    let said = said_of (take n buf) (length out) in
    let bytes : take b out' ≡ said = ap (take b) is ∙ take_at said (drop (length said) out) b (sym count) in
    let front : said ≡ said_of (take 65536 xs) 65536 = ap (λ (t : List ℕ). said_of t (length out)) (front_read xs rest buf n 65536 long few read end) ∙ ap (said_of (take 65536 xs)) room in
    subst (Appends old new) (bytes ∙ front ∙ said_of_front xs) wrote

pub returns : goal.returns
returns g c =
    let read = c.in_ok-count.ensures in
    let print = c.print_answer-bytes.ensures in
    let long : length c.read_full.new.buffer ≡ 65536 = search rules in
    let room : length (replicate {A = ℕ} 65536 0) ≡ 65536 = search rules in
    printed _ _ _ _ _ _ (replicate {A = ℕ} 65536 0) _ _ _ long room read.count.0 read.bytes read.end print.bytes print.buffer c.write_all.ensures.bytes
