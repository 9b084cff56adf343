-- What the loops over fields and lines need of the definitions: pieces one after the other, and what is left to read.
-- Assumes nothing.
use Rattle.std.specs.Prelude.{◌≡◌, ℕ, zero, suc, ◌+◌, ◌*◌, ◌-◌, ◌≤◌, ◌<◌, Bool, true, false, List, [], ◌∷◌, ◌++◌, eqb, ℤ, pos, length, get_or, take, drop, set, replicate}
use Rattle.std.proofs.Math.Path.{refl}
use Rattle.std.proofs.Common.{sym, ap, ◌∙◌, arith, add-one, mul-suc, mul-zero, zero-add, add-zero, append_assoc, append-nil, length-append, length-set, length-take, length-drop, drop_of_length-le, drop-cons, drop-drop, take-take, take_all, take-suc-set, get_or-append-add, get_or-take, get_or-drop, eq-eqb, eqb-true}
use Rattle.std.proofs.Math.Nat.{sub-zero, zero-sub, suc-sub-suc}
use Rattle.std.proofs.Math.Option.{Option, none, some}
use Rattle.std.proofs.lemmas.List.{length-replicate}
use Rattle.std.proofs.lemmas.Slice.{put_mid-paste}
use borrow.Rule.Slice.PartMut.{put_mid}
use Rattle.std.proofs.lemmas.List.Edits.{length-paste, take-paste}
use Rattle.std.proofs.Math.ListN.{get_or-append}
use Rattle.fields.specs.Field.{field_of}
use Rattle.lines.specs.Line.{end_of, joined, fields_of, line_of, line_at, or_zeros, good_line, line_count, first_bad, line_numbers, pieces, numbers_of, padded}
use Rattle.lines.proofs.LowestLaws.{Passed, passed_start, passed_next, passed_stop, passed_done}
use Rattle.lines.specs.LineLoops.{Reading, Three, ZeroTail, field_number, first_fields, prefixed}
-- for the crates above, which do not use `fields`
pub use Rattle.fields.specs.FieldLoops.{told_some, told_none}

-- pieces, one after the other

module _ (f : List ℕ → List ℤ) (w : ℕ) where
  pub pieces_none : (t : List ℕ) → pieces f w 0 t ≡ []
  unfolding pieces
  pieces_none t = refl

  pub pieces_cons : (n : ℕ) (t : List ℕ) → pieces f w (suc n) t ≡ f (take w t) ++ pieces f w n (drop w t)
  unfolding pieces
  pieces_cons n t = refl

  pub pieces_split : (n m : ℕ) (t : List ℕ) → pieces f w (n + m) t ≡ pieces f w n t ++ pieces f w m (drop (w * n) t)
  pieces_split zero m t = rw (zero-add, mul-zero, pieces_none)
  pieces_split (suc n) m t =
      let e : suc n + m ≡ suc (n + m) = omega arith in
      let k : w * suc n ≡ w + w * n = mul-suc w n ∙ omega arith in
      rw (e, k, pieces_cons (n + m) t, pieces_cons n t, append_assoc, ← drop-drop)
      (ap (λ (l : List ℤ). f (take w t) ++ l) (pieces_split n m (drop w t)))

  pub pieces_next : (n : ℕ) (t : List ℕ) → pieces f w (suc n) t ≡ pieces f w n t ++ f (take w (drop (w * n) t))
  pieces_next n t =
      let e : suc n ≡ n + 1 = omega arith in
      rw (e, pieces_split n 1 t, pieces_cons 0 (drop (w * n) t), pieces_none, append-nil)

  module _ (k : ℕ) (sized : (b : List ℕ) → length (f b) ≡ k) where
    pub pieces_length : (n : ℕ) (t : List ℕ) → length (pieces f w n t) ≡ k * n
    pieces_length zero t = rw (pieces_none, mul-zero)
    pieces_length (suc n) t = rw (pieces_cons, length-append, sized, pieces_length n (drop w t), mul-suc) (omega arith)

    -- number j of piece i
    pub pieces_at : (n i j : ℕ) (t : List ℕ) (d : ℤ) → i < n → j < k
        → get_or (pieces f w n t) (k * i + j) d ≡ get_or (f (take w (drop (w * i) t))) j d
    pieces_at zero i j t d h g = absurd (omega arith)
    pieces_at (suc n) zero j t d h g =
        rw (pieces_cons, mul-zero k, mul-zero w, zero-add) (get_or-append (f (take w t)) (pieces f w n (drop w t)) d j (rw sized g))
    pieces_at (suc n) (suc i) j t d h g =
        let e : k * suc i + j ≡ length (f (take w t)) + (k * i + j) = omega (arith, mul-suc k i, sized (take w t)) in
        let u : w * suc i ≡ w + w * i = mul-suc w i ∙ omega arith in
        rw (pieces_cons, e, get_or-append-add, u, ← drop-drop) (pieces_at n i j (drop w t) d (omega arith) g)

-- fields and a line feed

pub fields_end : (bs : List ℕ) → fields_of 0 bs ≡ end_of bs
unfolding fields_of
fields_end bs = refl

pub fields_cons : (k : ℕ) (bs : List ℕ) → fields_of (suc k) bs ≡ joined (field_of (take 6 bs)) (fields_of k (drop 6 bs))
unfolding fields_of
fields_cons k bs = refl

-- the parts of a joined answer
pub record Joined (o : Option ℤ) (p : Option (List ℤ)) (zs : List ℤ) : Type 0 where
  pub head : ℤ
  pub tail : List ℤ
  pub of_head : o ≡ some head
  pub of_tail : p ≡ some tail
  pub whole : zs ≡ head ∷ tail

pub joined_some : (o : Option ℤ) (p : Option (List ℤ)) (zs : List ℤ) → joined o p ≡ some zs → Joined o p zs
joined_some none p zs h = let u : ◌≡◌ {A = ℕ} 0 1 = cc in absurd (omega arith)
joined_some (some z) none zs h = let u : ◌≡◌ {A = ℕ} 0 1 = cc in absurd (omega arith)
joined_some (some z) (some ws) zs h = record { head = z; tail = ws; of_head = refl; of_tail = refl; whole = cc }

pub end_some : (bs : List ℕ) (zs : List ℤ) → end_of bs ≡ some zs → (bs ≡ 10 ∷ []) × (zs ≡ [])
end_some [] zs h = let u : ◌≡◌ {A = ℕ} 0 1 = cc in absurd (omega arith)
end_some (c ∷ d ∷ bs) zs h = let u : ◌≡◌ {A = ℕ} 0 1 = cc in absurd (omega arith)
end_some (c ∷ []) zs h = go (eqb c 10) refl
  where
    go : (b : Bool) → eqb c 10 ≡ b → (c ∷ [] ≡ 10 ∷ []) × (zs ≡ [])
    go true e = let g : some [] ≡ some zs = rw (e, end_of) at h in (ap (λ (x : ℕ). x ∷ []) (eqb-true c 10 e), cc)
    go false e = let g : none ≡ some zs = rw (e, end_of) at h in let u : ◌≡◌ {A = ℕ} 0 1 = cc in absurd (omega arith)

pub fields_sized : (k : ℕ) (bs : List ℕ) (zs : List ℤ) → fields_of k bs ≡ some zs → (length bs ≡ 6 * k + 1) × (length zs ≡ k)
fields_sized zero bs zs h =
    let g : (bs ≡ 10 ∷ []) × (zs ≡ []) = end_some bs zs (sym (fields_end bs) ∙ h) in
    (rw g.0 refl, rw g.1 refl)
fields_sized (suc k) bs zs h =
    let j : Joined (field_of (take 6 bs)) (fields_of k (drop 6 bs)) zs = joined_some _ _ zs (sym (fields_cons k bs) ∙ h) in
    let g : (length (drop 6 bs) ≡ 6 * k + 1) × (length j.tail ≡ k) = fields_sized k (drop 6 bs) j.tail j.of_tail in
    (omega (arith, g.0, length-drop 6 bs), rw j.whole (ap suc g.1))

-- a line's numbers are eight
pub line_sized : (bs : List ℕ) → length (line_numbers bs) ≡ 8
line_sized bs = go (line_of bs) refl
  where
    go : (o : Option (List ℤ)) → line_of bs ≡ o → length (or_zeros o) ≡ 8
    go none e = refl
    go (some zs) e = (fields_sized 8 bs zs e).1

pub numbers_sized : (t : List ℕ) → length (numbers_of t) ≡ 8 * line_count t
numbers_sized t = pieces_length line_numbers 49 8 line_sized (line_count t) t

pub line_short : (bs : List ℕ) → (length bs ≡ 49 → ⊥) → line_of bs ≡ none
line_short bs n = go (line_of bs) refl
  where
    go : (o : Option (List ℤ)) → line_of bs ≡ o → line_of bs ≡ none
    go none e = e
    go (some zs) e = absurd (n (fields_sized 8 bs zs e).0)

-- the fields of a line that have been read

prefixed_nil : (o : Option (List ℤ)) → o ≡ prefixed [] o
prefixed_nil none = refl
prefixed_nil (some ws) = refl

prefixed_joined : (zs : List ℤ) (z : ℤ) (o : Option (List ℤ)) → prefixed zs (joined (some z) o) ≡ prefixed (zs ++ z ∷ []) o
prefixed_joined zs z none = refl
prefixed_joined zs z (some ws) = ap {B = Option (List ℤ)} some (sym (append_assoc zs (z ∷ []) ws))

pub reading_start : (b : List ℕ) (numbers : List ℤ) → length numbers ≡ 8 → Reading b 0 numbers
reading_start b numbers l = record {
  few = omega arith;
  sized = l;
  kept = rw pieces_none;
  left = rw pieces_none (prefixed_nil (line_of b));
}

module _ {b : List ℕ} {j : ℕ} {numbers : List ℤ} (r : Reading b j numbers) (h : j < 8) where
  split : fields_of (8 - j) (drop (6 * j) b) ≡ joined (field_of (take 6 (drop (6 * j) b))) (fields_of (8 - suc j) (drop (6 * suc j) b))
  split =
      let k : 8 - j ≡ suc (8 - suc j) = omega arith in
      let m : 6 * suc j ≡ 6 * j + 6 = omega arith in
      rw (k, m, ← drop-drop) (fields_cons (8 - suc j) (drop (6 * j) b))

  pub reading_next : (z : ℤ) → field_of (take 6 (drop (6 * j) b)) ≡ some z → Reading b (j + 1) (set numbers j z)
  reading_next z e =
      let p : first_fields (suc j) b ≡ first_fields j b ++ z ∷ [] = pieces_next field_number 6 j b ∙ rw e in
      rw add-one (record {
        few = h;
        sized = length-set numbers j z ∙ r.sized;
        kept = rw (take-suc-set numbers j z (omega (arith, r.sized)), r.kept, p);
        left = r.left ∙ rw (split, e, p) (prefixed_joined (first_fields j b) z (fields_of (8 - suc j) (drop (6 * suc j) b)));
      })

  pub reading_bad : field_of (take 6 (drop (6 * j) b)) ≡ none → line_of b ≡ none
  reading_bad e = r.left ∙ rw (split, e)

end_feed : (c : ℕ) → c ≡ 10 → end_of (c ∷ []) ≡ some []
end_feed c e = rw (eq-eqb c 10 e, end_of)

reading_end : {b : List ℕ} {j : ℕ} {numbers : List ℤ} → Reading b j numbers → 8 ≤ j → length b ≡ 49 → get_or b 48 0 ≡ 10 → line_of b ≡ some numbers
reading_end {b} {j} {numbers} r h whole e =
    let eight : j ≡ 8 = omega (arith, r.few) in
    let all : numbers ≡ first_fields 8 b = sym (take_all 8 numbers (omega (arith, r.sized))) ∙ rw eight at r.kept in
    let last : drop 48 b ≡ get_or b 48 0 ∷ [] = rw (drop-cons b 48 0 (omega arith), drop_of_length-le b {i = 49} (omega arith)) in
    r.left ∙ rw (eight, last, fields_end, end_feed _ e, append-nil, all)

-- a line ends in a line feed
fields_feed : (k : ℕ) (bs : List ℕ) (zs : List ℤ) → fields_of k bs ≡ some zs → get_or bs (6 * k) 0 ≡ 10
fields_feed zero bs zs h = rw (end_some bs zs (sym (fields_end bs) ∙ h)).0 refl
fields_feed (suc k) bs zs h =
    let j : Joined (field_of (take 6 bs)) (fields_of k (drop 6 bs)) zs = joined_some _ _ zs (sym (fields_cons k bs) ∙ h) in
    let u : 6 * suc k ≡ 6 + 6 * k = omega arith in
    rw u (sym (get_or-drop 6 bs (6 * k) 0) ∙ fields_feed k (drop 6 bs) j.tail j.of_tail)

pub line_no_feed : (bs : List ℕ) → (get_or bs 48 0 ≡ 10 → ⊥) → line_of bs ≡ none
line_no_feed bs n = go (line_of bs) refl
  where
    go : (o : Option (List ℤ)) → line_of bs ≡ o → line_of bs ≡ none
    go none e = e
    go (some zs) e = absurd (n (fields_feed 8 bs zs e))

-- a line as a part of a text

take_drop_take : (k m n : ℕ) (l : List ℕ) → m + k ≤ n → take k (drop m (take n l)) ≡ take k (drop m l)
take_drop_take k zero n l h = take-take k n l (omega arith)
take_drop_take k (suc m) zero l h = absurd (omega arith)
take_drop_take k (suc m) (suc n) [] h = refl
take_drop_take k (suc m) (suc n) (x ∷ l) h = take_drop_take k m n l (omega arith)

pub line_field : (t : List ℕ) (at j : ℕ) → j < 8 → take 6 (drop (6 * j) (take 49 (drop at t))) ≡ take 6 (drop (at + 6 * j) t)
line_field t at j h = take_drop_take 6 (6 * j) 49 (drop at t) (omega arith) ∙ rw drop-drop

pub line_last : (t : List ℕ) (at : ℕ) → get_or (take 49 (drop at t)) 48 0 ≡ get_or t (at + 48) 0
line_last t at = get_or-take 49 (drop at t) 48 0 (omega arith) ∙ get_or-drop at t 48 0

line_whole : (t : List ℕ) (at : ℕ) → at + 49 ≤ length t → length (take 49 (drop at t)) ≡ 49
line_whole t at h = rw (length-take, length-drop) (omega arith)

-- three numbers and five zeros over eight numbers
module _ (l : List ℤ) (x y z : ℤ) (eight : length l ≡ 8) where
  abbrev front : List ℤ
  front = set (set (set l 0 x) 1 y) 2 z

  front_sized : length front ≡ 8
  front_sized = rw (length-set, length-set, length-set) eight

  front_taken : take 3 front ≡ x ∷ y ∷ z ∷ []
  front_taken =
      take-suc-set (set (set l 0 x) 1 y) 2 z (rw (length-set, length-set, eight) (omega arith))
      ∙ rw (take-suc-set (set l 0 x) 1 y (rw (length-set, eight) (omega arith)), take-suc-set l 0 x (omega (arith, eight)))

  pub three_put : (zeros : List ℤ) → zeros ≡ replicate (length (take (length front - 3) (drop 3 front))) (pos 0) → put_mid 3 (length front - 3) front zeros ≡ x ∷ y ∷ z ∷ replicate 5 (pos 0)
  three_put zeros e =
      let n : length front - 3 ≡ 5 = omega (arith, front_sized) in
      let m : length (take (length front - 3) (drop 3 front)) ≡ 5 = rw (length-take, length-drop, front_sized) refl in
      let five : zeros ≡ replicate 5 (pos 0) = e ∙ rw m in
      put_mid-paste 3 (length front - 3) front zeros (replicate 5 (pos 0)) 5 five (sym n) refl
      ∙ rw (front_taken, drop_of_length-le front {i = 8} (omega (arith, front_sized)))

-- the line at a place of a text

module _ (t : List ℕ) (at : ℕ) where
  pub line_next : {j : ℕ} {numbers : List ℤ} → Reading (take 49 (drop at t)) j numbers → (z : ℤ) → j < 8 → field_of (take 6 (drop (at + 6 * j) t)) ≡ some z → Reading (take 49 (drop at t)) (j + 1) (set numbers j z)
  line_next {j} r z h e = reading_next r h z (ap field_of (line_field t at j h) ∙ e)

  pub line_end : at + 49 ≤ length t → get_or t (at + 48) 0 ≡ 10 → {j : ℕ} {numbers : List ℤ} → Reading (take 49 (drop at t)) j numbers → 8 ≤ j → line_of (take 49 (drop at t)) ≡ some numbers
  line_end h e r all = reading_end r all (line_whole t at h) (line_last t at ∙ e)

  pub three_read : (x y z : ℕ) → ZeroTail t at
      → field_of (take 6 (drop at t)) ≡ some (pos x) → field_of (take 6 (drop (at + 6) t)) ≡ some (pos y) → field_of (take 6 (drop (at + 12) t)) ≡ some (pos z)
      → Three (take 49 (drop at t)) (pos x) (pos y) (pos z)
  three_read x y z o e f g =
      let a = line_next (reading_start (take 49 (drop at t)) (replicate 8 (pos 0)) refl) (pos x) (omega arith) (rw add-zero e) in
      let b = line_next a (pos y) (omega arith) f in
      let c = line_next b (pos z) (omega arith) g in
      let d = line_next c (pos 0) (omega arith) o.fourth.zero in
      let m = line_next d (pos 0) (omega arith) o.fifth.zero in
      let n = line_next m (pos 0) (omega arith) o.sixth.zero in
      let p = line_next n (pos 0) (omega arith) o.seventh.zero in
      record { reading = line_next p (pos 0) (omega arith) o.eighth.zero }

-- the lines of a text, from the first

-- before line i every line is good, and its numbers stand in their places
pub record Paging (t : List ℕ) (n i : ℕ) (numbers : List ℤ) : Type 0 where
  pub counted : n ≡ line_count t
  pub sized : length numbers ≡ 8 * n
  pub passed : Passed (good_line t) n i
  pub kept : take (8 * i) numbers ≡ pieces line_numbers 49 i t

pub page_start : (t : List ℕ) (n : ℕ) (numbers : List ℤ) → n ≡ line_count t → length numbers ≡ 8 * line_count t → Paging t n 0 numbers
page_start t n numbers e h = record { counted = e; sized = rw e h; passed = passed_start (good_line t) n; kept = rw pieces_none }

pub page_few : (t : List ℕ) (n : ℕ) → n ≡ line_count t → (n ≤ 673) × (49 * n ≤ length t)
page_few t n e = rw e (omega arith, omega arith)

module _ {t : List ℕ} {n i : ℕ} {numbers : List ℤ} (p : Paging t n i numbers) where
  -- the line lies inside the text, and its numbers among those of the text
  pub next_inside : i < n → (49 * i + 49 ≤ length t) × (8 * i + 8 ≤ length numbers) × (i < 673)
  next_inside h = (omega (arith, page_few t n p.counted), omega (arith, p.sized), omega (arith, page_few t n p.counted))

  pub page_next : {size : ℕ} {line : List ℤ} → i < n → line_of (line_at t i) ≡ some line → size ≡ 8 → Paging t n (i + 1) (put_mid (8 * i) size numbers line)
  page_next {size} {line} h e eight =
      let w : length line ≡ 8 = (fields_sized 8 (line_at t i) line e).1 in
      let u : 8 * suc i ≡ 8 * i + 8 = omega arith in
      rw (put_mid-paste (8 * i) size numbers line line 8 refl (sym eight) (sym w)) (record {
        counted = p.counted;
        sized = length-paste numbers (8 * i) line 8 (next_inside h).1 (omega arith) ∙ p.sized;
        passed = passed_next p.passed h (rw e);
        kept = rw (add-one, u, pieces_next line_numbers 49 i t, e, take-paste numbers (8 * i) line 8 (omega (arith, (next_inside h).1)) (omega arith), take_all 8 line (omega arith), p.kept);
      })

  pub page_stop : i < n → line_of (line_at t i) ≡ none → first_bad t ≡ some i
  page_stop h e = rw (← p.counted) (passed_stop p.passed h (rw e))

  pub page_done : n ≤ i → (first_bad t ≡ none) × (numbers ≡ numbers_of t)
  page_done h =
      let e : i ≡ line_count t = omega (arith, p.passed.within, p.counted) in
      let w : length numbers ≤ 8 * i = omega (arith, p.sized) in
      (rw (← p.counted) (passed_done p.passed h), sym (take_all (8 * i) numbers w) ∙ p.kept ∙ rw e)

-- zeros, and numbers put before them

pub zeros_part : (k m : ℕ) → k ≤ m → k ≡ length (take {A = ℤ} k (replicate m (pos 0)))
zeros_part k m h = sym (length-take k (replicate m (pos 0)) ∙ rw length-replicate (omega arith))

drop_zeros : (k m : ℕ) → drop {A = ℤ} k (replicate m (pos 0)) ≡ replicate (m - k) (pos 0)
drop_zeros zero m = rw sub-zero
drop_zeros (suc k) zero = rw zero-sub
drop_zeros (suc k) (suc m) = rw suc-sub-suc (drop_zeros k m)

-- m numbers in all, the first of them those of the text
numbers_padded : (t : List ℕ) (n m : ℕ) (numbers : List ℤ) → n ≡ line_count t → numbers ≡ numbers_of t
    → numbers ++ drop (8 * n) (replicate m (pos 0)) ≡ numbers_of t ++ replicate (m - length (numbers_of t)) (pos 0)
numbers_padded t n m numbers e k = rw (drop_zeros (8 * n) m, k, numbers_sized t, e)

pub page_padded : (t : List ℕ) (n : ℕ) (numbers : List ℤ) → n ≡ line_count t → numbers ≡ numbers_of t → numbers ++ drop (8 * n) (replicate 5384 (pos 0)) ≡ padded (numbers_of t)
page_padded t n numbers e k = numbers_padded t n 5384 numbers e k
