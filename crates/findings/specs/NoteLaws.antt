-- Accesses noted statement by statement: which locks all of a cell's accesses hold, and the counts of the walk. Assumes nothing.
use Rattle.std.specs.Prelude.{Some, ◌≡◌, refl, Bool, cond, not, ◌&&◌, ◌||◌, ℕ, zero, suc, ◌+◌, ◌-◌, ◌^◌, ◌≤◌, ◌<◌, eqb, ℤ, length, get_or, set, replicate}
use Rattle.std.proofs.Common.{sym, ap, ◌∙◌, subst, arith, zero-add, length-set, get_or-set_same, get_or-set_other, eqb-true, eq-eqb}
use Rattle.std.proofs.Math.Path.{ap₂}
use Rattle.std.proofs.Math.Bool.{true, false}
use mathlib.Core.List.{List}
use Rattle.std.proofs.Math.Decide.{dec_lt}
use Rattle.std.proofs.lemmas.List.{length-replicate, get_or-replicate}
use Rattle.std.proofs.lemmas.Bool.{eqb-false}
use Rattle.sets.specs.Set.{has, inter, minus, one, count, lowest, firsts}
use Rattle.sets.proofs.SetLaws.{has_minus, has_one, has_empty, has_inter, same_elements, minus_below, count_inside_less, has_beyond, lowest_is}
use Rattle.table.specs.Header.{locks, statements}
use Rattle.table.specs.Tabulate.{tabulate}
use Rattle.table.proofs.TabulateLaws.{is_tabulate, zeros_at}
use Rattle.report.specs.Operations.{reading, writing}
use Rattle.report.specs.Report.{bit}
use Rattle.report.specs.Counts.{Counts, no_counts, add_each, add_access, walk_from}
use Rattle.report.proofs.CountsLaws.{walk_few}
use Rattle.findings.specs.Steps.{counts_of, fold_from, own_by, accesses, held_at, common_by, walk_by, noted_by}
use Rattle.findings.specs.declared.Noted.{Noted}
use Rattle.findings.specs.FoldLaws.{Folding, folding_start, folding_next, folding_done, fold_inter, fold_walk}

-- the counts of what is noted
abbrev pub counts_in : Noted → Counts
counts_in noted = record { reads = noted.reads; writes = noted.writes }

-- they are far below what a word holds
abbrev pub CountsFew : Noted → Type 0
CountsFew noted = (w : Bool) (x : ℕ) → x < 64 → get_or (counts_of w noted) x 0 < 2 ^ 32

-- ---- the lowest element

pub lowest_there : (s i : ℕ) → s < 2 ^ 64 → lowest s ≡ Some i → (has s i ≡ true) × (i < 64)
lowest_there s i h e = let there = (lowest_is s i h e).0 in (there, go there (dec_lt i 64))
  where
    go : has s i ≡ true → Dec (i < 64) → i < 64
    go there (yes l) = l
    go there (no n) =
        let z : true ≡ false = sym there ∙ has_beyond 64 i h (omega arith) in absurd (let w : ◌≡◌ {A = ℕ} 0 1 = cc in omega arith)

-- ---- the cells of one set

bit_few : (b : Bool) → bit b ≤ 1
bit_few true = omega arith
bit_few false = omega arith

-- each cell of a set is counted once more, and its common locks are held too; no other place changes
pub record Marked (cells held : ℕ) (common₀ common counts₀ counts : List ℕ) : Type 0 where
  pub common_long : length common ≡ 64
  pub counts_were : length counts₀ ≡ 64
  pub counts_long : length counts ≡ 64
  pub common_is : (x : ℕ) → x < 64 → get_or common x 0 ≡ cond (has cells x) (inter held (get_or common₀ x 0)) (get_or common₀ x 0)
  pub counts_is : (x : ℕ) → x < 64 → get_or counts x 0 ≡ bit (has cells x) + get_or counts₀ x 0

-- all cells of a set but `rest`
pub record Marking (cells held : ℕ) (common₀ common counts₀ counts : List ℕ) (rest : ℕ) : Type 0 where
  pub below : rest < 2 ^ 64
  pub within : (i : ℕ) → has rest i ≡ true → has cells i ≡ true
  pub marked : Marked (minus cells rest) held common₀ common counts₀ counts

-- the same cells
same_marked : {a b held : ℕ} {common₀ common counts₀ counts : List ℕ} → ((i : ℕ) → has a i ≡ has b i)
    → Marked a held common₀ common counts₀ counts → Marked b held common₀ common counts₀ counts
same_marked {a} {b} {held} {common₀} {common} {counts₀} {counts} e m = subst (λ (s : ℕ). Marked s held common₀ common counts₀ counts) (same_elements a b e) m

-- nothing is noted of no cell
nothing_marked : (held : ℕ) (common counts : List ℕ) → length common ≡ 64 → length counts ≡ 64 → Marked 0 held common common counts counts
nothing_marked held common counts common_long counts_long = record {
  common_long = common_long;
  counts_were = counts_long;
  counts_long = counts_long;
  common_is = λ x l. rw (has_empty x);
  counts_is = λ x l. rw (has_empty x) (sym (zero-add (get_or counts x 0)));
}

pub marking_start : (cells held : ℕ) (common counts : List ℕ) → cells < 2 ^ 64 → length common ≡ 64 → length counts ≡ 64
    → Marking cells held common common counts counts cells
marking_start cells held common counts below common_long counts_long = record {
  below = below;
  within = λ i h. h;
  marked = same_marked (λ i. has_empty i ∙ sym (has_minus cells cells i ∙ no_both (has cells i))) (nothing_marked held common counts common_long counts_long);
}
  where
    no_both : (b : Bool) → (b && not b) ≡ false
    no_both true = refl
    no_both false = refl

module _ {cells held : ℕ} {common₀ common counts₀ counts : List ℕ} {rest : ℕ} (m : Marking cells held common₀ common counts₀ counts rest) where
  -- the lowest cell that is left
  pub lowest_left : (e : ℕ) → lowest rest ≡ Some e → (has rest e ≡ true) × (e < 64)
  lowest_left e is = lowest_there rest e m.below is

  -- one cell more
  module _ (e : ℕ) (there : has rest e ≡ true) (few : e < 64) where
    abbrev left : ℕ
    left = inter held (get_or common e 0)

    abbrev counted : ℕ
    counted = get_or counts e 0 + 1

    fewer : (i : ℕ) → has (minus rest (one e)) i ≡ true → has rest i ≡ true
    fewer i h = go (has rest i) refl
      where
        go : (b : Bool) → has rest i ≡ b → has rest i ≡ true
        go true k = k
        go false k = let z : true ≡ false = sym h ∙ has_minus rest (one e) i ∙ ap (λ (b : Bool). b && not (has (one e) i)) k in absurd (let w : ◌≡◌ {A = ℕ} 0 1 = cc in omega arith)

    -- whether a cell is among those marked now
    marked_now : (x : ℕ) → (b : Bool) → eqb x e ≡ b → has (minus cells (minus rest (one e))) x ≡ cond b true (has (minus cells rest) x)
    marked_now x true k =
        let q : x ≡ e = eqb-true x e k in
        rw (has_minus cells (minus rest (one e)) x, has_minus rest (one e) x, has_one e x few, k, q, m.within e there, there)
    marked_now x false k =
        rw (has_minus cells (minus rest (one e)) x, has_minus rest (one e) x, has_one e x few, k, has_minus cells rest x) (other (has cells x) (has rest x))
      where
        other : (a b : Bool) → (a && not (b && true)) ≡ (a && not b)
        other true true = refl
        other true false = refl
        other false true = refl
        other false false = refl

    -- the cell was not marked before
    unmarked : has (minus cells rest) e ≡ false
    unmarked = has_minus cells rest e ∙ rw (there, m.within e there)

    counts_now : (x : ℕ) → x < 64 → (b : Bool) → eqb x e ≡ b
        → get_or (set counts e counted) x 0 ≡ bit (has (minus cells (minus rest (one e))) x) + get_or counts₀ x 0
    counts_now x l true k =
        let q : x ≡ e = eqb-true x e k in
        let was : get_or counts e 0 ≡ get_or counts₀ e 0 = m.marked.counts_is e few ∙ rw unmarked (zero-add (get_or counts₀ e 0)) in
        let at : get_or (set counts e counted) e 0 ≡ counted = get_or-set_same counts e counted 0 (omega (arith, m.marked.counts_long, few)) in
        let one_more : bit (has (minus cells (minus rest (one e))) e) ≡ 1 = ap bit (marked_now e true (eq-eqb e e refl)) in
        let now : get_or (set counts e counted) e 0 ≡ bit (has (minus cells (minus rest (one e))) e) + get_or counts₀ e 0 = omega arith in
        subst (λ (i : ℕ). get_or (set counts e counted) i 0 ≡ bit (has (minus cells (minus rest (one e))) i) + get_or counts₀ i 0) (sym q) now
    counts_now x l false k =
        get_or-set_other counts e x counted 0 (eqb-false x e k)
        ∙ m.marked.counts_is x l ∙ ap (λ (b : Bool). bit b + get_or counts₀ x 0) (sym (marked_now x false k))

    common_now : (x : ℕ) → x < 64 → (b : Bool) → eqb x e ≡ b
        → get_or (set common e left) x 0 ≡ cond (has (minus cells (minus rest (one e))) x) (inter held (get_or common₀ x 0)) (get_or common₀ x 0)
    common_now x l true k =
        let q : x ≡ e = eqb-true x e k in
        let was : get_or common e 0 ≡ get_or common₀ e 0 = m.marked.common_is e few ∙ rw unmarked in
        ap (λ (i : ℕ). get_or (set common e left) i 0) q
        ∙ get_or-set_same common e left 0 (omega (arith, m.marked.common_long, few))
        ∙ ap (inter held) (was ∙ ap (λ (i : ℕ). get_or common₀ i 0) (sym q))
        ∙ sym (ap (λ (b : Bool). cond b (inter held (get_or common₀ x 0)) (get_or common₀ x 0)) (marked_now x true k))
    common_now x l false k =
        get_or-set_other common e x left 0 (eqb-false x e k)
        ∙ m.marked.common_is x l
        ∙ ap (λ (b : Bool). cond b (inter held (get_or common₀ x 0)) (get_or common₀ x 0)) (sym (marked_now x false k))

    pub marking_next : Marking cells held common₀ (set common e left) counts₀ (set counts e counted) (minus rest (one e))
    marking_next = record {
      below = minus_below 64 (one e) m.below;
      within = λ i h. m.within i (fewer i h);
      marked = record {
        common_long = length-set common e left ∙ m.marked.common_long;
        counts_were = m.marked.counts_were;
        counts_long = length-set counts e counted ∙ m.marked.counts_long;
        common_is = λ x l. common_now x l (eqb x e) refl;
        counts_is = λ x l. counts_now x l (eqb x e) refl;
      };
    }

    -- the count goes up by one from what it was
    pub marking_few : (bound : ℕ) → get_or counts₀ e 0 < bound → get_or counts e 0 ≤ bound
    marking_few bound h = omega (arith, m.marked.counts_is e few, bit_few (has (minus cells rest) e))

    -- fewer are left
    pub marking_less : count (minus rest (one e)) < count rest
    marking_less =
        count_inside_less (minus rest (one e)) rest e fewer few
        (has_minus rest (one e) e ∙ rw (has_one e e few, there, same_number e)) there
      where
        same_number : (n : ℕ) → eqb n n ≡ true
        same_number n = eq-eqb n n refl

  pub marking_done : rest ≡ 0 → Marked cells held common₀ common counts₀ counts
  marking_done z = same_marked (λ i. has_minus cells rest i ∙ rw (z, has_empty i) (all (has cells i))) m.marked
    where
      all : (b : Bool) → (b && true) ≡ b
      all true = refl
      all false = refl

-- ---- one statement

-- a statement that itself reads and writes these cells, holding these locks, is noted
pub record NotedAt (own : Bool → ℕ) (held : ℕ) (noted₀ noted : Noted) : Type 0 where
  pub common_long : length noted.common ≡ 64
  pub common_is : (x : ℕ) → x < 64 → get_or noted.common x 0 ≡ cond (has (own reading) x || has (own writing) x) (inter held (get_or noted₀.common x 0)) (get_or noted₀.common x 0)
  pub counts_is : counts_in noted ≡ add_access own (counts_in noted₀)

-- what is met twice is met once
inter_again : (a b : ℕ) → inter a (inter a b) ≡ inter a b
inter_again a b = same_elements _ _ (λ i. has_inter a (inter a b) i ∙ ap (λ (x : Bool). has a i && x) (has_inter a b i) ∙ go (has a i) (has b i) ∙ sym (has_inter a b i))
  where
    go : (x y : Bool) → (x && (x && y)) ≡ (x && y)
    go true y = refl
    go false y = refl

-- first what it reads, then what it writes
pub noted_both : {own : Bool → ℕ} {held read written : ℕ} {noted₀ noted : Noted} {common : List ℕ}
    → own reading ≡ read → own writing ≡ written
    → Marked read held noted₀.common common noted₀.reads noted.reads → Marked written held common noted.common noted₀.writes noted.writes
    → NotedAt own held noted₀ noted
unfolding add_access add_each
noted_both {own} {held} {read} {written} {noted₀} {noted} {common} r w m n = record {
  common_long = n.common_long;
  common_is = λ x l. n.common_is x l ∙ rw (m.common_is x l, r, w) (both (has read x) (has written x) (get_or noted₀.common x 0));
  counts_is = ap₂ (λ (a b : List ℕ). record { reads = a; writes = b }) (counted (own reading) m r) (counted (own writing) n w);
}
  where
    both : (a b : Bool) (common : ℕ)
        → cond b (inter held (cond a (inter held common) common)) (cond a (inter held common) common) ≡ cond (a || b) (inter held common) common
    both true true common = inter_again held common
    both true false common = refl
    both false true common = refl
    both false false common = refl

    counted : (set : ℕ) {cells : ℕ} {common₀ common counts₀ counts : List ℕ} → Marked cells held common₀ common counts₀ counts → set ≡ cells
        → counts ≡ add_each set counts₀
    counted set {cells} {common₀} {common} {counts₀} {counts} m e =
        is_tabulate 64 _ counts 0 m.counts_long (λ x l. m.counts_is x l ∙ ap (λ (s : ℕ). bit (has s x) + get_or counts₀ x 0) (sym e))
        ∙ ap (λ (n : ℕ). tabulate n (λ x. cond (has set x) 1 0 + get_or counts₀ x 0)) (sym m.counts_were)

-- ---- all statements, from the last to the first

module _ (f : List ℤ) (flow held : List ℕ) where
  -- what one statement leaves of the locks common to all accesses of a cell, and what it adds to the counts
  abbrev meet : ℕ → ℕ → ℕ → ℕ
  meet x s common = inter (held_at f flow held x s) common

  abbrev add : ℕ → Counts → Counts
  add s c = add_access (λ w. own_by f flow w s) c

  pub record Noting (noted : Noted) (s : ℕ) : Type 0 where
    pub common_long : length noted.common ≡ 64
    pub common_is : (x : ℕ) → x < 64 → Folding (meet x) (firsts (locks f)) (statements f) (get_or noted.common x 0) s
    pub counts_is : Folding add (no_counts 64) (statements f) (counts_in noted) s

-- the intersection with all changes nothing
fold_within : (all : ℕ) (from n : ℕ) (g : ℕ → ℕ) (i : ℕ) → has (fold_from (λ s. inter (g s)) all from n) i ≡ true → has all i ≡ true
unfolding fold_from
fold_within all from zero g i h = h
fold_within all from (suc n) g i h =
    fold_within all (from + 1) n g i (second (has (g from) i) (has (behind from) i) (sym (has_inter (g from) (behind from) i) ∙ h))
  where
    behind : ℕ → ℕ
    behind p = fold_from (λ s. inter (g s)) all (p + 1) n

    second : (a b : Bool) → (a && b) ≡ true → b ≡ true
    second true b e = e
    second false b e = absurd (let w : ◌≡◌ {A = ℕ} 0 1 = cc in omega arith)

inter_all : (all acc : ℕ) → ((i : ℕ) → has acc i ≡ true → has all i ≡ true) → inter all acc ≡ acc
inter_all all acc h = same_elements (inter all acc) acc (λ i. has_inter all acc i ∙ both (has all i) (has acc i) (h i))
  where
    both : (a b : Bool) → (b ≡ true → a ≡ true) → (a && b) ≡ b
    both a true k = rw (k refl)
    both true false k = refl
    both false false k = refl

abbrev pub nothing_noted : ℕ → Noted
nothing_noted all = record { common = replicate 64 all; reads = replicate 64 0; writes = replicate 64 0 }

pub noting_start : (f : List ℤ) (flow held : List ℕ) (n all : ℕ) → n ≡ statements f → all ≡ firsts (locks f) → Noting f flow held (nothing_noted all) n
unfolding no_counts
noting_start f flow held n all z a =
    subst (Noting f flow held (nothing_noted all)) (sym z)
    (record {
      common_long = length-replicate 64 all;
      common_is = λ x l.
          subst (λ (c : ℕ). Folding (meet f flow held x) (firsts (locks f)) (statements f) c (statements f)) (sym (at x l ∙ a))
          (folding_start (meet f flow held x) (firsts (locks f)) (statements f));
      counts_is =
          subst (λ (c : Counts). Folding (add f flow held) (no_counts 64) (statements f) c (statements f)) (sym none)
          (folding_start (add f flow held) (no_counts 64) (statements f));
    })
  where
    at : (x : ℕ) → x < 64 → get_or (replicate 64 all) x 0 ≡ all
    at x l = get_or-replicate 64 x all 0 l

    zeros : replicate {A = ℕ} 64 0 ≡ tabulate 64 (λ x. 0)
    zeros = is_tabulate 64 (λ x. 0) (replicate {A = ℕ} 64 0) 0 (length-replicate {A = ℕ} 64 0) (λ k b. zeros_at 64 k)

    none : counts_in (nothing_noted all) ≡ no_counts 64
    none = ap₂ (λ (r w : List ℕ). record { reads = r; writes = w }) zeros zeros

module _ {f : List ℤ} {flow held : List ℕ} {noted : Noted} {s : ℕ} (n : Noting f flow held noted s) where
  -- the counts are the walk's, as far as it has come
  walked_here : counts_in noted ≡ walk_from (own_by f flow) 64 s (statements f - s)
  walked_here = n.counts_is.joined ∙ fold_walk (own_by f flow) 64 s (statements f - s)

  -- a count is small
  pub noting_few : statements f ≤ 512 → CountsFew noted
  noting_few most w x l = at w
    where
      few : (get_or (counts_in noted).reads x 0 ≤ statements f - s) × (get_or (counts_in noted).writes x 0 ≤ statements f - s)
      few =
          subst (λ (c : Counts). (get_or c.reads x 0 ≤ statements f - s) × (get_or c.writes x 0 ≤ statements f - s)) (sym walked_here)
          (walk_few (own_by f flow) 64 s (statements f - s) x l)

      at : (w : Bool) → get_or (counts_of w noted) x 0 < 2 ^ 32
      at false = omega (arith, few.0, most)
      at true = omega (arith, few.1, most)

  module _ {noted' : Noted} (p : 0 < s) (at : NotedAt (λ w. own_by f flow w (s - 1)) (get_or held (s - 1) 0) noted noted') where
    common_next : (x : ℕ) → x < 64 → (b : Bool) → (has (own_by f flow reading (s - 1)) x || has (own_by f flow writing (s - 1)) x) ≡ b
        → get_or noted'.common x 0 ≡ inter (held_at f flow held x (s - 1)) (get_or noted.common x 0)
    unfolding held_at accesses
    common_next x l true e = at.common_is x l ∙ rw e
    common_next x l false e =
        at.common_is x l ∙ rw e
        (sym (inter_all (firsts (locks f)) (get_or noted.common x 0)
        (λ i h. fold_within (firsts (locks f)) s (statements f - s) (held_at f flow held x) i (sym (ap (λ (m : ℕ). has m i) (n.common_is x l).joined) ∙ h))))

    pub noting_next : Noting f flow held noted' (s - 1)
    noting_next = record {
      common_long = at.common_long;
      common_is = λ x l.
          subst (λ (c : ℕ). Folding (meet f flow held x) (firsts (locks f)) (statements f) c (s - 1)) (sym (common_next x l _ refl))
          (folding_next (meet f flow held x) (firsts (locks f)) (statements f) (get_or noted.common x 0) s (n.common_is x l) p);
      counts_is =
          subst (λ (c : Counts). Folding (add f flow held) (no_counts 64) (statements f) c (s - 1)) (sym at.counts_is)
          (folding_next (add f flow held) (no_counts 64) (statements f) (counts_in noted) s n.counts_is p);
    }

  pub noting_done : s ≤ 0 → noted ≡ noted_by f flow held
  unfolding noted_by walk_by common_by
  noting_done z =
      ap₂ (λ (l : List ℕ) (c : Counts). record { common = l; reads = c.reads; writes = c.writes })
      (is_tabulate 64 _ noted.common 0 n.common_long
      (λ x l.
      folding_done (meet f flow held x) (firsts (locks f)) (statements f) (get_or noted.common x 0) s (n.common_is x l) z
      ∙ fold_inter (firsts (locks f)) 0 (statements f) (held_at f flow held x)))
      (folding_done (add f flow held) (no_counts 64) (statements f) (counts_in noted) s n.counts_is z ∙ fold_walk (own_by f flow) 64 0 (statements f))
