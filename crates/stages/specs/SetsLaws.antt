-- The sets of a table, each computed out of those before it, and how many there are of each. Assumes nothing.
use Rattle.std.specs.Prelude.{◌≡◌, true, false, cond, ℕ, ◌+◌, ◌*◌, ◌-◌, ◌≤◌, ℤ, length, get_or, take, drop}
use Rattle.std.proofs.Common.{sym, ◌∙◌, arith, get_or-take}
use Rattle.std.proofs.Math.Path.{ap, ap₂}
use mathlib.Core.List.{List, ◌++◌}
use borrow.Rule.Slice.PartMut.{put_mid, same_len_mid}
use Rattle.table.specs.Header.{routines, statements}
use Rattle.table.specs.Table.{Table, table_of}
use Rattle.table.specs.Accepted.{Accepted}
use Rattle.table.specs.Tabulate.{tabulate}
use Rattle.table.proofs.TabulateLaws.{tabulate_same, get_d_tabulate}
use Rattle.table.proofs.LookupLaws.{statements_length}
use Rattle.report.specs.Layout.{Layout, one_each}
use Rattle.report.specs.Flow.{flow_sets}
use Rattle.report.specs.Effect.{effects}
use Rattle.report.specs.Held.{all_locks}
use Rattle.report.specs.Future.{futures}
use Rattle.report.specs.Findings.{sets_of, own_held, own_holds}
use Rattle.report.specs.Preceded.{is_preceded}
use Rattle.findings.specs.Found.{sets_in, counted_holds}
use Rattle.table.proofs.FrontLaws.{part_long, put_first}
use Rattle.preceding.specs.LeaveLaws.{counted_at, preceded_in}

-- ---- the sets, each out of those before it

module _ (t : Table) where
  abbrev one : Layout
  one = one_each t

  pub flow_known : (a : List ℕ) → a ≡ flow_sets t one → a ≡ (sets_in t).flow
  unfolding sets_of
  flow_known a e = e

  module _ (flow : List ℕ) (is : flow ≡ (sets_in t).flow) where
    pub reads_known : (a : List ℕ) → a ≡ effects t one flow false → a ≡ (sets_in t).reads
    unfolding sets_of
    reads_known a e = e ∙ ap (λ (l : List ℕ). effects t one l false) is

    pub writes_known : (a : List ℕ) → a ≡ effects t one flow true → a ≡ (sets_in t).writes
    unfolding sets_of
    writes_known a e = e ∙ ap (λ (l : List ℕ). effects t one l true) is

    pub later_known : (reads writes a : List ℕ) → reads ≡ (sets_in t).reads → writes ≡ (sets_in t).writes
        → a ≡ futures t one flow reads false ++ futures t one flow writes true → a ≡ (sets_in t).future_reads ++ (sets_in t).future_writes
    unfolding sets_of
    later_known reads writes a r w e =
        e ∙ ap₂ {C = List ℕ} (λ (x y : List ℕ). x ++ y) (ap₂ {C = List ℕ} (λ (l m : List ℕ). futures t one l m false) is r)
        (ap₂ {C = List ℕ} (λ (l m : List ℕ). futures t one l m true) is w)

-- what counts for the common locks, from the held sets in the first places of a list
pub counted_known : (f : List ℤ) (work a : List ℕ) → take (statements f) work ≡ own_holds (table_of f) (one_each (table_of f)) (sets_in (table_of f))
    → a ≡ tabulate (statements f) (counted_at (table_of f) work (preceded_in (table_of f))) → a ≡ counted_holds (table_of f)
unfolding sets_of counted_holds own_holds one_each
counted_known f work a h e =
    e
    ∙ tabulate_same (statements f) _ _
    (λ s l.
    ap (λ (x : ℕ). cond (is_preceded (one_each (table_of f)) (preceded_in (table_of f)) s) x (all_locks (table_of f)))
    (sym (get_or-take (statements f) work s 0 l) ∙ ap (λ (x : List ℕ). get_or x s 0) h ∙ get_d_tabulate (length (table_of f).statements) _ s 0 (omega (arith, statements_length f))))
    ∙ ap (λ (n : ℕ). tabulate n (λ s. cond (is_preceded (one_each (table_of f)) (preceded_in (table_of f)) s) (own_held (table_of f) (one_each (table_of f)) (sets_in (table_of f)) s) (all_locks (table_of f)))) (sym (statements_length f))

-- ---- the futures behind the held sets: two for each statement and each routine, as the code has their number

module _ (f : List ℤ) (work : List ℕ) (n r : ℕ) (n_is : n ≡ statements f) (r_is : r ≡ routines f)
    (room : statements f + 2 * (statements f + routines f) ≤ length work) where
  abbrev many : ℕ
  many = n + 2 * (n + r) - n

  many_is : many ≡ 2 * (statements f + routines f)
  many_is = omega arith

  pub later_long : length (take many (drop n work)) ≡ 2 * (statements f + routines f)
  later_long = part_long n many work (omega (arith, many_is)) ∙ many_is

  -- the held sets stay, and there is room for what counts of them
  pub later_put : Accepted (table_of f) → (later : List ℕ) → length later ≡ length (take many (drop n work))
      → (take (statements f) (put_mid n many work later) ≡ take (statements f) work)
      × (statements f + (statements f + routines f + 1) ≤ length (put_mid n many work later))
  later_put acc later e = (
    put_first n many work (statements f) later n_is (omega arith),
    omega (arith, same_len_mid n many work later e, acc.statements_some, statements_length f),
  )

-- as many places from the middle of twice as many
pub second_half : (a : List ℕ) (n i : ℕ) → n ≡ i → take (n + n - n) (drop n a) ≡ take i (drop i a)
second_half a n i q =
    let twice : n + n - n ≡ i = omega arith in
    ap₂ {C = List ℕ} (λ (x y : ℕ). take x (drop y a)) twice q
