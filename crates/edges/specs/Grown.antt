-- What one more part leaves in a list of edges. Assumes nothing.
use Rattle.std.specs.Prelude.{◌≡◌, ℕ, ℤ, ◌+◌, ◌-◌, ◌^◌, ◌≤◌, ◌<◌, min, length, take, drop, map, List}
use Rattle.std.proofs.Common.{◌∙◌, sym, ap, ap₂, arith, length-append}
use mathlib.Core.Path.{refl}
use mathlib.Core.List.Memᴰ
use Rattle.std.proofs.lemmas.List.{length-map, take-map, drop-map}
use Rattle.std.proofs.Math.Seq.{take-append_seam, drop-append_seam}
use Rattle.std.proofs.Math.Decide.{dec_lt}
use mathlib.Core.List.{[], ◌∷◌, ◌++◌, Memᴰ}
use Rattle.sets.specs.Least.{Edge, edge_of}
use Rattle.sets.proofs.AppendLaws.{Room, room_left, appended_none, appended_both, appended_same}
use Rattle.table.specs.Header.{statements}
use Rattle.table.specs.Table.{table_of}
use Rattle.table.proofs.LookupLaws.{statements_length}
use Rattle.std.specs.Borrow.{MutBor}
use Rattle.report.specs.Layout.{owner_of}
use Rattle.report.specs.Over.{joined_from}
use Rattle.report.proofs.OverLaws.{joined_next}
use Rattle.edges.specs.Equations.{Equation, edge, edges_at, edges_for}
use Rattle.edges.specs.EdgeLaws.{Appended, Holds, listed}
use Rattle.edges.specs.declared.list.EdgeList.{EdgeList}

-- the list is in the same room, and has these edges behind those that it had
pub record Grown (a b : EdgeList) (new : List Edge) : Type 0 where
  pub same : b.room.ghost_name ≡ a.room.ghost_name
  pub appended : Appended a.room.now a.used b.room.now b.used new

pub grown_none : {a : EdgeList} → Grown a a []
grown_none = record { same = refl; appended = appended_none }

pub grown_both : {a b c : EdgeList} {x y : List Edge} → Grown a b x → Grown b c y → Grown a c (x ++ y)
grown_both p q = record { same = q.same ∙ p.same; appended = appended_both p.appended q.appended }

pub grown_same : {a b : EdgeList} {x y : List Edge} → x ≡ y → Grown a b x → Grown a b y
grown_same e p = record { same = p.same; appended = appended_same _ _ e p.appended }

-- a place past 16 bits goes into no edge, however far past
pub grown_far : {a b : EdgeList} {f n m : ℕ} → n ≡ min m (2 ^ 64 - 1) → Grown a b (edge f n ∷ []) → Grown a b (edge f m ∷ [])
grown_far {a} {b} {f} {n} {m} e g = go (dec_lt m 65536)
  where
    go : Dec (m < 65536) → Grown a b (edge f m ∷ [])
    go (yes l) = let same : n ≡ m = omega (arith, e) in grown_same (ap {B = List Edge} (λ (k : ℕ). edge f k ∷ []) same) g
    go (no l) = record {
      same = g.same;
      appended = record { same = g.appended.same; then = λ k es h r. absurd (l (r.small (edge f m) (Memᴰ.append_right es (Memᴰ.head refl))).to) };
    }

-- a loop that appends a part for each number
pub record Growing (part : ℕ → List Edge) (end : ℕ) (a b : EdgeList) (i : ℕ) : Type 0 where
  pub so_far : Grown a b (joined_from 0 i part)
  pub inside : i ≤ end

pub growing_start : (part : ℕ → List Edge) (end : ℕ) {a : EdgeList} → Growing part end a a 0
unfolding joined_from
growing_start part end = record { so_far = grown_none; inside = omega arith }

pub growing_next : {part : ℕ → List Edge} {end : ℕ} {a b c : EdgeList} {i : ℕ} → Growing part end a b i → i < end → Grown b c (part i) → Growing part end a c (i + 1)
growing_next {part} {i = i} g l h = record { so_far = grown_same (joined_next i part) (grown_both g.so_far h); inside = omega arith }

pub growing_done : {part : ℕ → List Edge} {end : ℕ} {a b : EdgeList} {i : ℕ} → Growing part end a b i → end ≤ i → Grown a b (joined_from 0 end part)
growing_done {part} {end} {i = i} g l = let e : i ≡ end = omega (arith, g.inside) in grown_same (ap {B = List Edge} (λ (j : ℕ). joined_from 0 j part) e) g.so_far

pub growing_over : {part : ℕ → List Edge} {end n : ℕ} {a b : EdgeList} {i : ℕ} → end ≡ n → Growing part end a b i → end ≤ i → Grown a b (joined_from 0 n part)
growing_over {part} e g l = grown_same (ap {B = List Edge} (λ (j : ℕ). joined_from 0 j part) e) (growing_done g l)

-- an equation's edges are those of all statements
pub every_edge : (q : Equation) (f : List ℤ) {a b : EdgeList} → Grown a b (joined_from 0 (statements f) (edges_at q (table_of f))) → Grown a b (edges_for q (table_of f))
unfolding edges_for
every_edge q f g = grown_same (ap {B = List Edge} (λ (m : ℕ). joined_from 0 m (edges_at q (table_of f))) (sym (statements_length f))) g

-- ---- the list as the solver takes it

-- the edges that are in it
abbrev pub edges_in : EdgeList → List Edge
edges_in x = map edge_of (take x.used x.room.now)

abbrev pub nothing : (a : ℕ) {x : List ℕ} {n : ℕ} → n ≡ 0 → length x ≡ a → Holds a (listed x n) []
nothing a e l = record { count = e; long = l; is = rw e refl }

-- it has these edges, all in its room
pub record Filled (b : EdgeList) (es : List Edge) : Type 0 where
  pub there : b.used ≤ length b.room.now
  pub is : edges_in b ≡ es

-- whatever stood in the room before
pub filled : {a b : EdgeList} {es : List Edge} → a.used ≡ 0 → Grown a b es → Room (length a.room.now) es → Filled b es
filled {a} e g r =
    let h = g.appended.then (length a.room.now) [] (nothing (length a.room.now) e refl) r in
    record { there = omega (arith, h.count, h.long, r.room); is = h.is }

-- first some edges, then others
pub record Halves (n : ℕ) (x : List ℕ) (p q : List Edge) : Type 0 where
  pub inside : n ≤ length x
  pub first : map edge_of (take n x) ≡ p
  pub second : map edge_of (drop n x) ≡ q

halves : {n : ℕ} {x : List ℕ} {p q : List Edge} → n ≡ length p → map edge_of x ≡ p ++ q → Halves n x p q
halves {n} {x} {p} {q} e h = record {
  inside = omega (arith, e, length-map x edge_of, ap length h, length-append p q);
  first = sym (take-map edge_of n x) ∙ ap₂ {C = List Edge} (λ (k : ℕ) (l : List Edge). take k l) e h ∙ take-append_seam p q;
  second = sym (drop-map edge_of n x) ∙ ap₂ {C = List Edge} (λ (k : ℕ) (l : List Edge). drop k l) e h ∙ drop-append_seam p q;
}

pub parts : {a b c : EdgeList} {p q : List Edge} → a.used ≡ 0 → Grown a b p → Grown b c q → Room (length a.room.now) (p ++ q)
    → Halves b.used (take c.used c.room.now) p q
parts {a} {p = p} {q} e g h r =
    let k = length a.room.now in
    let first = g.appended.then k [] (nothing k e refl) (room_left k p q r) in
    halves first.count (h.appended.then k p first r).is

-- ---- calls that append

-- each call for a statement, with its routine, appends the statement's part
abbrev pub Appends : (MutBor EdgeList → ℕ → ℕ → Unit {0} → MutBor EdgeList → Type 0) → List ℤ → (ℕ → List Edge) → Type 0
Appends post f part = (x y : MutBor EdgeList) (s c : ℕ) → s < statements f → c ≡ owner_of (table_of f) s → post x s c tt y → Grown x.now y.now (part s)
