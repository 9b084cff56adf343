-- A list of edges that is filled from the front, part after part: what a loop over the parts leaves in it. Assumes nothing.
use Rattle.std.specs.Prelude.{ℕ, ◌+◌, ◌≤◌, ◌≡◌, refl, List, [], length}
use Rattle.std.proofs.Common.{subst, arith}
use Rattle.sets.specs.Least.{Edge, edges_of}
use Rattle.report.specs.Over.{joined_from}
use Rattle.report.proofs.OverLaws.{joined_next}
use Rattle.sets.proofs.AppendLaws.{Room, appended_same, appended_none, appended_both}
use Rattle.lock_edges.specs.Grown.{Same, met_edges, edges_in, Grown}
use Rattle.lock_edges.specs.declared.list.MetEdges.{MetEdges}

-- ---- a loop that appends a part for each number

-- the parts of the numbers below i are appended
pub record Growing (part : ℕ → List Edge) (x y : MetEdges) (i : ℕ) : Type 0 where
  pub so_far : Grown x y (joined_from 0 i part)

pub growing_start : (part : ℕ → List Edge) {x : MetEdges} → Growing part x x 0
unfolding joined_from
growing_start part = record { so_far = appended_none }

pub growing_next : {part : ℕ → List Edge} {x y z : MetEdges} {i : ℕ} → Growing part x y i → Grown y z (part i) → Growing part x z (i + 1)
growing_next {part} {i = i} g a = record { so_far = appended_same _ _ (joined_next i part) (appended_both g.so_far a) }

-- ---- the list as the solver takes it

-- it has these edges, all in its room
pub record Filled (y : MetEdges) (es : List Edge) : Type 0 where
  pub there : y.used ≤ length y.edges.now
  pub also_there : y.used ≤ length y.also.now
  pub is : edges_in y ≡ es

-- whatever stood in the room before
pub filled : {x y : MetEdges} {es : List Edge} (a : ℕ) → x.used ≡ 0 → a ≤ length x.edges.now → a ≤ length x.also.now → Grown x y es → Room a es → Filled y es
unfolding edges_of
filled {x} a e l m p r =
    let h = p.then a [] (record { count = e; long = l; also_long = m; is = rw e refl }) r in
    record { there = omega (arith, h.count, h.long, r.room); also_there = omega (arith, h.count, h.also_long, r.room); is = h.is }

-- ---- parts of a range of numbers

-- where the parts below i were appended, those below j are then
pub record Going (part : ℕ → List Edge) (x : MetEdges) (i : ℕ) (y : MetEdges) (j : ℕ) : Type 0 where
  pub same : Same x y
  pub then : (z : MetEdges) → Growing part z x i → Growing part z y j

pub going_start : {part : ℕ → List Edge} {x : MetEdges} {i j : ℕ} → i ≡ j → Going part x i x j
going_start {part} {x} e = record { same = met_edges.same_none x; then = λ z g. subst (Growing part z x) e g }

pub going_next : {part : ℕ → List Edge} {x y z : MetEdges} {i j : ℕ} → Going part x i y j → Grown y z (part j) → Going part x i z (j + 1)
going_next {x = x} {y} {z} g a = record { same = met_edges.same_both x y z g.same a.same; then = λ w h. growing_next (g.then w h) a }

pub going_both : {part : ℕ → List Edge} {x y z : MetEdges} {i j k : ℕ} → Going part x i y j → Going part y j z k → Going part x i z k
going_both {x = x} {y} {z} g h = record { same = met_edges.same_both x y z g.same h.same; then = λ w a. h.then w (g.then w a) }

pub going_as : {part : ℕ → List Edge} {x y : MetEdges} {i j i' j' : ℕ} → i ≡ i' → j ≡ j' → Going part x i y j → Going part x i' y j'
going_as {part} {x} {y} {i} {j} {i'} {j'} p q g = subst (λ (m : ℕ). Going part x m y j') p (subst (Going part x i y) q g)

-- all of them
pub going_done : {part : ℕ → List Edge} {x y : MetEdges} {n : ℕ} → Going part x 0 y n → Grown x y (joined_from 0 n part)
going_done {part} g = (g.then _ (growing_start part)).so_far
