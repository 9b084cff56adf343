-- What stands at each place at the start. Assumes nothing.
use Rattle.std.specs.Prelude.{ℕ, ◌-◌, ◌^◌, ◌<◌, ◌≡◌, Bool, true, false, cond, List, ltb, get_or}
use native.Mathlib.Omega.{arith}
use borrow.Author.Tests.{lt-ltb, le-ltb}
use Rattle.sets.specs.Set.{minus}
use Rattle.sets.proofs.SetLaws.{firsts_below, minus_below}
use Rattle.table.specs.Table.{Table}
use Rattle.report.specs.Layout.{Layout}
use Rattle.report.specs.Held.{all_locks, only_lock}
use Rattle.held_edges.specs.HeldEdges.{given_place, flow_place, other_place, every_place, start_at}

module _ (t : Table) (k : Layout) (flow given : List ℕ) where
  pub start_early : (p : ℕ) → p < given_place k 0 → start_at t k flow given p ≡ 0
  unfolding start_at
  start_early p l = rw (lt-ltb p (given_place k 0) l)

  pub start_given : (c : ℕ) → c < k.copies → start_at t k flow given (given_place k c) ≡ get_or given c 0
  unfolding start_at
  start_given c l =
      let e : given_place k c - given_place k 0 ≡ c = omega arith in
      rw (le-ltb (given_place k c) (given_place k 0) (omega arith), lt-ltb (given_place k c) (flow_place k 0) (omega arith), e)

  pub start_flow : (h : ℕ) → h < k.handles → start_at t k flow given (flow_place k h) ≡ get_or flow h 0
  unfolding start_at
  start_flow h l =
      let e : flow_place k h - flow_place k 0 ≡ h = omega arith in
      rw (le-ltb (flow_place k h) (given_place k 0) (omega arith), le-ltb (flow_place k h) (flow_place k 0) (omega arith), lt-ltb (flow_place k h) (other_place k 0) (omega arith), e)

  pub start_other : (h : ℕ) → h < k.handles → start_at t k flow given (other_place k h) ≡ minus (all_locks t) (only_lock (get_or flow h 0))
  unfolding start_at
  start_other h l =
      let e : other_place k h - other_place k 0 ≡ h = omega arith in
      rw (
        le-ltb (other_place k h) (given_place k 0) (omega arith),
        le-ltb (other_place k h) (flow_place k 0) (omega arith),
        le-ltb (other_place k h) (other_place k 0) (omega arith),
        lt-ltb (other_place k h) (every_place k) (omega arith),
        e,
      )

  pub start_every : start_at t k flow given (every_place k) ≡ all_locks t
  unfolding start_at
  start_every =
      rw (
        le-ltb (every_place k) (given_place k 0) (omega arith),
        le-ltb (every_place k) (flow_place k 0) (omega arith),
        le-ltb (every_place k) (other_place k 0) (omega arith),
        le-ltb (every_place k) (every_place k) (omega arith),
      )

  module _ (flow_below : (i : ℕ) → get_or flow i 0 < 2 ^ 64) (Given_below : (i : ℕ) → get_or given i 0 < 2 ^ 64) where
    pick_below : (b : Bool) {x y : ℕ} → x < 2 ^ 64 → y < 2 ^ 64 → cond b x y < 2 ^ 64
    pick_below true h l = h
    pick_below false h l = l

    pub start_below : (p : ℕ) → start_at t k flow given p < 2 ^ 64
    unfolding start_at
    start_below p =
        pick_below (ltb p (given_place k 0)) (omega arith)
        (pick_below (ltb p (flow_place k 0)) (Given_below _)
        (pick_below (ltb p (other_place k 0)) (flow_below _)
        (pick_below (ltb p (every_place k)) (minus_below 64 _ (firsts_below t.locks)) (firsts_below t.locks))))
