-- Sets filled in, and turned round. Assumes nothing.
use Rattle.std.specs.Prelude.{◌≡◌, refl, Bool, ℤ, set, take, replicate}
use Rattle.std.proofs.Math.Path.{sym, ap, ap₂}
use Rattle.std.proofs.Common.{◌∙◌, le_refl, get_or-take, lt-ltb, le-ltb}
use mathlib.Core.List.{List, ◌++◌}
use Prim.Native.Nat.{ℕ, ◌+◌, ◌-◌, ◌^◌, ◌≤◌, ◌<◌}
use native.Mathlib.Omega.{arith}
use Rattle.std.proofs.Math.ListN.{length, get_or, length-replicate}
use Rattle.std.proofs.Math.Seq.{length-take-le, take-append_seam}
use Rattle.sets.specs.Set.{firsts, minus}
use Rattle.sets.specs.Least.{Edge, least}
use Rattle.table.specs.Header.{locks, handles, routines, statements}
use Rattle.table.specs.Table.{Table, table_of}
use Rattle.table.specs.Tabulate.{tabulate}
use Rattle.table.specs.TabulateLaws.{Filled}
use Rattle.table.proofs.TabulateLaws.{Rewritten, rewritten_next, rewritten_all, zeros_at, length_tabulate, get_d_tabulate, is_tabulate}
use Rattle.table.proofs.LookupLaws.{handles_length, routines_length, statements_length}
use Rattle.table.specs.Accepted.{Accepted}
use Rattle.report.specs.Greatest.{leaving}
use Rattle.report.specs.Layout.{one_each}
use Rattle.report.proofs.OneEach.{one_each_fits}
use Rattle.report.specs.Held.{all_locks, only_lock, held_sets}
use Rattle.lock_edges.specs.declared.Bases.{Bases}
use Rattle.held_edges.specs.TableEdges.{bases_of}
use Rattle.held_edges.specs.HeldEdges.{place_count, start_at, held_edges, held_out}
use Rattle.held_edges.specs.HeldEdgeLaws.{out_length, held_is_left}
use Rattle.lockset.specs.Start.{start_in}

-- ---- sets turned round

pub turned_next : (all : ℕ) (s₀ : List ℕ) {s : List ℕ} {p v : ℕ} → Rewritten (leaving all s₀) s₀ s p → p < length s → v ≡ minus all (get_or s p 0)
    → Rewritten (leaving all s₀) s₀ (set s p v) (p + 1)
unfolding leaving
turned_next all s₀ {p = p} t l e = rewritten_next t l (e ∙ ap (minus all) (t.rest p (le_refl p)))

pub turned_done : (all : ℕ) (s₀ : List ℕ) {s : List ℕ} {p : ℕ} → Rewritten (leaving all s₀) s₀ s p → length s ≤ p → s ≡ tabulate (length s₀) (leaving all s₀)
turned_done all s₀ t h = rewritten_all t (λ k l m. absurd (omega (arith, t.filled.long)))

-- ---- the start

module _ (flow given : List ℕ) (b : Bases) (all p : ℕ) where
  pub in_early : p < b.given → start_in flow given b all p ≡ 0
  unfolding start_in
  in_early l = rw (lt-ltb p b.given l)

  pub in_given : b.given ≤ p → p < b.flow → get_or given (p - b.given) 0 ≡ start_in flow given b all p
  unfolding start_in
  in_given l m = rw (le-ltb p b.given l, lt-ltb p b.flow m)

  pub in_flow : b.given ≤ p → b.flow ≤ p → p < b.other → get_or flow (p - b.flow) 0 ≡ start_in flow given b all p
  unfolding start_in
  in_flow l m n = rw (le-ltb p b.given l, le-ltb p b.flow m, lt-ltb p b.other n)

  pub in_other : b.given ≤ p → b.flow ≤ p → b.other ≤ p → p < b.every → minus all (only_lock (get_or flow (p - b.other) 0)) ≡ start_in flow given b all p
  unfolding start_in
  in_other l m n o = rw (le-ltb p b.given l, le-ltb p b.flow m, le-ltb p b.other n, lt-ltb p b.every o)

  pub in_every : b.given ≤ p → b.flow ≤ p → b.other ≤ p → b.every ≤ p → all ≡ start_in flow given b all p
  unfolding start_in
  in_every l m n o = rw (le-ltb p b.given l, le-ltb p b.flow m, le-ltb p b.other n, le-ltb p b.every o)

-- zeros are filled as far as nothing is left out
pub start_filled : (flow given : List ℕ) (b : Bases) (all : ℕ) (s : List ℕ) → s ≡ replicate (length s) 0 → Filled (start_in flow given b all) s (length s) b.given
start_filled flow given b all s z = record {
  long = refl;
  holds = λ k l. ap (λ (r : List ℕ). get_or r k 0) z ∙ zeros_at (length s) k ∙ sym (in_early flow given b all k l);
}

pub zeros_own : {s : List ℕ} (n : ℕ) → s ≡ replicate n 0 → s ≡ replicate (length s) 0
zeros_own n z = z ∙ ap (λ (m : ℕ). replicate m 0) (sym (ap length z ∙ length-replicate n 0))

-- ---- the whole

pub locks_are : (f : List ℤ) → firsts (locks f) ≡ all_locks (table_of f)
unfolding table_of
locks_are f = refl

module _ (f : List ℤ) (acc : Accepted (table_of f)) (mode : Bool) (flow : List ℕ) (below : (i : ℕ) → get_or flow i 0 < 2 ^ 64)
    (given : List ℕ) (Given_below : (i : ℕ) → get_or given i 0 < 2 ^ 64) where
  abbrev t : Table
  t = table_of f

  count_is : (bases_of f).every + 1 ≡ place_count (one_each t)
  unfolding one_each
  count_is = rw (handles_length f, routines_length f, statements_length f)

  start_at_is : (p : ℕ) → start_in flow given (bases_of f) (all_locks t) p ≡ start_at t (one_each t) flow given p
  unfolding start_in start_at one_each
  start_at_is p =
      let a : statements f + routines f + 0 ≡ statements f + routines f = omega arith in
      let b : statements f + routines f + routines f + 0 ≡ statements f + routines f + routines f = omega arith in
      let c : statements f + routines f + routines f + handles f + 0 ≡ statements f + routines f + routines f + handles f = omega arith in
      rw (handles_length f, routines_length f, statements_length f, a, b, c)

  start_is : tabulate ((bases_of f).every + 1) (start_in flow given (bases_of f) (all_locks t)) ≡ tabulate (place_count (one_each t)) (start_at t (one_each t) flow given)
  start_is =
      is_tabulate (place_count (one_each t)) (start_at t (one_each t) flow given) _ 0 (length_tabulate ((bases_of f).every + 1) _ ∙ count_is)
      (λ p l. get_d_tabulate ((bases_of f).every + 1) _ p 0 (omega (arith, count_is)) ∙ start_at_is p)

  -- what the solver leaves
  pub out_is : {out₁ out₂ : List ℕ} {es : List Edge} {n all : ℕ} {b : Bases} → n ≡ (bases_of f).every + 1 → b ≡ bases_of f → all ≡ all_locks t
      → out₁ ≡ tabulate n (start_in flow given b all) → es ≡ held_edges t (one_each t) mode
      → out₂ ≡ least es out₁ → out₂ ≡ held_out t (one_each t) mode flow given
  unfolding held_out
  out_is e i a o r l =
      l ∙ ap₂ (λ (es : List Edge) (s : List ℕ). least es s) r
      (o ∙ ap₂ (λ (m : ℕ) (g : ℕ → ℕ). tabulate m g) e (ap₂ (λ (c : Bases) (y : ℕ). start_in flow given c y) i a) ∙ start_is)

  -- and what is left when its first places are turned round
  held_is : {out turned : List ℕ} {all m : ℕ} → out ≡ held_out t (one_each t) mode flow given → all ≡ all_locks t → m ≡ statements f → m ≤ length out
      → turned ≡ tabulate (length (take m out)) (leaving all (take m out)) → turned ≡ held_sets t (one_each t) mode flow given
  unfolding leaving one_each
  held_is {out} {turned} {all} {m} o i e l y =
      y
      ∙ is_tabulate (length t.statements) (leaving (all_locks t) (held_out t (one_each t) mode flow given)) _ 0
      (length_tabulate (length (take m out)) _ ∙ long)
      (λ p h.
      get_d_tabulate (length (take m out)) _ p 0 (omega (arith, long))
      ∙ ap₂ minus i (get_or-take m out p 0 (omega (arith, statements_length f)) ∙ ap (λ (r : List ℕ). get_or r p 0) o))
      ∙ sym (held_is_left t (one_each t) acc (one_each_fits t acc) mode flow below given Given_below)
    where
      long : length (take m out) ≡ length t.statements
      long = length-take-le m out l ∙ e ∙ sym (statements_length f)

  pub out_long : {out : List ℕ} {m : ℕ} → out ≡ held_out t (one_each t) mode flow given → m ≡ statements f → m ≤ length out
  unfolding one_each
  out_long o e =
      let l = ap length o ∙ out_length t (one_each t) acc (one_each_fits t acc) mode flow below given Given_below in
      omega (arith, l, statements_length f)

  pub held_front : {out turned : List ℕ} (rest : List ℕ) {all m : ℕ} → out ≡ held_out t (one_each t) mode flow given → all ≡ all_locks t → m ≡ statements f
      → turned ≡ tabulate (length (take m out)) (leaving all (take m out)) → take (statements f) (turned ++ rest) ≡ held_sets t (one_each t) mode flow given
  held_front {out} {turned} rest {all} {m} o i e y =
      let long : length turned ≡ m = ap length y ∙ length_tabulate (length (take m out)) _ ∙ length-take-le m out (out_long o e) in
      ap (λ (n : ℕ). take n (turned ++ rest)) (sym (long ∙ e)) ∙ take-append_seam turned rest ∙ held_is o i e (out_long o e) y
