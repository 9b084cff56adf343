-- Going through the statements once, each gets what its routine has. Assumes nothing.
use Rattle.std.specs.Prelude.{ℕ, ◌+◌, ◌≤◌, ◌<◌, ◌≡◌, List, ℤ, length, get_or, set}
use Rattle.std.proofs.Math.Path.{ap}
use Rattle.std.proofs.Common.{ap₂, ◌∙◌, le_refl, arith, lt-ltb, le-ltb}
use Rattle.sets.specs.Set.{union}
use Rattle.table.specs.Header.{routines, statements}
use Rattle.table.specs.Table.{table_of}
use Rattle.table.specs.Accepted.{Accepted}
use Rattle.table.specs.Tabulate.{tabulate}
use Rattle.table.proofs.TabulateLaws.{Rewritten, rewritten_none, rewritten_next, rewritten_all}
use Rattle.report.specs.Layout.{owner_of}
use Rattle.edges.specs.RoutineLaws.{Near, near_start}
use Rattle.future.specs.StageLaws.{with_group, spread}

-- the statements below p have what their routines have; c is the routine of the one before p
pub record Spreading (f : List ℤ) (s₀ s : List ℕ) (c p : ℕ) : Type 0 where
  pub near : Near f c p
  pub upto : p ≤ statements f
  pub sized : length s₀ ≡ statements f + routines f
  pub so_far : Rewritten (with_group (statements f) (owner_of (table_of f)) s₀) s₀ s p

pub spreading_start : (f : List ℤ) {s : List ℕ} → Accepted (table_of f) → length s ≡ statements f + routines f → Spreading f s s 0 0
spreading_start f {s} acc e = record { near = near_start f acc; upto = omega arith; sized = e; so_far = rewritten_none _ s }

module _ {f : List ℤ} {s₀ s : List ℕ} {c p : ℕ} (r : Spreading f s₀ s c p) where
  pub spreading_long : length s ≡ statements f + routines f
  spreading_long = r.so_far.filled.long ∙ r.sized

  pub spreading_next : {end c' v : ℕ} → end ≡ statements f → p < end → c' ≡ owner_of (table_of f) p → Near f c' (p + 1)
      → v ≡ union (get_or s p 0) (get_or s (end + c') 0) → Spreading f s₀ (set s p v) c' (p + 1)
  spreading_next {end} {c'} {v} is h o near e =
      let l : p < statements f = omega arith in
      record {
        near = near;
        upto = omega arith;
        sized = r.sized;
        so_far =
            rewritten_next r.so_far (omega (arith, spreading_long))
            (rw (lt-ltb p (statements f) l)
            (e ∙ ap₂ union (r.so_far.rest p (le_refl p)) (r.so_far.rest (end + c') (omega arith) ∙ ap₂ (λ (n q : ℕ). get_or s₀ (n + q) 0) is o)));
      }

  pub spreading_done : statements f ≤ p → s ≡ spread (statements f) (routines f) (owner_of (table_of f)) s₀
  unfolding spread
  spreading_done h =
      rewritten_all r.so_far (λ k l m. rw (le-ltb k (statements f) (omega arith)))
      ∙ ap (λ (n : ℕ). tabulate n (with_group (statements f) (owner_of (table_of f)) s₀)) r.sized
