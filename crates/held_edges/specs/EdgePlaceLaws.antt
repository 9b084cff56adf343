-- The places that a statement's edges come from and lead to. Assumes nothing.
use Rattle.std.specs.Prelude.{ℕ, ◌≤◌, ◌<◌, ◌≡◌, Bool, Option, Some, None}
use Rattle.std.proofs.Math.Path.{refl, ap}
use Rattle.std.proofs.Common.{sym}
use native.Mathlib.Omega.{arith}
use Rattle.table.specs.Table.{Table, routine, statement, OwnHandle}
use Rattle.table.specs.View.{view, on_or, calls, takes_in}
use Rattle.table.proofs.ViewLaws.{calls_names, taken_takes}
use Rattle.table.specs.Accepted.{Accepted, Names, Operands}
use Rattle.report.specs.Layout.{Layout}
use Rattle.report.specs.Fits.{Fits, copies_of}
use Rattle.report.specs.Held.{entry}
use Rattle.report.proofs.NextLaws.{goes_placed}
use Rattle.report.proofs.PlaceLaws.{placed}
use Rattle.report.specs.Rules.{Place, Goes}
use Rattle.held_edges.specs.HeldEdges.{back_place, other_place, place_count, met_place}

module _ (t : Table) (k : Layout) (acc : Accepted t) (fits : Fits t k) where
  pub place_there : (c s : ℕ) → Place (copies_of fits) c s → k.statement_place c s < k.statements
  place_there c s v = (placed t k fits c s v).there

  first_place : (c : ℕ) → c < k.copies → Place (copies_of fits) c (routine t (k.routine_of c)).first
  first_place c l =
      let h : 1 ≤ (routine t (k.routine_of c)).count = (acc.routine_facts (k.routine_of c) (fits.of_there c l)).some_statement in
      record { there = l; inside = record { low = omega arith; high = omega arith } }

  pub entry_there : (c : ℕ) → c < k.copies → entry t k c < k.statements
  unfolding entry
  entry_there c l = place_there c _ (first_place c l)

  pub handle_there : (c h : ℕ) → c < k.copies → OwnHandle t (k.routine_of c) h → k.handle_place c h < k.handles
  handle_there c h l o = (fits.handle_placed c h l o).there

  module _ (c s : ℕ) (v : Place (copies_of fits) c s) where
    pub operands_of : Operands t (k.routine_of c) (statement t s)
    operands_of = acc.operands (k.routine_of c) s (fits.of_there c v.there) v.inside

    pub next_there : (n : ℕ) → Goes s (statement t s) n → k.statement_place c n < place_count k
    next_there n g = let l : k.statement_place c n < k.statements = place_there c n (goes_placed t k acc fits c s n v g) in omega arith

    pub leads_there : (q : ℕ) → Names (statement t s) q → k.leads c s < k.copies
    leads_there q n = fits.leads_there c s q v.there v.inside n

    pub enters : (q : ℕ) → Names (statement t s) q → k.statement_place (k.leads c s) (routine t q).first ≡ entry t k (k.leads c s)
    unfolding entry
    enters q n = ap (λ (r : ℕ). k.statement_place (k.leads c s) (routine t r).first) (sym (fits.leads_of c s q v.there v.inside n))

    pub met_there : (mode : Bool) → met_place k mode (k.statement_place c s) c s (statement t s) < place_count k
    unfolding met_place
    met_there mode = go (takes_in mode (view (statement t s))) refl (calls (view (statement t s))) refl
      where
        go : (r : Option ℕ) → takes_in mode (view (statement t s)) ≡ r → (u : Option ℕ) → calls (view (statement t s)) ≡ u
            → on_or r (λ h. other_place k (k.handle_place c h)) (on_or u (λ q. back_place k (k.leads c s)) (k.statement_place c s)) < place_count k
        go (Some h) e u i = let l : k.handle_place c h < k.handles = handle_there c h v.there (operands_of.takes h (taken_takes mode (view (statement t s)) e)).own in omega arith
        go None e (Some q) i = let l : k.leads c s < k.copies = leads_there q (calls_names (view (statement t s)) i) in omega arith
        go None e None i = let l : k.statement_place c s < k.statements = place_there c s v in omega arith
