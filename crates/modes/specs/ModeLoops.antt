-- What the loops over the two modes leave. Assumes nothing.
use Rattle.std.specs.Prelude.{◌≡◌, Option, Bool, not, List, ℕ, ◌+◌, ◌≤◌, ◌<◌, ℤ, length, get_or, set, take, drop, replicate}
use Rattle.std.proofs.Common.{refl, sym, ap₂, ◌∙◌, le_refl, arith, get_or-drop, length-take-le}
use Rattle.std.proofs.Math.Path.{ap}
use Rattle.std.proofs.lemmas.List.{length-replicate}
use Rattle.std.proofs.Math.Seq.{get_or-take}
use Rattle.table.specs.Header.{statements, statement_line}
use Rattle.table.specs.Fields.{field}
use Rattle.table.specs.Table.{statement_in, statement_of}
use Rattle.table.specs.TabulateLaws.{Filled}
use Rattle.table.proofs.TabulateLaws.{filled_all, Rewritten, rewritten_next, zeros_at, is_tabulate}
use Rattle.table.proofs.OperationLaws.{view_line}
use Rattle.table.specs.View.{view, on_or, takes_to_read}
use Rattle.table.specs.declared.View.{View}
use Rattle.modes.specs.Modes.{takes_to_write_alone, held_by}

-- ---- a list that is cleared

pub cleared : (s : List ℕ) (n p : ℕ) → Filled (λ k. 0) s n p → n ≤ p → s ≡ replicate n 0
cleared s n p f h =
    filled_all (λ k. 0) s n p f h ∙ sym (is_tabulate n (λ k. 0) (replicate n 0) 0 (length-replicate n 0) (λ k l. zeros_at n k))

-- ---- a statement by its line

module _ (f : List ℤ) {line : ℕ} (s : ℕ) (at : line ≡ statement_line f s) where
  view_at : view (statement_in f line (field f line 1)) ≡ view (statement_of f s)
  view_at = view_line f s at refl

  pub to_write_alone : {b : Bool} → b ≡ takes_to_read (view (statement_in f line (field f line 1))) → not b ≡ takes_to_write_alone f s
  unfolding takes_to_write_alone
  to_write_alone i = ap not (i ∙ ap takes_to_read view_at)

  pub writes_at : {r : Option ℕ} → r ≡ (view (statement_in f line (field f line 1))).writes → r ≡ (view (statement_of f s)).writes
  writes_at i = i ∙ ap (λ (v : View). v.writes) view_at

-- ---- rewritten in place

module _ (f : List ℤ) where
  -- what the loop leaves at each place, from the list before it
  abbrev pub way : List ℕ → ℕ → ℕ
  way w s = on_or (view (statement_of f s)).writes (λ h. get_or w (statements f + s) 0) (get_or w s 0)

  pub way_next : {w₀ w : List ℕ} {s n v : ℕ} → Rewritten (way w₀) w₀ w s → s < length w → n ≡ statements f
      → v ≡ on_or (view (statement_of f s)).writes (λ h. get_or w (n + s) 0) (get_or w s 0) → Rewritten (way w₀) w₀ (set w s v) (s + 1)
  way_next {w₀} {w} {s} {n} {v} r l e is =
      rewritten_next r l
      (is
      ∙ ap₂ {C = ℕ} (λ (x y : ℕ). on_or (view (statement_of f s)).writes (λ h. x) y) (ap (λ (m : ℕ). get_or w (m + s) 0) e ∙ r.rest (statements f + s) (omega arith))
      (r.rest s (le_refl s)))

  pub way_done : {w₀ w : List ℕ} {s : ℕ} → Rewritten (way w₀) w₀ w s → statements f ≤ s → statements f ≤ length w₀
      → take (statements f) w ≡ held_by f (drop (statements f) w₀) w₀
  unfolding held_by
  way_done {w₀} {w} r h l =
      is_tabulate (statements f) _ (take (statements f) w) 0 (length-take-le (statements f) w (omega (arith, r.filled.long)))
      (λ k b.
      get_or-take (statements f) w k 0 b ∙ r.filled.holds k (omega arith)
      ∙ ap {B = ℕ} (λ (x : ℕ). on_or (view (statement_of f k)).writes (λ h. x) (get_or w₀ k 0)) (sym (get_or-drop (statements f) w₀ k 0)))
