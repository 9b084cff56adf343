-- A list of empty sets, whose last one is marked. Assumes nothing.
use Rattle.std.specs.Prelude.{ℕ, ◌+◌, ◌-◌, ◌<◌, ◌≡◌, refl, cond, List, eqb, length, set, replicate}
use Rattle.std.proofs.Common.{sym, ap, ◌∙◌, arith, ne_eqb, eq-eqb}
use Rattle.std.proofs.lemmas.List.{length-replicate}
use Rattle.table.specs.Tabulate.{tabulate}
use Rattle.table.specs.TabulateLaws.{Filled}
use Rattle.table.proofs.TabulateLaws.{filled_next, filled_all, zeros_at}
use Rattle.report.specs.Preceded.{marked}

-- what stands at place p of n empty sets with the marked one behind
abbrev mark : ℕ → ℕ → ℕ
mark n p = cond (eqb p n) 1 0

mark_last : (n m : ℕ) → m ≡ n + 1 → set (replicate m 0) n 1 ≡ marked n
unfolding marked
mark_last n m e =
    let zeros : Filled (mark n) (replicate m 0) m n = record { long = length-replicate m 0; holds = λ k b. zeros_at m k ∙ sym (rw (ne_eqb k n (λ q. omega arith))) } in
    filled_all (mark n) (set (replicate m 0) n 1) m (n + 1) (filled_next (mark n) (replicate m 0) m n 1 zeros (omega arith) (rw (eq-eqb n n refl))) (omega arith)
    ∙ ap {B = List ℕ} (λ (k : ℕ). tabulate k (mark n)) e

-- the last of m empty sets
pub marked_is : (m : ℕ) → 0 < m → {out : List ℕ} → out ≡ replicate m 0 → set out (length out - 1) 1 ≡ marked (m - 1)
marked_is m l e = rw (e, length-replicate {A = ℕ} m 0) (mark_last (m - 1) m (omega arith))
