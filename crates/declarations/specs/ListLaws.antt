-- The loops that note down where the routines' statements and handles stand: their invariants. Assumes nothing.
use Rattle.std.specs.Prelude.{◌≡◌, refl, List, ℕ, suc, ◌+◌, ◌-◌, ◌*◌, ◌^◌, ◌≤◌, ◌<◌, set, replicate, eqb, ℤ}
use Rattle.std.proofs.Common.{sym, ap, ap₂, ◌∙◌, zero-le, arith}
use Rattle.std.proofs.lemmas.List.{length-replicate}
use Rattle.table.specs.Until.{until}
use Rattle.table.specs.Fields.{field}
use Rattle.table.specs.Header.{handles, handle_line}
use Rattle.table.specs.Handles.{routine_of, origin_of, handles_from, parameters}
use Rattle.table.specs.Routines.{count_of, first_statement}
use Rattle.table.proofs.ExtentLaws.{first_next, handles_next}
use Rattle.table.specs.TabulateLaws.{Begun}
use Rattle.table.proofs.TabulateLaws.{begun_next, zeros_at}

-- ---- the first statements

pub record Summing (f : List ℤ) (a : List ℕ) (sum r : ℕ) : Type 0 where
  pub begun : Begun (first_statement f) a 33 (r + 1)
  pub is : sum ≡ first_statement f r
  pub small : sum ≤ r * 2 ^ 31
  pub few : r ≤ 32

-- the first place of zeros holds g's first value
first_place : (g : ℕ → ℕ) (n : ℕ) → g 0 ≡ 0 → Begun g (replicate (suc n) 0) (suc n) 1
first_place g n e = record {
  filled = record { long = length-replicate (suc n) 0; holds = λ k b. let z : k ≡ 0 = omega arith in zeros_at (suc n) k ∙ sym (ap g z ∙ e) };
  behind = λ k h. zeros_at (suc n) k;
}

pub summing_start : (f : List ℤ) → Summing f (replicate 33 0) 0 0
unfolding first_statement
summing_start f = record { begun = first_place (first_statement f) 32 refl; is = refl; small = zero-le; few = zero-le }

pub summing_next : (f : List ℤ) (a : List ℕ) (sum r n : ℕ) → Summing f a sum r → r < 32 → n ≡ count_of f r → n < 2 ^ 31
    → Summing f (set a (r + 1) (sum + n)) (sum + n) (r + 1)
summing_next f a sum r n s h e b =
    let v : sum + n ≡ first_statement f (r + 1) = ap₂ (λ (x y : ℕ). x + y) s.is e ∙ sym (first_next f r) in
    record {
      begun = begun_next (first_statement f) a 33 (r + 1) (sum + n) s.begun (omega arith) v;
      is = v;
      small = omega (arith, s.small);
      few = omega arith;
    }

-- ---- the first handles

pub record Skipping (f : List ℤ) (a : List ℕ) (h r : ℕ) : Type 0 where
  pub begun : Begun (handles_from f) a 33 (r + 1)
  pub is : h ≡ handles_from f r
  pub few : r ≤ 32

pub skipping_start : (f : List ℤ) → Skipping f (replicate 33 0) 0 0
unfolding handles_from
skipping_start f = record { begun = first_place (handles_from f) 32 refl; is = refl; few = zero-le }

pub skipping_next : (f : List ℤ) (a : List ℕ) (h r count x : ℕ) → Skipping f a h r → r < 32 → count ≡ handles f
    → x ≡ until (λ k. eqb (field f (handle_line k) 1) r) h (count - h) → Skipping f (set a (r + 1) x) x (r + 1)
skipping_next f a h r count x s l c e =
    let v : x ≡ handles_from f (r + 1) =
    e ∙ ap₂ (λ (from n : ℕ). until (λ k. eqb (routine_of f k) r) from (n - from)) s.is c ∙ sym (handles_next f r) in
    record { begun = begun_next (handles_from f) a 33 (r + 1) x s.begun (omega arith) v; is = v; few = omega arith }

-- ---- the parameters

pub parameters_is : (f : List ℤ) (r from end x : ℕ) → from ≡ handles_from f r → end ≡ handles_from f (r + 1)
    → x ≡ until (λ k. eqb (field f (handle_line k) 3) 0) from (end - from) → x - from ≡ parameters f r
unfolding parameters
parameters_is f r from end x a b e =
    ap (λ (y : ℕ). y - from) e
    ∙ ap₂ (λ (p q : ℕ). until (λ k. eqb (origin_of f k) 0) p (q - p) - p) a b
