-- Round-robin passes: over the edges from the last to the first, each on what those before it have put, until a pass changes nothing. Assumes nothing.
use Rattle.std.specs.Prelude.{true, false, ℕ, zero, suc, ◌<◌}
use mathlib.Core.List.{List, [], ◌∷◌, Memᴰ}
use Rattle.sets.specs.Least.{Edge, along, same, room}

-- every edge once, from the last to the first
unfoldable pub pass_down : List Edge → List ℕ → List ℕ
pass_down [] s = s
pass_down (e ∷ es) s = along e (pass_down es s)

-- what k passes leave
unfoldable pub after : (List ℕ → List ℕ) → ℕ → List ℕ → List ℕ
after pass zero s = s
after pass (suc k) s = after pass k (pass s)

-- how many passes are made until one changes nothing, that one among them; at most so many
unfoldable pub counted : (List ℕ → List ℕ) → ℕ → List ℕ → ℕ
counted pass zero s = zero
counted pass (suc n) s = let p = pass s in elim (same p s) [ true ↦ 1 | false ↦ suc (counted pass n p) ]

-- how many passes are made until one changes nothing, that one among them
unfoldable pub passes_made : (List ℕ → List ℕ) → List ℕ → ℕ
passes_made pass s = counted pass (suc (room s)) s

-- the ends of every edge are among n places
pub record Among (n : ℕ) (es : List Edge) : Type 0 where
  pub from : (e : Edge) → Memᴰ e es → e.from < n
  pub to : (e : Edge) → Memᴰ e es → e.to < n
