-- The lowest number in a range at which a test fails: what a search for the first bad line answers. Assumes nothing.
use Rattle.std.specs.Prelude.{ℕ, zero, suc, Bool, true, false}
use Rattle.std.proofs.Math.Option.{Option, none, some}

-- the lowest failing line: the lowest i of from .. from + count - 1 that is not good, if there is one
unfoldable pub lowest : (ℕ → Bool) → ℕ → ℕ → Option ℕ
lowest good from zero = none
lowest good from (suc count) = elim (good from) [ true ↦ lowest good (suc from) count | false ↦ some from ]
