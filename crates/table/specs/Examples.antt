-- Small examples, by computation, at which a near miss of a definition would say something else. Assumes nothing.
use Rattle.std.specs.Prelude.{◌≡◌, refl, List, [], ◌∷◌, true, false, ℕ, Err}
use Rattle.std.specs.Int.Count.{count_trailing_zeros}
use Rattle.sets.specs.Set.{has, one, union, minus, with, is_empty, lowest}
use Rattle.table.specs.Fields.{plain}
use Rattle.table.specs.Header.{header_ok, length_ok}
use Rattle.table.specs.Naming.{walk, reached, is_acyclic}
use Rattle.table.specs.Verdict.{numbers_verdict}
use Rattle.table.specs.declared.Refusal.TheVariants.{Header}

-- "each check runs over the whole text before the next": a bad header is refused by 3, though the lines are as many as it says, or not
header_first : numbers_verdict [] 1 ≡ Err Header
unfolding numbers_verdict header_ok length_ok plain
header_first = refl

header_first_still : numbers_verdict [] 2 ≡ Err Header
unfolding numbers_verdict header_ok length_ok plain
header_first_still = refl

-- routine 0 names 1, 1 names 2 and 2 names 1
leading_to_a_cycle : List ℕ
leading_to_a_cycle = 2 ∷ 4 ∷ 2 ∷ []

-- a routine that only leads to a cycle does not reach itself, those on it do
only_leads : is_acyclic leading_to_a_cycle 0 ≡ true
unfolding is_acyclic reached walk has one union minus with is_empty lowest count_trailing_zeros leading_to_a_cycle
only_leads = refl

on_the_cycle : is_acyclic leading_to_a_cycle 1 ≡ false
unfolding is_acyclic reached walk has one union minus with is_empty lowest count_trailing_zeros leading_to_a_cycle
on_the_cycle = refl
