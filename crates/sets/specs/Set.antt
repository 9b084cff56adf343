-- Sets of numbers below 64, each as one number: what the operations are. Assumes nothing.
use Rattle.std.specs.Prelude.{Bool, true, false, Option, Some, None, ℕ, ◌-◌, ◌/◌, ◌%◌, ◌^◌, min, eqb, ltb}
use Rattle.std.specs.Int.Bits.{bit_or, bit_and, bit_xor}
use Rattle.std.specs.Int.Count.{ones_in, count_trailing_zeros}

-- i is an element of s: bit i of s is 1
unfoldable pub has : ℕ → ℕ → Bool
has s i = eqb (s / 2 ^ i % 2) 1

-- the first n elements, all 64 if n is more
unfoldable pub firsts : ℕ → ℕ
firsts n = 2 ^ min n 64 - 1

-- the one element i; no element if i is 64 or more
unfoldable pub one : ℕ → ℕ
one i = elim (ltb i 64) [ true ↦ 2 ^ i | false ↦ 0 ]

-- what is in a or in b
unfoldable pub union : ℕ → ℕ → ℕ
union a b = bit_or a b

-- what is in a and in b
unfoldable pub inter : ℕ → ℕ → ℕ
inter a b = bit_and a b

-- what is in a and not in b
unfoldable pub minus : ℕ → ℕ → ℕ
minus a b = bit_xor a (bit_and a b)

-- s and the element i
unfoldable pub with : ℕ → ℕ → ℕ
with s i = union s (one i)

-- all of a is in b
unfoldable pub subset : ℕ → ℕ → Bool
subset a b = eqb (union a b) b

-- s has no element
unfoldable pub is_empty : ℕ → Bool
is_empty s = eqb s 0

-- how many elements s has
unfoldable pub count : ℕ → ℕ
count s = ones_in 64 s

-- s has exactly one element
unfoldable pub is_single : ℕ → Bool
is_single s = eqb (count s) 1

-- the one element of s, if it has exactly one
unfoldable pub only : ℕ → Option ℕ
only s = elim (is_single s) [ true ↦ Some (count_trailing_zeros 64 s) | false ↦ None ]

-- the lowest element of s, if it has one
unfoldable pub lowest : ℕ → Option ℕ
lowest s = elim (is_empty s) [ true ↦ None | false ↦ Some (count_trailing_zeros 64 s) ]
