-- An answer in one number, as include/station.h takes it apart; what can be answered comes back whole. Assumes nothing.
use Rattle.std.specs.Prelude.{ℕ, ◌+◌, ◌*◌, ◌/◌, ◌%◌, ◌<◌, ◌≡◌}
use Rattle.std.proofs.Common.{arith}

-- bytes below 2^32, the line from bit 32 on, the number from bit 48 on
unfoldable pub packed : ℕ → ℕ → ℕ → ℕ
packed number line bytes = number % 65536 * 281474976710656 + line % 65536 * 4294967296 + bytes % 4294967296

-- the three parts, as the header takes them out
pub record Unpacks (p number line bytes : ℕ) : Type 0 where
  pub number_is : p / 281474976710656 ≡ number
  pub line_is : p / 4294967296 % 65536 ≡ line
  pub bytes_is : p % 4294967296 ≡ bytes

-- packing loses nothing of a number below 100, a line below 1,000 and fewer than 2^32 bytes
pub packed_unpacks : (number line bytes : ℕ) → number < 100 → line < 1000 → bytes < 4294967296 → Unpacks (packed number line bytes) number line bytes
unfolding packed
packed_unpacks number line bytes n l b = record { number_is = omega arith; line_is = omega arith; bytes_is = omega arith }
