-- Bits in words of 64.
use Rattle.std.specs.Prelude.{◌≡◌, ℕ, ◌+◌, ◌/◌, ◌%◌, ◌^◌, ◌==◌, ◌<◌, ◌≤◌, Bool, false, List, map, length, slice_index}
use Rattle.std.specs.Int.{bit_at}
use Rattle.std.specs.List.{range_with_len}

abbrev pub bit_of : ℕ → ℕ → Bool
bit_of word i = bit_at word i == 1

abbrev pub has_bit : List ℕ → ℕ → Bool
has_bit words k = bit_of (slice_index words (k / 64)) (k % 64)

-- the first bits of some words
unfoldable pub bits_of : ℕ → List ℕ → List Bool
bits_of len words = map (has_bit words) (range_with_len 0 len)

-- The number of bits is one of 32 bits, there are just enough words, and behind the last place all bits are 0.
pub record IsPacked (len : ℕ) (words : List ℕ) : Type 0 where
  pub fits : len < 2 ^ 32
  pub enough : length words ≡ (len + 63) / 64
  pub clear : (k : ℕ) → len ≤ k → has_bit words k ≡ false
