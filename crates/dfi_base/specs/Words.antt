-- Words of 32 bits, the integers that they stand for in two's complement, and what the operators make of words (C99 6.5, where signed
-- arithmetic wraps).
use Rattle.std.specs.Prelude.{ℕ, ◌+◌, ◌-◌, ◌*◌, ◌%◌, ◌^◌, ℤ, nat_eq, bit_and, bit_or, bit_xor, int_div, int_rem, int_lt, int_le, if◌then◌else◌, Bool, not}
use Rattle.std.specs.Int.{int_shr, w32, cast_unsigned, cast_signed}

-- the word of an integer
abbrev pub word_of : ℤ → ℕ
word_of z = cast_unsigned w32 z

-- the integer that a word stands for
abbrev pub int_of : ℕ → ℤ
int_of w = cast_signed w32 w

abbrev pub wrap : ℕ → ℕ
wrap n = n % 2 ^ 32

abbrev pub truth : Bool → ℕ
truth b = if b then 1 else 0

-- Operators of one word: `-`, `!` and `~`.

abbrev pub word_neg : ℕ → ℕ
word_neg a = wrap (2 ^ 32 - a)

abbrev pub word_not : ℕ → ℕ
word_not a = truth (nat_eq a 0)

abbrev pub word_com : ℕ → ℕ
word_com a = 2 ^ 32 - 1 - a

-- Operators of two words. A shift's count is taken modulo 32, and `>>` copies the sign.

abbrev pub word_add : ℕ → ℕ → ℕ
word_add a b = wrap (a + b)

abbrev pub word_sub : ℕ → ℕ → ℕ
word_sub a b = wrap (a + (2 ^ 32 - b))

abbrev pub word_mul : ℕ → ℕ → ℕ
word_mul a b = wrap (a * b)

abbrev pub word_and : ℕ → ℕ → ℕ
word_and a b = bit_and a b

abbrev pub word_or : ℕ → ℕ → ℕ
word_or a b = bit_or a b

abbrev pub word_xor : ℕ → ℕ → ℕ
word_xor a b = bit_xor a b

abbrev pub word_shl : ℕ → ℕ → ℕ
word_shl a b = wrap (a * 2 ^ (b % 32))

abbrev pub word_shr : ℕ → ℕ → ℕ
word_shr a b = word_of (int_shr (int_of a) (b % 32))

abbrev pub word_lt : ℕ → ℕ → ℕ
word_lt a b = truth (int_lt (int_of a) (int_of b))

abbrev pub word_gt : ℕ → ℕ → ℕ
word_gt a b = truth (int_lt (int_of b) (int_of a))

abbrev pub word_le : ℕ → ℕ → ℕ
word_le a b = truth (int_le (int_of a) (int_of b))

abbrev pub word_ge : ℕ → ℕ → ℕ
word_ge a b = truth (int_le (int_of b) (int_of a))

abbrev pub word_eq : ℕ → ℕ → ℕ
word_eq a b = truth (nat_eq a b)

abbrev pub word_ne : ℕ → ℕ → ℕ
word_ne a b = truth (not (nat_eq a b))

-- the quotient and its remainder truncate toward zero
abbrev pub word_quo : ℕ → ℕ → ℕ
word_quo a b = word_of (int_div (int_of a) (int_of b))

abbrev pub word_rem : ℕ → ℕ → ℕ
word_rem a b = word_of (int_rem (int_of a) (int_of b))
