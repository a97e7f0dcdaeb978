-- What is so of words and their operators.
use Rattle.std.specs.Prelude.{◌≡◌, ℕ, ◌<◌, ◌^◌, ℤ, ◌+ℤ◌, ◌-ℤ◌, ◌*ℤ◌, FitsSigned}
use Rattle.std.specs.Int.{w32, int_wrap}
use Rattle.dfi_base.specs.Words.{
  word_of,
  int_of,
  word_neg,
  word_not,
  word_com,
  word_add,
  word_sub,
  word_mul,
  word_and,
  word_or,
  word_xor,
  word_shl,
  word_shr,
  word_lt,
  word_gt,
  word_le,
  word_ge,
  word_eq,
  word_ne,
  word_quo,
  word_rem,
}

abbrev pub OfWord : (ℕ → ℕ) → Type 0
OfWord f = (a : ℕ) → a < 2 ^ 32 → f a < 2 ^ 32

abbrev pub OfWords : (ℕ → ℕ → ℕ) → Type 0
OfWords f = (a b : ℕ) → a < 2 ^ 32 → b < 2 ^ 32 → f a b < 2 ^ 32

-- Each operator makes a word of words.
pub record WordsMakeWords : Type 0 where
  pub neg : OfWord word_neg
  pub not : OfWord word_not
  pub complement : OfWord word_com
  pub add : OfWords word_add
  pub sub : OfWords word_sub
  pub mul : OfWords word_mul
  pub and : OfWords word_and
  pub or : OfWords word_or
  pub xor : OfWords word_xor
  pub shl : OfWords word_shl
  pub shr : OfWords word_shr
  pub lt : OfWords word_lt
  pub gt : OfWords word_gt
  pub le : OfWords word_le
  pub ge : OfWords word_ge
  pub eq : OfWords word_eq
  pub ne : OfWords word_ne
  pub quo : OfWords word_quo
  pub rem : OfWords word_rem

-- Words and the integers of 32 bits stand for one another, and sums, differences and products are those of the integers, wrapped.
pub record WordsAreIntegers : Type 0 where
  pub word : (a : ℕ) → a < 2 ^ 32 → word_of (int_of a) ≡ a
  pub int : (z : ℤ) → FitsSigned w32 z → int_of (word_of z) ≡ z
  pub add : (a b : ℕ) → a < 2 ^ 32 → b < 2 ^ 32 → int_of (word_add a b) ≡ int_wrap w32 (int_of a +ℤ int_of b)
  pub sub : (a b : ℕ) → a < 2 ^ 32 → b < 2 ^ 32 → int_of (word_sub a b) ≡ int_wrap w32 (int_of a -ℤ int_of b)
  pub mul : (a b : ℕ) → a < 2 ^ 32 → b < 2 ^ 32 → int_of (word_mul a b) ≡ int_wrap w32 (int_of a *ℤ int_of b)
