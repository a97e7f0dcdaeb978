-- Words make words, and stand for integers.
use Rattle.std.proofs.Common.{ℕ, zero, suc, ◌+◌, ◌-◌, ◌*◌, ◌/◌, ◌%◌, ◌^◌, ◌≤◌, ◌<◌, Bool, true, false, arith}
use Rattle.std.specs.Prelude.{ℤ, pos, negsuc, neg_ℤ, nat_eq, int_div, int_rem, int_lt, int_le, not}
use Rattle.std.specs.Int.{w32, int_shr}
use Rattle.std.specs.Int.Signed.{mag, mag_rem, mag_shr}
use Rattle.std.specs.Int.Bits.{and_lt}
use Rattle.std.proofs.Math.Facts.{Fits-of_lt, sfits_to_z}
use Rattle.std.proofs.Math.Nat.{div-le_self}
use Rattle.std.proofs.lemmas.Nat.{or_lt, xor_lt}
use Rattle.std.proofs.lemmas.Int.{of_z-to_z, to_z-of_z, wrapping_add-bits, wrapping_sub-bits, wrapping_mul-bits}
use Rattle.dfi_base.specs.Words.{word_of, int_of, wrap, truth}
use Rattle.dfi_base.specs.WordLaws.{WordsMakeWords, WordsAreIntegers}

wrapped : (n : ℕ) → wrap n < 2 ^ 32
wrapped n = omega (arith)

truth_fits : (b : Bool) → truth b < 2 ^ 32
truth_fits true = omega arith
truth_fits false = omega arith

word_fits : (z : ℤ) → mag z < 2 ^ 32 → word_of z < 2 ^ 32
word_fits (pos n) small = small
word_fits (negsuc n) small = omega arith

int_small : (a : ℕ) → a < 2 ^ 32 → mag (int_of a) < 2 ^ 31
int_small a small = (sfits_to_z {w = w32} {n = a} (Fits-of_lt small)).sfits

neg_small : (n : ℕ) → mag (neg_ℤ (pos n)) ≤ n
neg_small zero = omega arith
neg_small (suc n) = omega arith

quo_small : (x y : ℤ) → mag (int_div x y) ≤ suc (mag x)
quo_small (pos a) (pos b) = omega (arith, div-le_self a b)
quo_small (pos a) (negsuc b) = omega (arith, div-le_self a (suc b), neg_small (a / suc b))
quo_small (negsuc a) (pos b) = omega (arith, div-le_self (suc a) b, neg_small (suc a / b))
quo_small (negsuc a) (negsuc b) = omega (arith, div-le_self (suc a) (suc b))

shr_fits : (a b : ℕ) → a < 2 ^ 32 → word_of (int_shr (int_of a) b) < 2 ^ 32
shr_fits a b small = word_fits (int_shr (int_of a) b) (omega (arith, mag_shr (int_of a) (2 ^ b), int_small a small))

quo_fits : (a : ℕ) (y : ℤ) → a < 2 ^ 32 → word_of (int_div (int_of a) y) < 2 ^ 32
quo_fits a y small = word_fits (int_div (int_of a) y) (omega (arith, quo_small (int_of a) y, int_small a small))

rem_fits : (a : ℕ) (y : ℤ) → a < 2 ^ 32 → word_of (int_rem (int_of a) y) < 2 ^ 32
rem_fits a y small = word_fits (int_rem (int_of a) y) (omega (arith, mag_rem (int_of a) y, int_small a small))

pub words_make_words : WordsMakeWords
words_make_words = record {
  neg = λ a p. wrapped (2 ^ 32 - a);
  not = λ a p. truth_fits (nat_eq a 0);
  complement = λ a p. omega (arith, p);
  add = λ a b p q. wrapped (a + b);
  sub = λ a b p q. wrapped (a + (2 ^ 32 - b));
  mul = λ a b p q. wrapped (a * b);
  and = λ a b p q. and_lt 32 a b p q;
  or = λ a b p q. or_lt 32 a b p q;
  xor = λ a b p q. xor_lt 32 a b p q;
  shl = λ a b p q. wrapped (a * 2 ^ (b % 32));
  shr = λ a b p q. shr_fits a (b % 32) p;
  lt = λ a b p q. truth_fits (int_lt (int_of a) (int_of b));
  gt = λ a b p q. truth_fits (int_lt (int_of b) (int_of a));
  le = λ a b p q. truth_fits (int_le (int_of a) (int_of b));
  ge = λ a b p q. truth_fits (int_le (int_of b) (int_of a));
  eq = λ a b p q. truth_fits (nat_eq a b);
  ne = λ a b p q. truth_fits (not (nat_eq a b));
  quo = λ a b p q. quo_fits a (int_of b) p;
  rem = λ a b p q. rem_fits a (int_of b) p;
}

pub words_are_integers : WordsAreIntegers
words_are_integers = record {
  word = λ a p. of_z-to_z w32 a p;
  int = λ z f. to_z-of_z w32 z f;
  add = λ a b p q. wrapping_add-bits w32 a b p q;
  sub = λ a b p q. wrapping_sub-bits w32 a b p q;
  mul = λ a b p q. wrapping_mul-bits w32 a b p q;
}
