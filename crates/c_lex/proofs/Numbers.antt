-- The value of digits, with no more of it kept than tells that it is too big.
use Rattle.std.proofs.Common.{◌≡◌, ℕ, ◌<◌, ◌≤◌, List, length, true, false, min, leb, ltb, eqb, refl, arith}
use Rattle.std.specs.Prelude.{pos}
use Rattle.std.specs.List.{list_all}
use Rattle.std.proofs.lemmas.Bool.{le-leb, lt-leb, lt-ltb}
use Rattle.std.proofs.lemmas.Bool.Decides.{nat_tests}
use Rattle.c_lex.specs.declared.piece.Piece.TheVariants.{Number, BigNumber}
use Rattle.c_lex.specs.Constant.{is_digit_in, number_in, value_in}
use Rattle.c_lex.specs.PieceOf.{number_piece}

pub number_small : (base v : ℕ) (digits : List ℕ) → 0 < length digits → list_all (is_digit_in base) digits ≡ true → v ≡ min (value_in base digits) 2147483648 → v < 2147483648
    → Number (pos v) ≡ number_piece (number_in base digits)
number_small base v digits some all is small =
    let same : value_in base digits ≡ v = omega arith in
    let filled : ltb 0 (length digits) ≡ true = lt-ltb _ _ some in
    let fits : leb v 2147483647 ≡ true = le-leb _ _ (omega arith) in
    rw (filled, all, same, fits) refl

pub number_big : (base v : ℕ) (digits : List ℕ) → 0 < length digits → list_all (is_digit_in base) digits ≡ true → v ≡ min (value_in base digits) 2147483648 → 2147483648 ≤ v
    → BigNumber ≡ number_piece (number_in base digits)
number_big base v digits some all is large =
    let filled : ltb 0 (length digits) ≡ true = lt-ltb _ _ some in
    let over : leb (value_in base digits) 2147483647 ≡ false = lt-leb _ _ (omega arith) in
    rw (filled, all, over) refl

pub some_digit : (n : ℕ) → false ≡ eqb n 0 → 0 < n
some_digit n e = grind (arith, nat_tests)
