-- The value of an integer constant (C99 6.4.4.1, with no suffix).
use Rattle.std.specs.Prelude.{ℕ, ◌+◌, ◌-◌, ◌*◌, Bool, ◌||◌, ◌&&◌, ◌==◌, not, nat_le, nat_lt, List, [], ◌∷◌, length, fold, Option, Some, None, if◌then◌else◌}
use Rattle.std.specs.Char.{is_ascii_digit}
use Rattle.std.specs.List.{list_all}

-- what a digit stands for; letters, small or capital, go on from 10
abbrev pub digit_value : ℕ → ℕ
digit_value d = if nat_le d 57 then d - 48 else if nat_le d 70 then d - 55 else d - 87

-- a digit of this base, which is at most 16
abbrev pub is_digit_in : ℕ → ℕ → Bool
is_digit_in base d = (is_ascii_digit d || ((nat_le 65 d && nat_le d 70) || (nat_le 97 d && nat_le d 102))) && nat_lt (digit_value d) base

-- the value of digits, the first of which counts most
abbrev pub value_in : ℕ → List ℕ → ℕ
value_in base digits = fold (λ n d. n * base + digit_value d) 0 digits

-- the value of one digit or more of this base
abbrev pub number_in : ℕ → List ℕ → Option ℕ
number_in base digits = if nat_lt 0 (length digits) && list_all (is_digit_in base) digits then Some (value_in base digits) else None

-- behind a 0: x or X and digits of base 16, or digits of base 8
abbrev pub behind_zero : List ℕ → Option ℕ
behind_zero [] = None
behind_zero (x ∷ ds) = if x == 120 || x == 88 then number_in 16 ds else number_in 8 (x ∷ ds)

-- digits of base 10, unless the first of several is 0
unfoldable pub constant_of : List ℕ → Option ℕ
constant_of [] = None
constant_of (d ∷ ds) = if not (d == 48) || (length ds == 0) then number_in 10 (d ∷ ds) else behind_zero ds
