-- Numbers of `int`. A tool of proof.
use Rattle.std.specs.Prelude.{ℕ, ℤ, pos, negsuc, ◌-◌, if◌then◌else◌, nat_eq, Option, Some, None}
use Rattle.line_format.specs.tools.Format.{Format, give, byte, chain, loop}
use Rattle.line_format.specs.tools.Number.{first_digit, next_digit, byte_end, number_and}

abbrev pub found : Option ℕ → Option (Option ℕ)
found None = None
found (Some v) = Some (Some v)

-- the minus, or the first digit
abbrev pub first_signed : ℕ → Option (Option ℕ)
first_signed b = if nat_eq b 45 then Some None else found (first_digit 0 2147483647 b)

-- what comes behind the minus, or behind the first digit
abbrev pub behind_first : ℕ → Option ℕ → Format ℤ
behind_first c None = chain (number_and c 1 2147483648) (λ n. give (negsuc (n - 1)))
behind_first c (Some v) = chain (loop (λ w. byte (next_digit 0 2147483647 (byte_end c) w)) v) (λ z. give (pos z.0))

-- a number of `int`, and behind it this byte
abbrev pub signed_and : ℕ → Format ℤ
signed_and c = chain (byte first_signed) (behind_first c)
