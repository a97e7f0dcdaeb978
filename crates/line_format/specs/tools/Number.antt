-- Decimal numbers of a range, with the byte behind them. A tool of proof.
use Rattle.std.specs.Prelude.{◌≡◌, ℕ, zero, suc, ◌+◌, ◌-◌, ◌*◌, Bool, true, false, ◌&&◌, if◌then◌else◌, nat_lt, nat_le, nat_eq, List, [], ◌∷◌, Option, Some, None}
use Rattle.line_format.specs.tools.Format.{Next, more, last, Format, give, byte, chain, loop}

abbrev pub is_digit : ℕ → Bool
is_digit b = nat_le 48 b && nat_le b 57

-- does some number of the range begin with the digits of one from a to b?
unfoldable pub meets : ℕ → ℕ → ℕ → ℕ → ℕ → Bool
meets lo hi zero a b = false
meets lo hi (suc n) a b = elim (nat_le a hi) [ false ↦ false | true ↦ elim (nat_le lo b) [ true ↦ true | false ↦ meets lo hi n (a * 10) (b * 10 + 9) ] ]

-- does some number of the range begin with the digits of v? Nothing but 0 begins with 0.
abbrev pub can : ℕ → ℕ → ℕ → Bool
can lo hi zero = nat_eq lo 0
can lo hi (suc v) = meets lo hi (suc hi) (suc v) (suc v)

abbrev pub digit_after : ℕ → ℕ → ℕ → ℕ → Bool
digit_after lo hi v d = nat_lt 0 v && can lo hi (v * 10 + d)

abbrev pub first_digit : ℕ → ℕ → ℕ → Option ℕ
first_digit lo hi b = if is_digit b && can lo hi (b - 48) then Some (b - 48) else None

module _ {E : Type 0} (lo hi : ℕ) (ends : ℕ → ℕ → Option E) where
  abbrev pub ended : ℕ → Option E → Option (Next ℕ (ℕ × E))
  ended v None = None
  ended v (Some e) = Some (last (v, e))

  abbrev pub next_digit : ℕ → ℕ → Option (Next ℕ (ℕ × E))
  next_digit v b = if is_digit b
      then (if digit_after lo hi v (b - 48) then Some (more (v * 10 + (b - 48))) else None)
      else (if nat_le lo v && nat_le v hi then ended v (ends v b) else None)

  abbrev pub number : Format (ℕ × E)
  number = chain (byte (first_digit lo hi)) (loop (λ v. byte (next_digit v)))

-- this byte alone ends a number
abbrev pub byte_end : ℕ → ℕ → ℕ → Option Bool
byte_end c n b = if nat_eq b c then Some true else None

-- a number, and behind it this byte
abbrev pub number_and : ℕ → ℕ → ℕ → Format ℕ
number_and c lo hi = chain (number lo hi (byte_end c)) (λ z. give z.0)
