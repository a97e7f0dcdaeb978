-- Numbers of 32 bits with one byte between them and another behind the last. A tool of proof.
use Rattle.std.specs.Prelude.{◌≡◌, ℕ, Bool, true, false, ◌&&◌, if◌then◌else◌, nat_eq, nat_le, List, [], ◌∷◌, ◌++◌, Option, Some, None}
use Rattle.line_format.specs.Lines.{greatest, after}
use Rattle.line_format.specs.tools.Format.{Next, more, last, Format, give, byte, chain, loop}
use Rattle.line_format.specs.tools.Number.{is_digit, number, number_and}
use Rattle.line_format.specs.tools.Words.{word}

-- the bytes that stand between and end are two, and no digits
pub record AreMarks (between end : ℕ) : Type 0 where
  pub apart : nat_eq between end ≡ false
  pub between_no_digit : is_digit between ≡ false
  pub end_no_digit : is_digit end ≡ false

module _ (between end : ℕ) (rising : Bool) where
  -- behind a member comes the end, or what stands between where a further member may follow
  abbrev pub member_end : ℕ → ℕ → Option Bool
  member_end m b = if nat_eq b end then Some true else (if nat_eq b between && nat_le (after rising m) greatest then Some false else None)

  abbrev pub member_on : List ℕ → ℕ × Bool → Next (List ℕ × ℕ) (List ℕ)
  member_on found z = if z.1 then last (found ++ z.0 ∷ []) else more (found ++ z.0 ∷ [], after rising z.0)

  -- whether a member comes, or the end
  abbrev pub has_more : ℕ → Option Bool
  has_more b = if nat_eq b end then Some false else (if nat_eq b between then Some true else None)

module _ (lead : List ℕ) (between end : ℕ) (rising : Bool) where
  -- the next member: those before it are known, and the least that it may be
  abbrev pub member : List ℕ × ℕ → Format (Next (List ℕ × ℕ) (List ℕ))
  member s = chain (word lead) (λ u. chain (number s.1 greatest (member_end between end rising)) (λ z. give (member_on between end rising s.0 z)))

  -- one or more members
  abbrev pub members : Format (List ℕ)
  members = loop member ([], 0)

  -- as many members as there are, none too
  abbrev pub any_members : Format (List ℕ)
  any_members = chain (byte (has_more between end rising)) (λ some. elim some [ true ↦ members | false ↦ give [] ])

  -- the members behind a number that is the last of its line or not
  abbrev pub rest_of : Bool → Format (List ℕ)
  rest_of ended = elim ended [ true ↦ give [] | false ↦ members ]

  -- a number, and as many members as come behind it
  abbrev pub number_and_members : Format (ℕ × List ℕ)
  number_and_members = chain (number 0 greatest (member_end between end false)) (λ z. chain (rest_of z.1) (λ xs. give (z.0, xs)))

module _ (between end : ℕ) where
  abbrev pub option_of : Bool → Format (Option ℕ)
  option_of ended = elim ended [ true ↦ give None | false ↦ chain (number_and end 0 greatest) (λ n. give (Some n)) ]

  -- a number, and one more or none
  abbrev pub number_and_option : Format (ℕ × Option ℕ)
  number_and_option = chain (number 0 greatest (member_end between end false)) (λ z. chain (option_of z.1) (λ o. give (z.0, o)))
