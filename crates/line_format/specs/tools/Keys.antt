-- Keys of two numbers of 32 bits. A tool of proof.
use Rattle.std.specs.Prelude.{ℕ, suc, ◌+◌, ◌-◌, if◌then◌else◌, nat_lt, nat_le, nat_eq}
use Rattle.line_format.specs.Lines.{greatest}
use Rattle.line_format.specs.tools.Format.{Format, give, chain}
use Rattle.line_format.specs.tools.Number.{number_and}

abbrev pub Pair : Type 0
Pair = ℕ × ℕ

-- the least key behind this one
abbrev pub after_pair : Pair → Pair
after_pair k = if nat_lt k.1 greatest then (k.0, suc k.1) else (suc k.0, 0)

-- the least I that may stand behind F
abbrev pub least_second : Pair → ℕ → ℕ
least_second least f = if nat_eq f least.0 then least.1 else 0

-- the greatest F behind which enough keys are left, and the greatest I behind F
abbrev pub most_first : Pair → ℕ → ℕ
most_first least owed = if nat_le (least_second least greatest + owed) greatest then greatest else greatest - 1

abbrev pub most_second : ℕ → ℕ → ℕ
most_second f owed = if nat_lt f greatest then greatest else greatest - owed

-- a key from the least on that leaves as many greater ones as are owed
abbrev pub pair_key : Pair → ℕ → Format Pair
pair_key least owed = chain (number_and 32 least.0 (most_first least owed)) (λ f. chain (number_and 32 (least_second least f) (most_second f owed)) (λ i. give (f, i)))
