-- A number in a word, and the numbers that an option or a plain word may give.
use Rattle.std.specs.Prelude.{◌≡◌, ◌≢◌, ℕ, ◌≤◌, List, length, slice_index}
use Rattle.std.specs.Str.Parse.{IsNumeral, digits_value}

-- decimal digits, at most seven, of which the first is not 0 (48), and the number that they write
pub record IsNumber (text : List ℕ) (n : ℕ) : Type 0 where
  pub digits : IsNumeral 10 text
  pub few : length text ≤ 7
  pub leading : slice_index text 0 ≢ 48
  pub value : n ≡ digits_value 10 text

pub record Range : Type 0 where
  pub least : ℕ
  pub most : ℕ

-- from 1 to the greatest
abbrev pub up_to : ℕ → Range
up_to most = record { least = 1; most = most }

-- the text writes a number of the range
abbrev pub IsNumberIn : Range → List ℕ → ℕ → Type 0
IsNumberIn range text n = IsNumber text n × (range.least ≤ n) × (n ≤ range.most)
