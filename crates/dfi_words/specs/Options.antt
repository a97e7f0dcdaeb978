-- What the options of a command may be, and the numbers that they give.
use Rattle.std.specs.Prelude.{⊤, ◌≡◌, ◌⊎◌, ℕ, List, [], ◌∷◌, Option, None, Some, option_map, find, bytes_eq}
use Rattle.dfi_words.specs.Number.{Range, IsNumberIn}
use Rattle.dfi_words.specs.Split.{Text, Options}

-- the value of the option of this name
abbrev pub value_of : Text → Options → Option Text
value_of name options = option_map (λ option. option.1) (find (λ option. bytes_eq option.0 name) options)

abbrev pub IsOneOf : List Text → Text → Type 0
IsOneOf [] name = ⊥
IsOneOf (first ∷ names) name = (name ≡ first) ⊎ IsOneOf names name

-- each option has one of these names, and no later one has its name
abbrev pub AreOptionsOf : List Text → Options → Type 0
AreOptionsOf known [] = ⊤
AreOptionsOf known (option ∷ options) = IsOneOf known option.0 × (value_of option.0 options ≡ None) × AreOptionsOf known options

-- what an option may give, and what stands for it where it is left out
pub record Setting : Type 0 where
  pub range : Range
  pub default : ℕ

-- the number that a value gives, where it is there
abbrev pub GivesNumber : Setting → Option Text → ℕ → Type 0
GivesNumber setting None n = n ≡ setting.default
GivesNumber setting (Some text) n = IsNumberIn setting.range text n
