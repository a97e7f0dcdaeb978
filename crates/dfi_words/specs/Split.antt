-- How the words after the name of a command are taken apart: into options, each a name and a value, and plain words.
use Rattle.std.specs.Prelude.{◌≡◌, ◌≢◌, ℕ, List, [], ◌∷◌, ◌++◌, codes}
use Rattle.std.specs.List.{AllByRecursion as Each}

abbrev pub Text : Type 0
Text = List ℕ

abbrev pub Options : Type 0
Options = List (Text × Text)

-- the word stands for itself: it is `-`, or does not begin with `-`
abbrev pub IsPlain : Text → Type 0
IsPlain word = (more : Text) → word ≡ codes "-" ++ more → more ≡ []

-- the name of an option is not empty, and has no `=` (61)
abbrev pub IsOptionName : Text → Type 0
IsOptionName name = (name ≢ []) × Each (λ byte. byte ≢ 61) name

-- these words are these options and these plain words, each in the order of the words
pub data Split : List Text → Options → List Text → Type 0 where
  nothing : Split [] [] []
  -- a word that stands for itself
  plain : (word : Text) (words : List Text) (options : Options) (others : List Text) → IsPlain word → Split words options others
      → Split (word ∷ words) options (word ∷ others)
  -- `--name value`, where the value is whatever word comes next
  apart : (word name value : Text) (words : List Text) (options : Options) (others : List Text) → word ≡ codes "--" ++ name → IsOptionName name
      → Split words options others → Split (word ∷ value ∷ words) ((name, value) ∷ options) others
  -- `--name=value`
  joined : (word name value : Text) (words : List Text) (options : Options) (others : List Text) → word ≡ codes "--" ++ (name ++ (codes "=" ++ value)) → IsOptionName name
      → Split words options others → Split (word ∷ words) ((name, value) ∷ options) others
  -- after `--` each word stands for itself
  dashes : (word : Text) (others : List Text) → word ≡ codes "--" → Split (word ∷ others) [] others
