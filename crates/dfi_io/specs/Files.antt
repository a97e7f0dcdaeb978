-- What a library tells.
use Rattle.std.specs.Prelude.{ℕ, List, Option}
use Rattle.std.specs.Map.{lookup}
use Rattle.std.specs.Str.{bytes_eq}

-- the files of a library, the numbers of the loads that are to fail, how many loads there were, and the limit of the last
pub record Files : Type 0 where
  -- names with their bytes, of which the first of a name counts
  pub files : List (List ℕ × List ℕ)
  pub plan : List ℕ
  pub loads : ℕ
  -- 0 before the first load
  pub limit : ℕ

-- the bytes of a name
abbrev pub file_of : List (List ℕ × List ℕ) → List ℕ → Option (List ℕ)
file_of files name = lookup (λ other. bytes_eq other name) files
