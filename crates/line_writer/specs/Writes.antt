-- What a writer has done to a text.
use Rattle.std.specs.Prelude.{◌≡◌, ◌<◌, ℕ, List, ◌++◌, length}
use Rattle.dfi_base.specs.Limits.{file_limit}

-- the new text is the old one and a piece, whatever comes behind
abbrev pub Writes : (List ℕ → List ℕ) → List ℕ → List ℕ → Type 0
Writes piece old new = (rest : List ℕ) → new ++ rest ≡ old ++ piece rest

-- the old text and the piece are longer than a file may be, whatever comes behind
abbrev pub Passes : (List ℕ → List ℕ) → List ℕ → Type 0
Passes piece old = (rest : List ℕ) → file_limit < length (old ++ piece rest)
