-- The texts of refusals, each a line.
use Rattle.std.specs.Prelude.{ℕ, List, [], ◌∷◌, ◌++◌, codes}
use Rattle.std.specs.Fmt.{decimal}

abbrev pub usage_text : List ℕ
usage_text = codes "use: dfi build SRC | check MOD | sets SRC | replay FILE INPUT [NAMES] | run FILE INPUT | gen N | trial N" ++ 10 ∷ []

abbrev pub failed_text : List ℕ → List ℕ
failed_text name = codes "load: failed " ++ name ++ 10 ∷ []

abbrev pub long_text : List ℕ → List ℕ
long_text name = codes "load: long " ++ name ++ 10 ∷ []

-- refused at a byte, counted from 0, or at a name, counted from 1
abbrev pub input_text : ℕ → List ℕ
input_text at = codes "input: refused at " ++ decimal at ++ 10 ∷ []

abbrev pub name_bytes_text : ℕ → List ℕ
name_bytes_text at = codes "names: bytes refused at " ++ decimal at ++ 10 ∷ []

abbrev pub names_text : ℕ → List ℕ
names_text k = codes "names: refused at " ++ decimal k ++ 10 ∷ []
