-- Entries for names, by their numbers. A tool of proof.
use Rattle.std.specs.Prelude.{ℕ, zero, suc, List, [], ◌∷◌, Option, None, get_or}
use Rattle.c_types.specs.declared.table.Table.{Table}

abbrev pub looked : Table → ℕ → Option ℕ
looked t x = get_or t.entries x None

-- an entry at this index, with none at those between
abbrev pub put_in : ℕ → Option ℕ → List (Option ℕ) → List (Option ℕ)
put_in zero o [] = o ∷ []
put_in zero o (p ∷ ps) = o ∷ ps
put_in (suc n) o [] = None ∷ put_in n o []
put_in (suc n) o (p ∷ ps) = p ∷ put_in n o ps

abbrev pub put : ℕ → Option ℕ → Table → Table
put x o t = record { entries = put_in x o t.entries }
