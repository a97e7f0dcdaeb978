-- What a list has, each once.
use Rattle.std.specs.Prelude.{ℕ, Bool, List, [], ◌∷◌, ◌++◌, fold, if◌then◌else◌}
use Rattle.std.specs.List.{list_any, position_or_len}

-- the list, with this member behind it unless it has an equal one
abbrev pub with_member : {A : Type 0} → (A → A → Bool) → List A → A → List A
with_member equal xs x = if list_any (equal x) xs then xs else xs ++ x ∷ []

-- the members of a list, each once, in the order of their first places
abbrev pub each_once : {A : Type 0} → (A → A → Bool) → List A → List A
each_once equal xs = fold (with_member equal) [] xs

-- the first place of an equal member, counted from 0; the length without one
abbrev pub place_of : {A : Type 0} → (A → A → Bool) → List A → A → ℕ
place_of equal xs x = position_or_len (equal x) xs
