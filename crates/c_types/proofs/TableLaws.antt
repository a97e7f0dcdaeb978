-- Entries for names.
use Rattle.std.proofs.Common.{◌≡◌, ℕ, zero, suc, ◌<◌, ◌≤◌, List, [], ◌∷◌, ◌++◌, length, set, Option, Some, None, get_or, slice_get, refl, ap, sym, ◌∙◌, arith}
use Rattle.c_types.specs.declared.outline.Outline.{Outline}
use Rattle.c_types.specs.declared.outline.Spelling.{Spelling}
use Rattle.c_types.specs.declared.table.Table.{Table}
use Rattle.c_types.specs.tools.Outlines.{spelled}
use Rattle.c_types.specs.tools.Tables.{looked, put_in}

abbrev pub read_by : Option (Option ℕ) → Option ℕ
read_by None = None
read_by (Some o) = o

pub read_in : (xs : List (Option ℕ)) (x : ℕ) → read_by (slice_get xs x) ≡ get_or xs x None
read_in [] x = refl
read_in (o ∷ xs) zero = refl
read_in (o ∷ xs) (suc x) = read_in xs x

pub looked_past : (t : Table) (x : ℕ) → slice_get t.entries x ≡ None → None ≡ looked t x
looked_past t x is = sym (ap read_by is) ∙ read_in t.entries x

-- an entry is put among those that are there
pub put_within : (xs : List (Option ℕ)) (x : ℕ) (o : Option ℕ) → x < length xs → put_in x o xs ≡ set xs x o
put_within [] x o less = absurd (omega (arith, less))
put_within (p ∷ xs) zero o less = refl
put_within (p ∷ xs) (suc x) o less = ap (λ ys. p ∷ ys) (put_within xs x o (omega (arith, less)))

-- one more entry behind a short list changes nothing
pub put_behind : (xs : List (Option ℕ)) (x : ℕ) (o : Option ℕ) → length xs ≤ x → put_in x o (xs ++ None ∷ []) ≡ put_in x o xs
put_behind [] zero o le = refl
put_behind [] (suc x) o le = refl
put_behind (p ∷ xs) zero o le = absurd (omega (arith, le))
put_behind (p ∷ xs) (suc x) o le = ap (λ ys. p ∷ ys) (put_behind xs x o (omega (arith, le)))

-- past the end
pub past : {A : Type 0} (xs : List A) (x : ℕ) (d : A) → slice_get xs x ≡ None → d ≡ get_or xs x d
past [] x d is = refl
past (y ∷ xs) zero d is = cc
past (y ∷ xs) (suc x) d is = past xs x d is

pub spelled_past : (o : Outline) (x : ℕ) → slice_get o.spellings x ≡ None → Spelling.Other ≡ spelled o x
spelled_past o x is = past o.spellings x Spelling.Other is
