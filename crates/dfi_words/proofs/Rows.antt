-- The values of an id after one more use of an argument.
use Rattle.std.proofs.Common.{◌≡◌, Bool, true, false, List, [], ◌∷◌, ◌++◌, Some, None, is_some, refl, ap, ◌∙◌, bytes_eq}
use Rattle.std.specs.Prelude.{unwrap_or}
use Rattle.std.proofs.lemmas.Slice.Eq.{bytes_eq-Decides}
use Rattle.clap.specs.Walk.{Row, Text, all_of, has_row, with_values, without}
use Rattle.clap.specs.declared.builder.value_parser.Reading.{Reading}
use Rattle.clap.specs.declared.parser.matches.ValueSource.{ValueSource}

pub same : (text : Text) → bytes_eq text text ≡ true
same text = (bytes_eq-Decides text text).1 refl

pub equal : (a b : Text) → bytes_eq a b ≡ true → a ≡ b
equal a b = (bytes_eq-Decides a b).0

-- a test on one id after one that is passed
test_moves : (a b x : Text) (t : Bool) → bytes_eq a b ≡ true → bytes_eq b x ≡ t → bytes_eq a x ≡ t
test_moves a b x t e f = ap (λ y. bytes_eq y x) (equal a b e) ∙ f

pub row_is_found : (id : Text) (rows : List Row) → has_row id rows ≡ is_some (all_of id rows)
row_is_found id [] = refl
row_is_found id (r ∷ rows) = go (bytes_eq r.id id) refl (row_is_found id rows)
  where
    go : (t : Bool) → bytes_eq r.id id ≡ t → has_row id rows ≡ is_some (all_of id rows) → has_row id (r ∷ rows) ≡ is_some (all_of id (r ∷ rows))
    go true e rest = rw e refl
    go false e rest = rw e rest

module _ (id x : Text) (apart : bytes_eq id x ≡ false) where
  pub others_without : (rows : List Row) → all_of x (without id rows) ≡ all_of x rows
  others_without [] = refl
  others_without (r ∷ rows) = go (bytes_eq r.id id) refl (others_without rows)
    where
      kept : (t : Bool) → bytes_eq r.id x ≡ t → all_of x (without id rows) ≡ all_of x rows → all_of x (r ∷ without id rows) ≡ all_of x (r ∷ rows)
      kept true e rest = rw e refl
      kept false e rest = rw e rest

      go : (t : Bool) → bytes_eq r.id id ≡ t → all_of x (without id rows) ≡ all_of x rows → all_of x (without id (r ∷ rows)) ≡ all_of x (r ∷ rows)
      go true e rest = rw (e, test_moves r.id id x false e apart) refl
      go false e rest = rw e (kept (bytes_eq r.id x) refl rest)

  pub others_with : (how : Reading) (s : ValueSource) (values : List Text) (rows : List Row) → all_of x (with_values id how s values rows) ≡ all_of x rows
  others_with how s values [] = rw apart refl
  others_with how s values (r ∷ rows) = go (bytes_eq r.id id) refl (others_with how s values rows)
    where
      kept : (t : Bool) → bytes_eq r.id x ≡ t → all_of x (with_values id how s values rows) ≡ all_of x rows
          → all_of x (r ∷ with_values id how s values rows) ≡ all_of x (r ∷ rows)
      kept true e rest = rw e refl
      kept false e rest = rw e rest

      go : (t : Bool) → bytes_eq r.id id ≡ t → all_of x (with_values id how s values rows) ≡ all_of x rows
          → all_of x (with_values id how s values (r ∷ rows)) ≡ all_of x (r ∷ rows)
      go true e rest = rw (e, test_moves r.id id x false e apart) refl
      go false e rest = rw e (kept (bytes_eq r.id x) refl rest)

pub added_to : (id : Text) (how : Reading) (s : ValueSource) (values : List Text) (rows : List Row)
    → all_of id (with_values id how s values rows) ≡ Some (unwrap_or (all_of id rows) [] ++ values)
added_to id how s values [] = rw (same id) refl
added_to id how s values (r ∷ rows) = go (bytes_eq r.id id) refl (added_to id how s values rows)
  where
    go : (t : Bool) → bytes_eq r.id id ≡ t → all_of id (with_values id how s values rows) ≡ Some (unwrap_or (all_of id rows) [] ++ values)
        → all_of id (with_values id how s values (r ∷ rows)) ≡ Some (unwrap_or (all_of id (r ∷ rows)) [] ++ values)
    go true e rest = rw (e, e) refl
    go false e rest = rw (e, e) rest

pub still_missing : (id : Text) (rows : List Row) → all_of id rows ≡ None → all_of id (without id rows) ≡ None
still_missing id [] h = refl
still_missing id (r ∷ rows) h = go (bytes_eq r.id id) refl h (still_missing id rows)
  where
    go : (t : Bool) → bytes_eq r.id id ≡ t → all_of id (r ∷ rows) ≡ None → (all_of id rows ≡ None → all_of id (without id rows) ≡ None) → all_of id (without id (r ∷ rows)) ≡ None
    go true e h rest = let some : all_of id (r ∷ rows) ≡ Some r.values = rw e refl in absurd cc
    go false e h rest = let later : all_of id rows ≡ None = rw e at h in rw (e, e) (rest later)
