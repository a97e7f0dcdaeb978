-- A whole program, as every definition sees it.
use Rattle.std.specs.Prelude.{◌≡◌, ℕ, ◌<◌, ◌≤◌, pos, List, All, length, Some, slice_get}
use Rattle.dfi_base.specs.declared.numbers.Line.{Line}
use Rattle.c_ast.specs.declared.program.Field.{Field}
use Rattle.c_ast.specs.declared.program.Item.{Item}
use Rattle.c_ast.specs.Leaves.{Leaf, name, number, leaves_of}
use Rattle.dfi_base.specs.Limits.{token_limit}

pub record Ast : Type 0 where
  pub items : List Item
  -- the name of each number, from number 0 on
  pub names : List (List ℕ)
  pub last : Line

-- no name stands at two places
abbrev pub AllDiffer : List (List ℕ) → Type 0
AllDiffer names = (i j : ℕ) (n : List ℕ) → slice_get names i ≡ Some n → slice_get names j ≡ Some n → i ≡ j

-- an identifier has a name, and a number is not negative
abbrev pub IsWritten : ℕ → Leaf → Type 0
IsWritten names (name n) = n < names
IsWritten names (number k) = (n : ℕ) × (k ≡ pos n)

-- a struct has a line of fields, and each such line a field
abbrev pub HasFields : Item → Type 0
HasFields (Item.Struct d) = (1 ≤ length d.fields) × All (λ (f : Field). 1 ≤ length f.items) d.fields
HasFields i = Unit {0}

-- what every program keeps
pub record IsBuilt (items : List Item) (names : List (List ℕ)) : Type 0 where
  pub names_differ : AllDiffer names
  pub written : All (IsWritten (length names)) (leaves_of items)
  pub few : length (leaves_of items) ≤ token_limit
  pub fields : All HasFields items
