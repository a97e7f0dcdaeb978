-- Tables of the functions that can be called from each function, and those that are called from a region.
use Rattle.std.specs.Prelude.{◌≡◌, ◌↔◌, ◌<◌, ◌≤◌, ◌⊎◌, ℕ, Bool, true, List, [], All, length, slice_get, slice_index_or, Some}
use Rattle.dfi_base.specs.Bits.{has}
use Rattle.dfi_base.specs.declared.numbers.Point.{Point}
use Rattle.tac_ir.specs.declared.code.Code.{Code}
use Rattle.tac_ir.specs.Layout.{instr_at}
use Rattle.tac_ir.specs.Edges.{calls_fun}
use Rattle.flow_rules.specs.CanCall.{CanCall}

-- so many rows of one length
pub record AreRows (count width : ℕ) (rows : List (List Bool)) : Type 0 where
  pub height : length rows ≡ count
  pub wide : All (λ row. length row ≡ width) rows

-- a row for each of so many functions, as long as they are
abbrev pub IsTable : ℕ → List (List Bool) → Type 0
IsTable count table = AreRows count count table

abbrev pub in_table : List (List Bool) → ℕ → ℕ → Bool
in_table table f g = has (slice_index_or table f []) g

-- one of the first points of a list calls function g from function f
pub record IsCalled (c : Code) (points : List Point) (n f g : ℕ) : Type 0 where
  pub number : ℕ
  pub point : Point
  pub low : number < n
  pub listed : slice_get points number ≡ Some point
  pub fun : point.fun ≡ f
  pub calls : calls_fun g (instr_at c point) ≡ true

-- the rows say which functions those points call from which
abbrev pub AreCalls : Code → List Point → ℕ → List (List Bool) → Type 0
AreCalls c points n table = (f g : ℕ) → (in_table table f g ≡ true) ↔ IsCalled c points n f g

-- the rows say which functions can be called from which
pub record IsCallTable (c : Code) (table : List (List Bool)) : Type 0 where
  pub shape : IsTable (length c.funs) table
  pub calls : (f g : ℕ) → (in_table table f g ≡ true) ↔ CanCall c f g

-- one of the first points of a list stands between two indexes of function f, and calls function g or one from which it can be called
pub record CallsFrom (c : Code) (points : List Point) (n f first last g : ℕ) : Type 0 where
  pub number : ℕ
  pub point : Point
  pub low : number < n
  pub listed : slice_get points number ≡ Some point
  pub fun : point.fun ≡ f
  pub after : first ≤ point.at
  pub before : point.at ≤ last
  pub callee : ℕ
  pub calls : calls_fun callee (instr_at c point) ≡ true
  pub leads : (callee ≡ g) ⊎ CanCall c callee g
