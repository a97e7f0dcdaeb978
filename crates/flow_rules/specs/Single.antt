-- Leaves of which at most one word lives at a time.
use Rattle.std.specs.Prelude.{◌≡◌, ℕ}
use Rattle.tac_ir.specs.declared.code.Code.{Code}
use Rattle.tac_ir.specs.declared.code.Place.{Place}
use Rattle.tac_ir.specs.Places.{IsLeafPlace}
use Rattle.tac_ir.specs.Nodes.{place_node}
use Rattle.flow_rules.specs.CanCall.{HasOneFrame}

-- the variable of a place of function f lives once at a time: it is a global, or its function has one frame at a time
abbrev pub IsOfOneVariable : Code → ℕ → Place → Type 0
IsOfOneVariable c f (Place.Global v path) = Unit {0}
IsOfOneVariable c f (Place.Local v path) = HasOneFrame c f

-- The leaf is that of a place of such a variable. A place goes through the fields of structs alone, so its leaf is outside every array;
-- return links and heap blocks have no place.
pub record Single (c : Code) (a : ℕ) : Type 0 where
  pub fun : ℕ
  pub place : Place
  pub leaf : IsLeafPlace c fun place
  pub node : place_node c fun place ≡ a
  pub variable : IsOfOneVariable c fun place
