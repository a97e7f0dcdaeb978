-- Laws of the numbers of nodes.
use Rattle.std.specs.Prelude.{◌≡◌, ℕ, Some, length, slice_get}
use Rattle.tac_ir.specs.declared.code.Code.{Code}
use Rattle.tac_ir.specs.declared.code.Place.{Place}
use Rattle.tac_ir.specs.Counts.{nodes_in_code}
use Rattle.tac_ir.specs.Places.{shape_of_place}
use Rattle.tac_ir.specs.GoodForm.{GoodForm}
use Rattle.tac_ir.specs.Nodes.{node_shapes, place_node}

-- there are as many nodes as the limit on them counts
abbrev pub NodesAreCounted : Type 0
NodesAreCounted = (c : Code) → length (node_shapes c) ≡ nodes_in_code c

-- in code of a good form the node of a place is one of its shape
abbrev pub PlacesAreNodes : Type 0
PlacesAreNodes = (c : Code) → GoodForm c → (f : ℕ) (place : Place) (s : ℕ) → shape_of_place c f place ≡ Some s → slice_get (node_shapes c) (place_node c f place) ≡ Some s
