-- Where a node stands among those of some shapes.
use Rattle.std.specs.Prelude.{◌≡◌, ℕ, ◌<◌, ◌≤◌, Some, List, ◌++◌, length, reverse, slice_get}
use Rattle.std.specs.List.{flat_map}
use Rattle.tac_ir.specs.declared.code.Code.{Code}
use Rattle.tac_ir.specs.Counts.{shape_nodes}
use Rattle.tac_ir.specs.Nodes.{node_shapes_in}
use Rattle.flow_rules.specs.declared.leaves.Spot.{Spot}

-- the shapes of the nodes of a shape
abbrev pub nodes_of : Code → ℕ → List ℕ
nodes_of c s = node_shapes_in (reverse c.shapes) s

abbrev pub nodes_of_all : Code → List ℕ → List ℕ
nodes_of_all c shapes = flat_map (nodes_of c) shapes

-- node n of these shapes is node k of one of them, whatever follows
pub record IsWithinSome (c : Code) (shapes : List ℕ) (n s k : ℕ) : Type 0 where
  pub index : ℕ
  pub listed : slice_get shapes index ≡ Some s
  pub least : k ≤ n
  pub node : (rest : List ℕ) → slice_get (nodes_of_all c (shapes ++ rest)) n ≡ slice_get (nodes_of c s) k

-- it is node k of what follows
pub record IsBehindAll (c : Code) (shapes : List ℕ) (n k : ℕ) : Type 0 where
  pub least : k ≤ n
  pub node : (rest : List ℕ) → slice_get (nodes_of_all c (shapes ++ rest)) n ≡ slice_get (nodes_of_all c rest) k

abbrev pub IsSpotAmong : Code → List ℕ → ℕ → Spot → Type 0
IsSpotAmong c shapes n (Spot.Within s k) = IsWithinSome c shapes n s k
IsSpotAmong c shapes n (Spot.Behind k) = IsBehindAll c shapes n k

-- node n of a shape is node k of one that exists and is no larger
pub record IsInside (c : Code) (shape n here k : ℕ) : Type 0 where
  pub listed : here < length c.shapes
  pub fits : shape_nodes c here ≤ shape_nodes c shape
  pub node : slice_get (nodes_of c shape) n ≡ slice_get (nodes_of c here) k
