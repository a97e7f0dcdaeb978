-- The nodes of code, numbered from 0: for each global, then each variable of each function, then each heap site, its shape
-- first, and then its parts in order. All items of an array are one.
use Rattle.std.specs.Prelude.{ℕ, ◌+◌, Bool, true, false, nat_eq, Some, None, List, [], ◌∷◌, reverse, length, map, filter, sum, take, slice_get, slice_index}
use Rattle.std.specs.List.{flat_map, range_with_len}
use Rattle.tac_ir.specs.declared.code.Code.{Code}
use Rattle.tac_ir.specs.declared.code.Shape.{Shape}
use Rattle.tac_ir.specs.declared.code.Place.{Place}
use Rattle.tac_ir.specs.Layout.{parts_of, vars_of, shapes_of_globals}
use Rattle.tac_ir.specs.Counts.{shape_nodes, vars_in_funs, shapes_used, nodes_in_code}
use Rattle.tac_ir.specs.Places.{is_leaf}

-- The shape of each node.

-- the shapes of the nodes behind the first one of a shape, by those of the shapes that it names
abbrev pub shapes_below : (ℕ → List ℕ) → Shape → List ℕ
shapes_below nodes Shape.Int = []
shapes_below nodes Shape.Ptr = []
shapes_below nodes (Shape.Array len item) = nodes item
shapes_below nodes (Shape.Struct parts) = flat_map nodes parts

-- those of all nodes of shape s, among shapes listed with the last one first
unfoldable pub node_shapes_in : List Shape → ℕ → List ℕ
node_shapes_in [] s = []
node_shapes_in (shape ∷ earlier) s =
    elim (nat_eq s (length earlier)) [ true ↦ s ∷ shapes_below (node_shapes_in earlier) shape | false ↦ node_shapes_in earlier s ]

-- the shape of each node of code, from node 0 on
abbrev pub node_shapes : Code → List ℕ
node_shapes c = flat_map (node_shapes_in (reverse c.shapes)) (shapes_used c)

-- a leaf is a node that holds an int or a pointer
abbrev pub is_leaf_node : Code → ℕ → Bool
is_leaf_node c n = elim (slice_get (node_shapes c) n) [ None ↦ false | Some s ↦ is_leaf c s ]

-- Where nodes begin.

-- how many nodes the first n of these shapes have
abbrev pub nodes_before : Code → List ℕ → ℕ → ℕ
nodes_before c shapes n = sum (map (shape_nodes c) (take n shapes))

abbrev pub global_node : Code → ℕ → ℕ
global_node c v = nodes_before c (shapes_used c) v

abbrev pub var_node : Code → ℕ → ℕ → ℕ
var_node c f v = nodes_before c (shapes_used c) (length c.globals + (length (vars_in_funs (take f c.funs)) + v))

abbrev pub site_node : Code → ℕ → ℕ
site_node c site = nodes_before c (shapes_used c) (length c.globals + (length (vars_in_funs c.funs) + site))

-- how far the node of part k of a struct stands behind that of the struct
abbrev pub part_node : Code → ℕ → ℕ → ℕ
part_node c s k = 1 + nodes_before c (parts_of c s) k

-- the same of the node at the end of a path of fields
abbrev pub nodes_along : Code → ℕ → List ℕ → ℕ
nodes_along c s [] = 0
nodes_along c s (k ∷ path) = part_node c s k + nodes_along c (slice_index (parts_of c s) k) path

-- the node of a place of function f
abbrev pub place_node : Code → ℕ → Place → ℕ
place_node c f (Place.Global v path) = global_node c v + nodes_along c (slice_index (shapes_of_globals c) v) path
place_node c f (Place.Local v path) = var_node c f v + nodes_along c (slice_index (vars_of c f) v) path

-- the leaves of global v, ascending
abbrev pub leaves_of_global : Code → ℕ → List ℕ
leaves_of_global c v = filter (is_leaf_node c) (range_with_len (global_node c v) (shape_nodes c (slice_index (shapes_of_globals c) v)))

-- The return link of function f is a leaf and no node: its number is behind those of all nodes.
abbrev pub link_leaf : Code → ℕ → ℕ
link_leaf c f = nodes_in_code c + f
