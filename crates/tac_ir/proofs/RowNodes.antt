-- Nodes, leaves and facts of small modules, by computation.
use Rattle.std.proofs.Common.{◌≡◌, List, [], ◌∷◌, ◌++◌, map, refl, Some, None}
use Rattle.std.specs.Prelude.{pos}
use Rattle.tac_ir.specs.declared.code.Code.{Code}
use Rattle.tac_ir.specs.declared.code.Shape.{Shape}
use Rattle.tac_ir.specs.declared.code.Place.{Place}
use Rattle.tac_ir.specs.declared.code.Instr.{Instr}
use Rattle.tac_ir.specs.declared.module.Key.{Key}
use Rattle.tac_ir.specs.declared.module.PointsRow.{PointsRow}
use Rattle.tac_ir.specs.Counts.{nodes_in}
use Rattle.tac_ir.specs.Nodes.{node_shapes_in, node_shapes, global_node, var_node, site_node, place_node, leaves_of_global, link_leaf}
use Rattle.tac_ir.specs.Accesses.{leaves_of_def, leaves_of_read, facts_of}
use Rattle.tac_ir.proofs.Rows.{at_line, indexed, overrun}

-- Two arrays. int a[2]; int b[2]; int main() { int *p; int i; .. }

abbrev pub arrays : Code
arrays = record {
  shapes = Shape.Int ∷ Shape.Ptr ∷ Shape.Array 2 0 ∷ [];
  globals = record { shape = 2; start = pos 0; line = 1 } ∷ record { shape = 2; start = pos 0; line = 1 } ∷ [];
  sites = [];
  main = 0;
  funs = record { params = 0; vars = 1 ∷ 0 ∷ []; line = 1; code = at_line 1 (Instr.Const 0 (pos 0)) ∷ at_line 1 (Instr.Ret 0 None) ∷ [] } ∷ [];
}

-- a is 0 and its items are 1, b is 2 and 3, p is 4, i is 5
arrays_row : node_shapes arrays ≡ 2 ∷ 0 ∷ 2 ∷ 0 ∷ 1 ∷ 0 ∷ []
unfolding node_shapes_in
arrays_row = refl

arrays_begin : map (global_node arrays) (0 ∷ 1 ∷ []) ++ map (var_node arrays 0) (0 ∷ 1 ∷ []) ≡ 0 ∷ 2 ∷ 4 ∷ 5 ∷ []
unfolding nodes_in
arrays_begin = refl

arrays_leaves : map (leaves_of_global arrays) (0 ∷ 1 ∷ []) ≡ (1 ∷ []) ∷ (3 ∷ []) ∷ []
unfolding nodes_in node_shapes_in
arrays_leaves = refl

-- A struct within a struct, behind the nodes of a global. int x; struct T { int *q; struct S { int k; int *r; } s; } in a function and on the heap.

abbrev pub nested : Code
nested = record {
  shapes = Shape.Int ∷ Shape.Ptr ∷ Shape.Struct (0 ∷ 1 ∷ []) ∷ Shape.Struct (1 ∷ 2 ∷ []) ∷ [];
  globals = record { shape = 0; start = pos 0; line = 1 } ∷ [];
  sites = record { shape = 3; line = 2 } ∷ [];
  main = 1;
  funs =
      record { params = 0; vars = 0 ∷ 3 ∷ []; line = 1; code = at_line 1 (Instr.Const 0 (pos 0)) ∷ at_line 1 (Instr.Ret 0 (Some 1)) ∷ [] }
      ∷ record { params = 0; vars = 3 ∷ []; line = 2; code = at_line 2 (Instr.Const 0 (pos 0)) ∷ at_line 2 (Instr.Ret 0 None) ∷ [] } ∷ [];
}

nested_row : node_shapes nested ≡ 0 ∷ 0 ∷ (3 ∷ 1 ∷ 2 ∷ 0 ∷ 1 ∷ []) ++ (3 ∷ 1 ∷ 2 ∷ 0 ∷ 1 ∷ []) ++ (3 ∷ 1 ∷ 2 ∷ 0 ∷ 1 ∷ [])
unfolding node_shapes_in
nested_row = refl

-- the field r of the field s of the variable of main, the site, and the link of the other function
nested_places : place_node nested 1 (Place.Local 0 (1 ∷ 1 ∷ [])) ∷ site_node nested 0 ∷ link_leaf nested 0 ∷ [] ≡ 11 ∷ 12 ∷ 17 ∷ []
unfolding nodes_in
nested_places = refl

-- An index out of bounds: the array is node 0, its items 1, x is 2; t1, t2 and t4 point to them.

abbrev pub indexed_points : List PointsRow
indexed_points =
    record { key = Key.Temp 0 1; nodes = 0 ∷ [] } ∷ record { key = Key.Temp 0 2; nodes = 1 ∷ [] } ∷ record { key = Key.Temp 0 4; nodes = 1 ∷ [] } ∷ []

indexed_facts : facts_of (indexed 4).code indexed_points
    ≡ record { def = 1; leaf = 1 } ∷ record { def = 2; leaf = 2 } ∷ record { def = 3; leaf = 2 } ∷ record { def = 4; leaf = 1 } ∷ []
unfolding nodes_in node_shapes_in
indexed_facts = refl

indexed_read : leaves_of_read (indexed 4).code indexed_points 1 ≡ 2 ∷ []
unfolding nodes_in
indexed_read = refl

-- A write over a return link: p is node 0, a is 1, its items 2; the link of f is leaf 3.

abbrev pub overrun_points : List PointsRow
overrun_points =
    record { key = Key.Temp 0 0; nodes = 2 ∷ [] } ∷ record { key = Key.Temp 0 1; nodes = 2 ∷ [] } ∷ record { key = Key.Temp 0 3; nodes = 2 ∷ [] }
    ∷ record { key = Key.Temp 1 0; nodes = 1 ∷ [] } ∷ record { key = Key.Temp 1 1; nodes = 2 ∷ [] } ∷ record { key = Key.Node 0; nodes = 2 ∷ [] } ∷ []

overrun_defs : map (leaves_of_def (overrun 2).code overrun_points) (1 ∷ 2 ∷ 3 ∷ []) ≡ (0 ∷ []) ∷ (2 ∷ []) ∷ (3 ∷ []) ∷ []
unfolding nodes_in node_shapes_in
overrun_defs = refl

overrun_reads : map (leaves_of_read (overrun 2).code overrun_points) (1 ∷ 2 ∷ 3 ∷ []) ≡ (0 ∷ []) ∷ (3 ∷ []) ∷ (3 ∷ []) ∷ []
unfolding nodes_in
overrun_reads = refl
