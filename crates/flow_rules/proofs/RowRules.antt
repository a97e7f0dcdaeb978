-- Rules on small code, by computation.
use Rattle.std.proofs.Common.{◌≡◌, ℕ, true, false, List, [], ◌∷◌, map, refl, arith, Some, None}
use Rattle.std.specs.Prelude.{pos, count_by}
use Rattle.std.specs.List.{range_with_len}
use Rattle.tac_ir.specs.declared.code.Code.{Code}
use Rattle.tac_ir.specs.declared.code.Shape.{Shape}
use Rattle.tac_ir.specs.declared.code.Instr.{Instr}
use Rattle.tac_ir.specs.Regions.{Region}
use Rattle.tac_ir.specs.Bodies.{Parallel}
use Rattle.tac_ir.specs.Bodies.InBody.{inside, called}
use Rattle.tac_ir.specs.Nodes.{node_shapes_in}
use Rattle.tac_ir.specs.Counts.{nodes_in}
use Rattle.tac_ir.proofs.Rows.{at_line, indexed}
use Rattle.tac_ir.proofs.RowNodes.{arrays, indexed_points}
use Rattle.flow_rules.specs.PointNumber.{point_at, entry, point_number}
use Rattle.flow_rules.specs.CanCall.{HasOneFrame}
use Rattle.flow_rules.specs.CanCall.CanCall.{one}
use Rattle.flow_rules.specs.PointsClosed.{HasShape}
use Rattle.flow_rules.specs.Touches.{touches}
use Rattle.flow_rules.specs.ClassOf.{is_least}

-- Classes. A variable is set before two branches, one of which sets it too while the other reads it.

abbrev two_sets : List (List ℕ)
two_sets = (3 ∷ 4 ∷ []) ∷ (5 ∷ []) ∷ []

two_classes : map (λ d. count_by (is_least two_sets) (range_with_len 1 d)) (1 ∷ 2 ∷ 3 ∷ 4 ∷ 5 ∷ []) ≡ 1 ∷ 1 ∷ 2 ∷ 2 ∷ 3 ∷ []
two_classes = refl

-- two definitions of a local of a recursive function stand in the sets of the same reads
abbrev local_sets : List (List ℕ)
local_sets = (1 ∷ []) ∷ (1 ∷ []) ∷ (1 ∷ []) ∷ (2 ∷ 4 ∷ []) ∷ (2 ∷ 4 ∷ []) ∷ (3 ∷ 5 ∷ []) ∷ [] ∷ []

local_least : map (is_least local_sets) (1 ∷ 2 ∷ 3 ∷ 4 ∷ 5 ∷ []) ≡ true ∷ true ∷ true ∷ false ∷ false ∷ []
local_least = refl

-- Accesses. A store through a pointer to the items of an array touches the item alone, and the read behind it another variable.

stored : map (touches (indexed 4).code indexed_points (point_at 0 7)) (0 ∷ 1 ∷ 2 ∷ []) ≡ false ∷ true ∷ false ∷ []
unfolding nodes_in node_shapes_in
stored = refl

-- the array and its items are two nodes
first_array : HasShape arrays 0 2 × HasShape arrays 1 0
unfolding node_shapes_in
first_array = (refl, refl)

-- Frames. A function that calls itself may have two.

abbrev recursive : Code
recursive = record {
  shapes = Shape.Int ∷ Shape.Ptr ∷ [];
  globals = [];
  sites = [];
  main = 1;
  funs =
      record { params = 0; vars = 0 ∷ []; line = 1; code = at_line 1 (Instr.Call 0 0 1 []) ∷ at_line 1 (Instr.Ret 0 (Some 1)) ∷ [] }
      ∷ record { params = 0; vars = []; line = 2; code = at_line 2 (Instr.Call 0 0 2 []) ∷ at_line 2 (Instr.Ret 0 None) ∷ [] } ∷ [];
}

calls_itself : HasOneFrame recursive 0 → ⊥
calls_itself h = h.once (one (point_at 0 0) 0 refl refl)

-- the second point of the second function is the fourth of all
fourth : point_number recursive (point_at 1 1) ≡ 3
fourth = refl

-- So may one that both branches of a fork call.

abbrev both_call : Code
both_call = record {
  shapes = Shape.Int ∷ Shape.Ptr ∷ [];
  globals = [];
  sites = [];
  main = 1;
  funs =
      record { params = 0; vars = 0 ∷ []; line = 1; code = at_line 1 (Instr.Const 0 (pos 0)) ∷ at_line 1 (Instr.Ret 0 (Some 1)) ∷ [] }
      ∷ record {
        params = 0;
        vars = [];
        line = 2;
        code =
            at_line 2 (Instr.Fork 5 (1 ∷ 3 ∷ [])) ∷ at_line 2 (Instr.Call 0 0 1 []) ∷ at_line 2 Instr.End ∷ at_line 2 (Instr.Call 1 0 2 []) ∷ at_line 2 Instr.End ∷ at_line 2 (Instr.Const 2 (pos 0))
            ∷ at_line 2 (Instr.Ret 2 None) ∷ [];
      } ∷ [];
}

first_branch : Region
first_branch = record { fork = 0; entry = 1; last = 2 }

second_branch : Region
second_branch = record { fork = 0; entry = 3; last = 4 }

beside_itself : Parallel both_call (entry 0) (entry 0)
unfolding first_branch second_branch
beside_itself = record {
  fun = 1;
  left = first_branch;
  right = second_branch;
  left_region = (0, omega arith, refl);
  right_region = (1, omega arith, refl);
  one_fork = refl;
  apart = λ same. omega (arith, same);
  left_body = called (point_at 1 1) (entry 0) (inside (point_at 1 1) refl (record { low = omega arith; high = omega arith })) refl;
  right_body = called (point_at 1 3) (entry 0) (inside (point_at 1 3) refl (record { low = omega arith; high = omega arith })) refl;
}

runs_beside_itself : HasOneFrame both_call 0 → ⊥
runs_beside_itself h = h.alone beside_itself
