-- Masks of which the first nodes are marked.
use Rattle.std.specs.Prelude.{◌≡◌, ◌↔◌, ℕ, ◌+◌, ◌<◌, true, All, IsTrue, length}
use Rattle.tac_ir.specs.declared.code.Code.{Code}
use Rattle.tac_ir.specs.Counts.{nodes_in_code}
use Rattle.tac_ir.specs.Nodes.{is_leaf_node}
use Rattle.least_rows.specs.Rules.{Table, row_has}
use Rattle.flow_rules.specs.PointsClosed.{HasShape}
use Rattle.points_to.specs.Systems.{leaf_mask}

-- by their shapes those before one node, and the leaves before another
pub record AreMarked (c : Code) (n m : ℕ) (masks : Table) : Type 0 where
  pub count : length masks ≡ length c.shapes + 1
  pub wide : All (λ mask. length mask ≡ nodes_in_code c) masks
  pub shapes : (s k : ℕ) → s < length c.shapes → IsTrue (row_has masks s k) ↔ ((k < n) × HasShape c k s)
  pub leaves : (k : ℕ) → IsTrue (row_has masks (leaf_mask c) k) ↔ ((k < m) × (is_leaf_node c k ≡ true))
