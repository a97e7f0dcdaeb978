-- A table of reach is closed for a leaf: at each point it keeps to the four rules.
use Rattle.std.specs.Prelude.{◌≡◌, ℕ, suc, ◌<◌, true, Some, List, length, Contains}
use Rattle.dfi_base.specs.declared.numbers.Point.{Point}
use Rattle.tac_ir.specs.declared.code.Code.{Code}
use Rattle.tac_ir.specs.declared.code.Instr.{Instr}
use Rattle.tac_ir.specs.Layout.{instr_at}
use Rattle.tac_ir.specs.Edges.{edges_from}
use Rattle.tac_ir.specs.Numbers.{new_def}
use Rattle.tac_ir.specs.Regions.{Region, regions_of}
use Rattle.tac_ir.specs.Bodies.{InBody}
use Rattle.tac_ir.specs.Nodes.{leaves_of_global}
use Rattle.tac_ir.specs.Answers.{has}
use Rattle.flow_rules.specs.PointNumber.{point_at, entry}
use Rattle.flow_rules.specs.Kills.{Kills}
use Rattle.flow_rules.specs.Tables.{AccessTable, ReachTable}

-- The rules that belong to point p, for leaf a.
pub record ReachClosedAt (c : Code) (acc : AccessTable) (reach : ReachTable) (a : ℕ) (p : Point) : Type 0 where
  -- at main's entry: the starting definition of each global reaches it for the leaves of its global
  pub starts : p ≡ entry c.main → (v : ℕ) → v < length c.globals → has (leaves_of_global c v) a ≡ true → reach p (suc v) a ≡ true
  -- what p defines reaches where the edges from p lead
  pub makes : (d : ℕ) (q : Point) → new_def (instr_at c p) ≡ Some d → acc p a ≡ true → Contains (edges_from c p) q → reach q d a ≡ true
  -- so does what reaches p, where p does not kill it
  pub keeps : (d : ℕ) (q : Point) → reach p d a ≡ true → (Kills c p.fun (instr_at c p) a → ⊥) → Contains (edges_from c p) q → reach q d a ≡ true
  -- where a fork joins: what was defined in the body of a branch and reaches its end
  pub joins_one : (join d : ℕ) (entries : List ℕ) (r : Region) (q : Point) → instr_at c p ≡ Instr.Fork join entries → Contains (regions_of p.at join entries) r
      → InBody c p.fun r q → new_def (instr_at c q) ≡ Some d → reach (point_at p.fun r.last) d a ≡ true → reach (point_at p.fun join) d a ≡ true
  -- and what reaches the end of every branch
  pub joins_all : (join d : ℕ) (entries : List ℕ) → instr_at c p ≡ Instr.Fork join entries
      → ((r : Region) → Contains (regions_of p.at join entries) r → reach (point_at p.fun r.last) d a ≡ true) → reach (point_at p.fun join) d a ≡ true

pub record ReachClosed (c : Code) (acc : AccessTable) (reach : ReachTable) (a : ℕ) : Type 0 where
  pub each : (p : Point) → ReachClosedAt c acc reach a p
