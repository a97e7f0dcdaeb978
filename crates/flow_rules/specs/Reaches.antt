-- Definition d reaches point p for leaf a, as rules of inference: the least table of reach.
use Rattle.std.specs.Prelude.{◌≡◌, ℕ, suc, ◌<◌, true, Some, List, length, Contains}
use Rattle.dfi_base.specs.declared.numbers.Point.{Point}
use Rattle.tac_ir.specs.declared.code.Code.{Code}
use Rattle.tac_ir.specs.declared.code.Instr.{Instr}
use Rattle.tac_ir.specs.Layout.{instr_at}
use Rattle.tac_ir.specs.Edges.{edges_from}
use Rattle.tac_ir.specs.Numbers.{new_def}
use Rattle.tac_ir.specs.Regions.{Region, regions_of}
use Rattle.tac_ir.specs.Bodies.{InBody}
use Rattle.tac_ir.specs.Nodes.{leaves_of_global}
use Rattle.tac_ir.specs.Answers.{has}
use Rattle.flow_rules.specs.PointNumber.{point_at, entry}
use Rattle.flow_rules.specs.Kills.{Kills}
use Rattle.flow_rules.specs.Tables.{AccessTable}

pub data Reaches (c : Code) (acc : AccessTable) (a : ℕ) : Point → ℕ → Type 0 where
  starts : (v : ℕ) → v < length c.globals → has (leaves_of_global c v) a ≡ true → Reaches c acc a (entry c.main) (suc v)
  makes : (p q : Point) (d : ℕ) → new_def (instr_at c p) ≡ Some d → acc p a ≡ true → Contains (edges_from c p) q → Reaches c acc a q d
  keeps : (p q : Point) (d : ℕ) → Reaches c acc a p d → (Kills c p.fun (instr_at c p) a → ⊥) → Contains (edges_from c p) q → Reaches c acc a q d
  joins_one : (p q : Point) (join d : ℕ) (entries : List ℕ) (r : Region) → instr_at c p ≡ Instr.Fork join entries → Contains (regions_of p.at join entries) r
      → InBody c p.fun r q → new_def (instr_at c q) ≡ Some d → Reaches c acc a (point_at p.fun r.last) d → Reaches c acc a (point_at p.fun join) d
  joins_all : (p : Point) (join d : ℕ) (entries : List ℕ) → instr_at c p ≡ Instr.Fork join entries
      → ((r : Region) → Contains (regions_of p.at join entries) r → Reaches c acc a (point_at p.fun r.last) d) → Reaches c acc a (point_at p.fun join) d
