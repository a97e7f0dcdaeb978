-- The form of a module is good: that of its code, and its tables have as many rows as they need and name what exists.
use Rattle.std.specs.Prelude.{◌≡◌, ℕ, ◌<◌, ◌≤◌, length, All}
use Rattle.dfi_base.specs.declared.numbers.Point.{Point}
use Rattle.dfi_base.specs.Limits.{fact_limit}
use Rattle.tac_ir.specs.declared.code.Code.{Code}
use Rattle.tac_ir.specs.declared.module.Key.{Key}
use Rattle.tac_ir.specs.declared.module.PointsRow.{PointsRow}
use Rattle.tac_ir.specs.declared.module.ReachRow.{ReachRow}
use Rattle.tac_ir.specs.Module.{Module, IsOrdered}
use Rattle.tac_ir.specs.Layout.{lines_of}
use Rattle.tac_ir.specs.Numbers.{reads_made}
use Rattle.tac_ir.specs.Counts.{temps_of, nodes_in_code}
use Rattle.tac_ir.specs.GoodForm.{GoodForm}
use Rattle.tac_ir.specs.Tables.{HasGoodTables}
use Rattle.tac_ir.specs.Accesses.{facts_of}

abbrev pub IsNode : Code → ℕ → Type 0
IsNode c n = n < nodes_in_code c

-- a temporary of a function, or a node
abbrev pub IsKey : Code → Key → Type 0
IsKey c (Key.Temp f t) = t < temps_of c f
IsKey c (Key.Node n) = IsNode c n

pub record IsGoodPointsRow (c : Code) (row : PointsRow) : Type 0 where
  pub key : IsKey c row.key
  pub nodes : All (IsNode c) row.nodes

abbrev pub IsPoint : Code → Point → Type 0
IsPoint c p = p.at < length (lines_of c p.fun)

abbrev pub fact_count : Module → ℕ
fact_count m = length (facts_of m.code m.points)

pub record IsGoodReachRow (m : Module) (row : ReachRow) : Type 0 where
  pub point : IsPoint m.code row.point
  pub facts : All (λ fact. fact < fact_count m) row.facts

-- A run needs of it the form of the code and the tables of classes and sets. It needs neither that each read has a set of its
-- own and a mark (read r without one is checked, and its set is empty), nor the rows of points and reach, nor the limit on facts.
pub record GoodModule (m : Module) : Type 0 where
  pub form : GoodForm m.code
  pub tables : HasGoodTables m
  -- each read has a set and a mark
  pub sets : length m.sets ≡ length (reads_made m.code)
  pub marks : length m.removed ≡ length (reads_made m.code)
  -- members and rows stand in order
  pub ordered : IsOrdered m.sets m.removed m.points m.reach
  pub points : All (IsGoodPointsRow m.code) m.points
  pub facts : fact_count m ≤ fact_limit
  pub reach : All (IsGoodReachRow m) m.reach
