-- Rows of bits for the first points of a module.
use Rattle.std.specs.Prelude.{◌≡◌, ℕ, ◌<◌, Bool, List, [], length, slice_index_or}
use Rattle.dfi_base.specs.Bits as bits
use Rattle.dfi_base.specs.declared.numbers.Point.{Point}
use Rattle.tac_ir.specs.Module.{Module}
use Rattle.tac_ir.specs.Answers.{has}
use Rattle.tac_ir.specs.GoodModule.{IsPoint, fact_count}
use Rattle.flow_rules.specs.PointNumber.{point_number}
use Rattle.flow_rules.specs.Tables.{facts_at}

-- the row is so long, and has these places alone
pub record IsRowWith (len : ℕ) (places : List ℕ) (row : List Bool) : Type 0 where
  pub long : length row ≡ len
  pub same : (k : ℕ) → bits.has row k ≡ has places k

-- a row for each point before this one, with the facts that reach it
pub record AreRowsBefore (m : Module) (p : Point) (rows : List (List Bool)) : Type 0 where
  pub count : length rows ≡ point_number m.code p
  pub each : (q : Point) → IsPoint m.code q → point_number m.code q < point_number m.code p
      → IsRowWith (fact_count m) (facts_at m.reach q) (slice_index_or rows (point_number m.code q) [])
