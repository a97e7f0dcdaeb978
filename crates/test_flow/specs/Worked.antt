-- The programs, and how much they have.
use Rattle.std.specs.Prelude.{◌≡◌, ℕ, Bool, ◌&&◌, nat_lt, nat_eq, List, length, All}
use Rattle.std.specs.List.{list_all}
use Rattle.tac_ir.specs.declared.code.Code.{Code}
use Rattle.tac_ir.specs.declared.module.Key.{Key}
use Rattle.tac_ir.specs.declared.module.PointsRow.{PointsRow}
use Rattle.tac_ir.specs.Module.{is_chain, is_row, key_before}
use Rattle.tac_ir.specs.GoodForm.{GoodForm}
use Rattle.tac_ir.specs.Numbers.{defs_in_code, reads_made}
use Rattle.tac_ir.specs.Counts.{points_in_code, nodes_in_code, temps_of}
use Rattle.test_flow.specs.declared.program.Program.{Program}
use Rattle.test_flow.specs.declared.program.Counts.{Counts}
use Rattle.test_flow.specs.declared.tables.Line.{Line}

abbrev pub counts : ℕ → ℕ → ℕ → ℕ → ℕ → Counts
counts points defs reads temps nodes = record { points = points; defs = defs; reads = reads; temps = temps; nodes = nodes }

abbrev pub counts_of : Program → Counts
counts_of Program.Arrays = counts 23 6 3 16 6
counts_of Program.Twice = counts 5 3 1 2 1
counts_of Program.Once = counts 7 3 2 1 1
counts_of Program.Itself = counts 8 4 2 1 1
counts_of Program.Beside = counts 12 4 2 3 1

pub record IsWorked (c : Code) (n : Counts) : Type 0 where
  pub form : GoodForm c
  pub points : points_in_code c ≡ n.points
  pub defs : defs_in_code c ≡ n.defs
  pub reads : length (reads_made c) ≡ n.reads
  pub temps : temps_of c 0 ≡ n.temps
  pub nodes : nodes_in_code c ≡ n.nodes

abbrev pub row_of : Line → PointsRow
row_of line = record { key = line.0; nodes = line.1.now }

-- a temporary of main or a node, by how many there are
abbrev pub is_key : Counts → Key → Bool
is_key n (Key.Temp f t) = nat_eq f 0 && nat_lt t n.temps
is_key n (Key.Node k) = nat_lt k n.nodes

abbrev pub is_fitting : Counts → PointsRow → Bool
is_fitting n row = is_key n row.key && list_all (λ k. nat_lt k n.nodes) row.nodes

-- rows of what exists, none of them empty, in their order
abbrev pub are_fitting : Counts → List PointsRow → Bool
are_fitting n rows = list_all (is_fitting n) rows && (list_all (λ r. is_row r.nodes) rows && is_chain (λ a b. key_before a.key b.key) rows)

-- so many rows of so many bits
pub record AreRows (many long : ℕ) (rows : List (List Bool)) : Type 0 where
  pub count : length rows ≡ many
  pub width : All (λ row. length row ≡ long) rows
