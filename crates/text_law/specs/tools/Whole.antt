-- The format of a whole module. A tool of proof.
use Rattle.std.specs.Prelude.{ℕ, Bool, List, [], ◌∷◌, map, codes}
use Rattle.dfi_base.specs.declared.numbers.Point.{Point}
use Rattle.tac_ir.specs.declared.code.Code.{Code}
use Rattle.tac_ir.specs.declared.module.Size.{Size}
use Rattle.tac_ir.specs.declared.module.Key.{Key}
use Rattle.tac_ir.specs.declared.module.PointsRow.{PointsRow}
use Rattle.tac_ir.specs.declared.module.ReachRow.{ReachRow}
use Rattle.tac_ir.specs.Module.{Module}
use Rattle.line_format.specs.tools.Format.{Format, give, chain}
use Rattle.line_format.specs.tools.Words.{Table, word, one_of}
use Rattle.text_law.specs.tools.Instrs.{number, pair}
use Rattle.text_law.specs.tools.Parts.{behind, section, code, class, set}
use Rattle.text_law.specs.tools.Keys.{points_rows, reach_rows}

abbrev pub sizes : Table Size
sizes = (codes "dfimod 2\n", Size.Small) ∷ (codes "dfimod 3\n", Size.Large) ∷ []

-- a count behind a word, and so many rows
abbrev pub points : Format (List (Key × List ℕ))
points = chain (behind (codes "points ") (number 10)) points_rows

abbrev pub reach : Format (List (Point × List ℕ))
reach = chain (behind (codes "reach ") (number 10)) reach_rows

abbrev pub Parts : Type 0
Parts = Size × (Code × (List ℕ × (List (Bool × List ℕ) × (List (Key × List ℕ) × List (Point × List ℕ)))))

abbrev pub points_row : Key × List ℕ → PointsRow
points_row p = record { key = p.0; nodes = p.1 }

abbrev pub reach_row : Point × List ℕ → ReachRow
reach_row p = record { point = p.0; facts = p.1 }

abbrev pub module_of : Parts → Module
module_of p = record {
  size = p.0;
  code = p.1.0;
  classes = p.1.1.0;
  sets = map (λ r. r.1) p.1.1.1.0;
  removed = map (λ r. r.0) p.1.1.1.0;
  points = map points_row p.1.1.1.1.0;
  reach = map reach_row p.1.1.1.1.1;
}

abbrev pub tables : Format (List ℕ × (List (Bool × List ℕ) × (List (Key × List ℕ) × List (Point × List ℕ))))
tables = pair (section (codes "definitions ") class) (pair (section (codes "reads ") set) (pair points reach))

abbrev pub parts : Format Parts
parts = pair (one_of sizes) (pair code tables)

abbrev pub whole : Format Module
whole = chain parts (λ p. chain (word (codes "end\n")) (λ u. give (module_of p)))
