-- Laws of what definitions and reads may touch: what a number stands for is what its instruction says.
use Rattle.std.specs.Prelude.{◌≡◌, ℕ, suc, ◌<◌, Bool, IsTrue, Some, List, length}
use Rattle.std.specs.List.{list_all}
use Rattle.dfi_base.specs.declared.numbers.Point.{Point}
use Rattle.tac_ir.specs.declared.code.Code.{Code}
use Rattle.tac_ir.specs.declared.module.Fact.{Fact}
use Rattle.tac_ir.specs.declared.module.PointsRow.{PointsRow}
use Rattle.tac_ir.specs.Module.{is_chain, pair_before, is_row}
use Rattle.tac_ir.specs.Layout.{instr_at}
use Rattle.tac_ir.specs.Numbers.{new_def, new_read}
use Rattle.tac_ir.specs.GoodForm.{GoodForm}
use Rattle.tac_ir.specs.Nodes.{leaves_of_global}
use Rattle.tac_ir.specs.Accesses.{leaves_defined, leaves_read, leaves_of_def, leaves_of_read, facts_of}

abbrev pub DefinitionsTouch : Type 0
DefinitionsTouch = (c : Code) → GoodForm c → (points : List PointsRow) (p : Point) (d : ℕ) → new_def (instr_at c p) ≡ Some d
    → leaves_of_def c points d ≡ leaves_defined c points p.fun (instr_at c p)

abbrev pub ReadsTouch : Type 0
ReadsTouch = (c : Code) → GoodForm c → (points : List PointsRow) (p : Point) (r : ℕ) → new_read (instr_at c p) ≡ Some r
    → leaves_of_read c points r ≡ leaves_read c points p.fun (instr_at c p)

abbrev pub StartsTouch : Type 0
StartsTouch = (c : Code) (points : List PointsRow) (v : ℕ) → v < length c.globals → leaves_of_def c points (suc v) ≡ leaves_of_global c v

-- facts ascend by definition, and then by leaf, where rows do
abbrev pub fact_before : Fact → Fact → Bool
fact_before a b = pair_before a.def a.leaf b.def b.leaf

abbrev pub FactsAscend : Type 0
FactsAscend = (c : Code) → GoodForm c → (points : List PointsRow) → IsTrue (list_all (λ r. is_row r.nodes) points) → IsTrue (is_chain fact_before (facts_of c points))
