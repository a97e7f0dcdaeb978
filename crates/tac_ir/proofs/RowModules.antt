-- A worked module with its tables is good; without sets it can still run, and is not good.
use Rattle.std.proofs.Common.{◌≡◌, ℕ, zero, suc, List, [], ◌∷◌, map, true, refl}
use Rattle.std.specs.Prelude.{◌++◌}
use Rattle.tac_ir.specs.declared.module.ReachRow.{ReachRow}
use Rattle.tac_ir.specs.Module.{Module}
use Rattle.tac_ir.specs.Layout.{words_in}
use Rattle.tac_ir.specs.Counts.{nodes_in}
use Rattle.tac_ir.specs.Nodes.{node_shapes_in}
use Rattle.tac_ir.specs.Answers.{has, set_of}
use Rattle.tac_ir.specs.Tables.{CanRun}
use Rattle.tac_ir.specs.GoodModule.{GoodModule}
use Rattle.tac_ir.proofs.FormTest.{form_good}
use Rattle.tac_ir.proofs.ModuleTest.{tables-good, module_good}
use Rattle.tac_ir.proofs.Rows.{indexed}
use Rattle.tac_ir.proofs.RowNodes.{indexed_points}

-- from each of these indexes on the same facts reach
abbrev rows_at : List ℕ → List ℕ → List ReachRow
rows_at indexes facts = map (λ i. record { point = record { fun = 0; at = i }; facts = facts }) indexes

-- the index out of bounds, with its rows
abbrev pub indexed_module : Module
indexed_module = record (indexed 4) {
  points = indexed_points;
  reach = rows_at (0 ∷ 1 ∷ []) (0 ∷ 1 ∷ []) ++ rows_at (2 ∷ 3 ∷ 4 ∷ 5 ∷ 6 ∷ 7 ∷ []) (0 ∷ 2 ∷ []) ++ rows_at (8 ∷ 9 ∷ 10 ∷ 11 ∷ []) (0 ∷ 2 ∷ 3 ∷ []);
}

indexed_good : GoodModule indexed_module
unfolding words_in nodes_in node_shapes_in
indexed_good = module_good indexed_module refl

-- without sets
abbrev setless : Module
setless = record indexed_module { sets = []; removed = [] }

setless_runs : CanRun setless
unfolding words_in nodes_in
setless_runs = record { form = form_good setless.code refl; tables = tables-good setless refl; separate = λ r d e number member same. absurd (empty r e member) }
  where
    empty : (r e : ℕ) → has (set_of setless r) e ≡ true → ⊥
    empty zero e member = cc
    empty (suc r) e member = cc

setless_is_not_good : GoodModule setless → ⊥
setless_is_not_good good = (let none = good.sets in cc)
