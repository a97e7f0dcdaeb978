-- Facts that are added to a list within the limit.
use Rattle.std.specs.Prelude.{◌≡◌, ℕ, suc, ◌<◌, ◌≤◌, Some, None, Result, Ok, Err, List, [], ◌++◌, length, map, take}
use Rattle.std.specs.List.{flat_map, range_with_len}
use Rattle.dfi_base.specs.Limits.{fact_limit}
use Rattle.tac_ir.specs.declared.code.Code.{Code}
use Rattle.tac_ir.specs.declared.code.Instr.{Instr}
use Rattle.tac_ir.specs.declared.module.Fact.{Fact}
use Rattle.tac_ir.specs.declared.module.PointsRow.{PointsRow}
use Rattle.tac_ir.specs.Accesses.{accesses_in, accesses_in_funs, facts_by, leaves_defined}
use Rattle.tac_ir.specs.Layout.{lines_of}
use Rattle.tac_ir.specs.Nodes.{leaves_of_global}
use Rattle.tac_ir.specs.Numbers.{new_def}
use Rattle.flow_rules.specs.declared.rule.FactsFault.{FactsFault}

abbrev pub facts_with : ℕ → List ℕ → List Fact
facts_with d leaves = map (λ leaf. record { def = d; leaf = leaf }) leaves

-- those of the definition of an instruction of function f
abbrev pub facts_of_instr : Code → List PointsRow → ℕ → Instr → List Fact
facts_of_instr c points f i = elim (new_def i) [ Some d ↦ facts_with d (leaves_defined c points f i) | None ↦ [] ]

abbrev pub IsWithinLimit : List Fact → Result Unit FactsFault → Type 0
IsWithinLimit facts (Ok u) = length facts ≤ fact_limit
IsWithinLimit facts (Err (FactsFault.Wide n)) = (n ≡ suc fact_limit) × (fact_limit < length facts)
IsWithinLimit facts (Err FactsFault.Memory) = ⊥

-- what is added follows the old ones, where all are within the limit
abbrev pub IsAdded : List Fact → List Fact → List Fact → Result Unit FactsFault → Type 0
IsAdded old more new (Ok u) = (new ≡ old ++ more) × (length new ≤ fact_limit)
IsAdded old more new (Err (FactsFault.Wide n)) = (n ≡ suc fact_limit) × (fact_limit < length (old ++ more))
IsAdded old more new (Err FactsFault.Memory) = Unit {0}

-- What was added by the first n of each.

pub record AreStarts (c : Code) (old new : List Fact) (n : ℕ) : Type 0 where
  pub added : new ≡ old ++ flat_map (λ v. facts_with (suc v) (leaves_of_global c v)) (range_with_len 0 n)
  pub few : length new ≤ fact_limit

pub record AreOfLines (c : Code) (points : List PointsRow) (f : ℕ) (old new : List Fact) (n : ℕ) : Type 0 where
  pub added : new ≡ old ++ flat_map facts_by (accesses_in new_def (leaves_defined c points) f (take n (lines_of c f)))
  pub few : length new ≤ fact_limit

pub record AreOfFuns (c : Code) (points : List PointsRow) (old new : List Fact) (n : ℕ) : Type 0 where
  pub added : new ≡ old ++ flat_map facts_by (accesses_in_funs new_def (leaves_defined c points) 0 (take n c.funs))
  pub few : length new ≤ fact_limit
