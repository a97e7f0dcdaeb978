-- The sets of code, by its tables.
use Rattle.std.specs.Prelude.{◌≡◌, ◌↔◌, ℕ, zero, suc, true, Some, None, List, [], length, All, IsTrue, nat_lt, slice_get}
use Rattle.tac_ir.specs.declared.code.Code.{Code}
use Rattle.tac_ir.specs.Module.{is_chain}
use Rattle.tac_ir.specs.Numbers.{reads_made}
use Rattle.tac_ir.specs.Answers.{has}
use Rattle.flow_rules.specs.Tables.{AccessTable, ReachTable}
use Rattle.flow_rules.specs.InSet.{InSet}

-- the set of read r, from 1 on
abbrev pub set_in : List (List ℕ) → ℕ → List ℕ
set_in sets zero = []
set_in sets (suc r) = elim (slice_get sets r) [ None ↦ [] | Some set ↦ set ]

-- each read has a set: its definitions, ascending
pub record AreSets (c : Code) (acc : AccessTable) (reach : ReachTable) (sets : List (List ℕ)) : Type 0 where
  pub count : length sets ≡ length (reads_made c)
  pub order : All (λ set. IsTrue (is_chain nat_lt set)) sets
  pub each : (r d : ℕ) → (has (set_in sets r) d ≡ true) ↔ InSet c acc reach r d
