-- The facts of code, or that there are too many.
use Rattle.std.specs.Prelude.{◌≡◌, suc, ◌<◌, ◌≤◌, Result, Ok, Err, List, length}
use Rattle.dfi_base.specs.Limits.{fact_limit}
use Rattle.tac_ir.specs.declared.module.Fact.{Fact}
use Rattle.tac_ir.specs.declared.module.Facts.{Facts}
use Rattle.flow_rules.specs.declared.rule.FactsFault.{FactsFault}

-- Given the list of all: they are answered where they keep to the limit. Where they do not, one more than the limit is told.
abbrev pub IsFactsOf : List Fact → Result Facts FactsFault → Type 0
IsFactsOf all (Ok facts) = (facts.pairs ≡ all) × (length all ≤ fact_limit)
IsFactsOf all (Err (FactsFault.Wide n)) = (n ≡ suc fact_limit) × (fact_limit < length all)
IsFactsOf all (Err FactsFault.Memory) = Unit {0}
