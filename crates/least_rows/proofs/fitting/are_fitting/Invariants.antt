use Rattle.std.proofs.Common.{All, take}
use Rattle.least_rows.specs.Rules.{IsFittingRule}
use Rattle.least_rows.proofs.fitting.are_fitting.Given as goal

abbrev pub invariant-loop-rule : goal.invariant-loop-rule
invariant-loop-rule l = All (IsFittingRule l.width l.masks l.rows) (take l.rule-index l.rules)
