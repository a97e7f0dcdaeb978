use Rattle.flow_rules.proofs.FactPairs.{facts_touched}
use Rattle.flow_rules.proofs.ReachFacts.{reach_fact}
use Rattle.flow_rules.proofs.law.facts_are_touched.Goals as goal

pub returns-clause-facts : goal.returns-clause-facts
returns-clause-facts c = facts_touched

pub returns-clause-reach : goal.returns-clause-reach
returns-clause-reach c = reach_fact
