use Rattle.flow_rules.proofs.Least.{reach_has_all, reach_least}
use Rattle.flow_rules.proofs.law.reach_is_least.Goals as goal

pub returns-clause-all : goal.returns-clause-all
returns-clause-all c = reach_has_all

pub returns-clause-least : goal.returns-clause-least
returns-clause-least c = reach_least
