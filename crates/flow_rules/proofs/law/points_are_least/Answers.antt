use Rattle.flow_rules.proofs.Least.{has_all, points_least}
use Rattle.flow_rules.proofs.law.points_are_least.Goals as goal

pub returns-clause-all : goal.returns-clause-all
returns-clause-all c = has_all

pub returns-clause-least : goal.returns-clause-least
returns-clause-least c = points_least
