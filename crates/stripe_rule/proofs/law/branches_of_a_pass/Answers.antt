use Rattle.stripe_rule.proofs.Branches.{taken_in, others, nobody_left}
use Rattle.stripe_rule.proofs.law.branches_of_a_pass.Goals as goal

pub returns-clause-gone : goal.returns-clause-gone
returns-clause-gone c = taken_in

pub returns-clause-others : goal.returns-clause-others
returns-clause-others c = others

pub returns-clause-nobody : goal.returns-clause-nobody
returns-clause-nobody c = nobody_left
