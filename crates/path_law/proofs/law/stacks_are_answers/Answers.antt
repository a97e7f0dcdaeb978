use Rattle.path_law.proofs.Fitting.{calls_fit, forks_fit}
use Rattle.path_law.proofs.law.stacks_are_answers.Goals as goal

pub returns-clause-calls : goal.returns-clause-calls
returns-clause-calls c = calls_fit

pub returns-clause-forks : goal.returns-clause-forks
returns-clause-forks c = forks_fit
