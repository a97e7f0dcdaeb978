use Rattle.path_law.proofs.TreeLaws.{main_value_is, none_before}
use Rattle.path_law.proofs.threads_law.main_has_its_value.Goals as goal

pub returns-clause-ended : goal.returns-clause-ended
returns-clause-ended c = main_value_is

pub returns-clause-lives : goal.returns-clause-lives
returns-clause-lives c = none_before
