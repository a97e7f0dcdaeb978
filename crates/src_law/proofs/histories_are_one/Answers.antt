use Rattle.src_law.proofs.Clean.{histories_go_on, histories_one, alone_one}
use Rattle.src_law.proofs.histories_are_one.Goals as goal

pub returns-clause-goes_on : goal.returns-clause-goes_on
returns-clause-goes_on c = histories_go_on

pub returns-clause-by_names : goal.returns-clause-by_names
returns-clause-by_names c = histories_one

pub returns-clause-alone : goal.returns-clause-alone
returns-clause-alone c = alone_one
