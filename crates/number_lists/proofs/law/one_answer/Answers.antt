use Rattle.number_lists.specs.Lists.{int_of, name_of}
use Rattle.number_lists.proofs.OneAnswer.{one_answer}
use Rattle.number_lists.proofs.law.one_answer.Goals as goal

pub returns-clause-input : goal.returns-clause-input
returns-clause-input c = one_answer int_of

pub returns-clause-names : goal.returns-clause-names
returns-clause-names c = one_answer name_of
