use Rattle.c_parse.proofs.OneTree.{programs_one_answer}
use Rattle.c_parse.proofs.law.one_answer.Goals as goal

pub returns : goal.returns
returns c = programs_one_answer
