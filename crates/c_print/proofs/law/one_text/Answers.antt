use Rattle.c_print.proofs.OneText as lemmas
use Rattle.c_print.proofs.law.one_text.Goals as goal

pub returns-clause-again : goal.returns-clause-again
returns-clause-again c = lemmas.prints_the_same

pub returns-clause-apart : goal.returns-clause-apart
returns-clause-apart c = lemmas.tells_apart
