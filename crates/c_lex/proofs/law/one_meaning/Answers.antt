use Rattle.c_lex.proofs.OneMeaning as lemmas
use Rattle.c_lex.proofs.SomeMeaning as others
use Rattle.c_lex.proofs.law.one_meaning.Goals as goal

pub returns-clause-one : goal.returns-clause-one
returns-clause-one c = lemmas.one_meaning

pub returns-clause-some : goal.returns-clause-some
returns-clause-some c = others.some_meaning
