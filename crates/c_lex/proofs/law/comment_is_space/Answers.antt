use Rattle.c_lex.proofs.SpaceForComment as lemmas
use Rattle.c_lex.proofs.law.comment_is_space.Goals as goal

pub returns : goal.returns
returns c = lemmas.comment_is_space
