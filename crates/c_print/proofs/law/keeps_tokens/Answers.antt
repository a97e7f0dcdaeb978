use Rattle.c_print.proofs.ReadBack.{lexes_back}
use Rattle.c_print.proofs.law.keeps_tokens.Goals as goal

pub returns : goal.returns
returns c = lexes_back
