use Rattle.c_print.proofs.ReadBack.{parses_back}
use Rattle.c_print.proofs.law.keeps_tree.Goals as goal

pub returns : goal.returns
returns c = parses_back
