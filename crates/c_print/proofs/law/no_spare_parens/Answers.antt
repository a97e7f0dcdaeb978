use Rattle.c_print.proofs.SpareParens.{no_spare}
use Rattle.c_print.proofs.law.no_spare_parens.Goals as goal

pub returns : goal.returns
returns c = no_spare
