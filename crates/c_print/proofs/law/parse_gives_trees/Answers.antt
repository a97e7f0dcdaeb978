use Rattle.c_print.proofs.ReadBack.{parse_gives}
use Rattle.c_print.proofs.law.parse_gives_trees.Goals as goal

pub returns : goal.returns
returns c = parse_gives
