use Rattle.dfi_base.proofs.WordLaws.{words_are_integers}
use Rattle.dfi_base.proofs.law.words_are_integers.Goals as goal

pub returns : goal.returns
returns c = words_are_integers
