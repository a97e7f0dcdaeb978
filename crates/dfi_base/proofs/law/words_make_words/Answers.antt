use Rattle.dfi_base.proofs.WordLaws.{words_make_words}
use Rattle.dfi_base.proofs.law.words_make_words.Goals as goal

pub returns : goal.returns
returns c = words_make_words
