use Rattle.dfi_words.proofs.Unique.{read_one_way}
use Rattle.dfi_words.proofs.words_are_read_one_way.Goals as goal

pub returns : goal.returns
returns c = read_one_way
