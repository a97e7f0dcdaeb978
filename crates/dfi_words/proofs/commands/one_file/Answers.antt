use Rattle.std.proofs.Common.{map, string_bytes}
use Rattle.dfi_words.specs.tools.Jobs.{words_in}
use Rattle.dfi_words.proofs.Jobs.{one_file_answer}
use Rattle.dfi_words.proofs.commands.one_file.Goals as goal

pub returns : goal.returns
returns c =
    one_file_answer (map string_bytes c.args.words.now) c.in_ok-line.line (words_in c.plain_words.result) c.only_file.result c.in_ok-line.ensures c.plain_words.ensures
    c.only_file.ensures
