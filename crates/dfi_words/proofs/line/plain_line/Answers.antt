use Rattle.std.proofs.Common.{[], codes}
use Rattle.dfi_words.proofs.Parses.{plain_names}
use Rattle.dfi_words.proofs.line.plain_line.Goals as goal

pub returns : goal.returns
returns c = c.found.ensures (codes "dfi") [] c.in_ok-command.ensures (plain_names (codes "dfi"))
