use Rattle.std.proofs.Common.{◌∙◌, ap}
use Rattle.word_table.specs.tools.Deciding.{decided}
use Rattle.word_table.proofs.Decides.{reads}
use Rattle.word_table.proofs.table.WordTable.read.Goals as goal

pub returns : goal.returns
returns c = λ h holds. c.decide.ensures ∙ ap (λ r. decided c.args.m.now c.args.self.now r c.args.word) c.from.ensures ∙ reads c.args.m.now h c.args.self.now c.args.read.0 c.args.word c.requires holds
