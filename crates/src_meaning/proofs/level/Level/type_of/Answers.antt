use Rattle.std.proofs.Common.{sym}
use Rattle.src_meaning.specs.tools.Levels.{seen}
use Rattle.src_meaning.proofs.Forms.{typing_is}
use Rattle.src_meaning.proofs.level.Level.type_of.Goals as goal

pub returns : goal.returns
returns c = sym (typing_is (seen c.args.self.now) c.args.e.now)
