use Rattle.std.proofs.Common.{ap, sym, ◌∙◌}
use Rattle.src_meaning.specs.tools.Levels.{seen}
use Rattle.src_meaning.proofs.Forms.{typing_is}
use Rattle.src_meaning.proofs.level.Level.typing.Goals as goal

pub returns : goal.returns
returns c = ap (λ e. e.typing) c.get.ensures ∙ sym (typing_is (seen c.args.self.now) c.args.e.now)
