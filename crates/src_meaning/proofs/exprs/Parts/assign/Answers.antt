use Rattle.std.proofs.Common.{sym, subst}
use Rattle.src_law.specs.Acts.{an_end}
use Rattle.src_law.specs.Exprs.{expr}
use Rattle.src_meaning.specs.tools.Levels.{ReadsIn, seen}
use Rattle.src_meaning.proofs.Assigning.{with_operator}
use Rattle.src_meaning.proofs.exprs.Parts.assign.Goals as goal

pub returns-in_default : goal.returns-in_default
returns-in_default g c =
    subst (λ a. ReadsIn c.args.self.now.level an_end a c.args.heard.now c.compound.result c.compound.new.heard)
    (sym (with_operator (seen c.args.self.now.level) c.args.op (expr (seen c.args.self.now.level) c.args.target.now) (expr (seen c.args.self.now.level) c.args.value.now).act c.in_default.not-Plain))
    c.compound.ensures
