use Rattle.std.proofs.Common.{rules, ◌≡◌, subst, w32}
use Rattle.std.proofs.Common.{to_z, of_z}
use Rattle.tac_lower.specs.Instrs as spec
use Rattle.tac_lower.specs.tools.Emits.{Emits}
use Rattle.tac_lower.proofs.writer.Writer.constant.Goals as goal

pub returns : goal.returns
returns c = λ ends. subst (λ k. Emits (spec.constant c.args.line k) ends c.args.self.now c.fresh.new.self c.fresh.result) (let same : to_z w32 (of_z w32 c.args.k) ≡ c.args.k = search rules in same) (c.fresh.ensures ends)
