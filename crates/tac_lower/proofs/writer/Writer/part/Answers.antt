use Rattle.std.proofs.Common.{sym, subst}
use Rattle.tac_lower.specs.declared.writer.Spot.{Spot}
use Rattle.tac_lower.specs.Instrs as spec
use Rattle.tac_lower.specs.tools.Emits.{Yields, part_at}
use Rattle.c_typed.specs.Elaboration.{object_of}
use Rattle.tac_lower.proofs.emitted.Chains.{leaves}
use Rattle.tac_lower.proofs.writer.Writer.part.Goals as goal

pub returns-in-Left : goal.returns-in-Left
returns-in-Left c = λ ends.
    rw (c.in-Left.is) (subst (λ r. Yields (part_at c.args.line (object_of c.args.typing.now) c.args.k (Spot.Left c.in-Left.a)) ends c.args.self.now c.field.new.self r) (sym c.left.ensures)
    (leaves (spec.field c.args.line (object_of c.args.typing.now) c.args.k c.in-Left.a) ends c.args.self.now c.field.new.self c.field.result (c.field.ensures ends)))
