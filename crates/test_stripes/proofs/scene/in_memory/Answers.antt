use Rattle.std.proofs.Common.{sym, ap, subst}
use Rattle.tac_ir.specs.declared.module.Size.{Size}
use Rattle.tac_ir.specs.Module.{Module}
use Rattle.tac_ir.specs.Tables.{CanRun}
use Rattle.test_stripes.proofs.Sizes.{runs_in}
use Rattle.test_stripes.proofs.scene.in_memory.Goals as goal

pub returns-then-large : goal.returns-then-large
returns-then-large c = subst CanRun (ap (λ (m : Module). record m { size = Size.Large }) (sym c.m.view_is)) (runs_in c.args.m Size.Large c.requires)
