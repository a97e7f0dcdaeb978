use Rattle.std.proofs.Common.{sym, subst}
use Rattle.tac_ir.specs.Module.{Module}
use Rattle.check_elide.specs.Elides.{Elides, with_marks}
use Rattle.check_elide.proofs.Unchecked.{elides}
use Rattle.check_elide.proofs.elide.Goals as goal

pub returns : goal.returns
returns c =
    let marks = c.in_ok-removed.removed in
    subst (λ (m : Module). Elides c.args.md (with_marks m marks)) (sym c.md.view_is) (elides c.args.md marks c.requires.form c.in_ok-removed.ensures)
