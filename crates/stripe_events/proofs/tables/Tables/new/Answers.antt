use Rattle.std.proofs.Common.{sym, subst}
use Rattle.tac_ir.specs.GoodForm.{GoodForm}
use Rattle.code_layout.proofs.Placed.{laid_out}
use Rattle.stripe_events.proofs.tables.Tables.new.Goals as goal

pub shape_sizes-requires : goal.shape_sizes-requires
shape_sizes-requires c = laid_out c.m.inside.code (subst (λ m. GoodForm m.code) (sym c.m.view_is) c.requires.form)
