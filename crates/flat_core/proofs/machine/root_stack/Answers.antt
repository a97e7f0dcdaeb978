use Rattle.std.proofs.Common.{sym, ◌∙◌}
use Rattle.tac_ir.specs.GoodForm.{GoodForm}
use Rattle.flat_core.proofs.Frames.{main_fits}
use Rattle.flat_core.proofs.machine.root_stack.Goals as goal
use Rattle.std.proofs.Common.{subst}

pub unreachable-requires : goal.unreachable-requires
unreachable-requires c =
    main_fits c.m.inside.code c.m.inside.size (c.stack_from-base.result, c.memory_words.result) (subst (λ m. GoodForm m.code) (sym c.m.view_is) c.requires.form) (c.stack_from-base.ensures, c.memory_words.ensures) (sym c.enter.ensures ∙ c.in-None.is)
