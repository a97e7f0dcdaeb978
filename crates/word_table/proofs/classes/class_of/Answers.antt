use Rattle.std.proofs.Common.{◌-◌, arith, sym, ◌∙◌, ap}
use Rattle.std.specs.Prelude.{slice_get}
use Rattle.word_table.proofs.Members.{class_found}
use Rattle.word_table.proofs.classes.class_of.Goals as goal

pub overflow_cast-result : goal.overflow_cast-result
overflow_cast-result c =
    let found = ap (λ m. slice_get m.classes (c.args.def - 1)) (sym c.m.view_is) ∙ sym c.in-Some.ensures.value in
    omega (arith, c.requires c.args.def, class_found c.args.m.now c.args.def c.in-Some.class.now (λ q. omega (arith, q, c.if-def-eq0.false)) found)
