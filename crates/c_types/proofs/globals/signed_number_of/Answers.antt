use Rattle.std.proofs.Common.{rules, Some, ap, sym, ◌∙◌}
use mir.Facts.{to_z-of_z}
use mir.Syntax.{w32}
use mir.Val.{SFits}
use Rattle.c_types.proofs.StartLaws.{plain_there, no_sign}
use Rattle.c_types.proofs.globals.signed_number_of.Goals as goal

pub returns-in-Number : goal.returns-in-Number
returns-in-Number c =
    let fits : SFits w32 c.in-Number.k = search rules in
    ap (λ k. Some k) (to_z-of_z fits) ∙ sym (plain_there c.args.e.now.form c.in-Number.k c.in-Number.is)

pub returns-in_default : goal.returns-in_default
returns-in_default c = sym (no_sign c.args.e.now.form c.in_default.not-Number c.in_default.not-Unary)
