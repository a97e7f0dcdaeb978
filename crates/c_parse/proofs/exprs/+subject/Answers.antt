use Rattle.std.proofs.Common.{rules, ◌≡◌, true, sym, subst, arith}
use Rattle.std.proofs.lemmas.Grind.{common_steps}
use Rattle.c_parse.specs.tools.Tokens.{next, kind_of}
use Rattle.c_parse.specs.tools.Sorts.{is_operand}
use Rattle.c_parse.specs.tools.Reads.{Reads}
use Rattle.c_parse.proofs.Knots.{subject_step}
use Rattle.c_parse.proofs.exprs.+subject.Goals as goal

pub returns : goal.returns
returns t c =
    let e : is_operand (kind_of (next c.args.cursor.now)) ≡ true = first_of (search rules, grind (arith, common_steps)) in
    subst (λ z. Reads z c.operand.result c.operand.new.cursor) (sym (subject_step c.args.fuel c.args.counter c.args.cursor.now (omega arith) e (omega arith))) c.operand.ensures
