use Rattle.std.proofs.Common.{sym, subst}
use Rattle.c_typed.specs.Faults.{mismatch}
use Rattle.c_typed.specs.Stmts.{tested}
use Rattle.c_types.specs.tools.Steps.{kept, Finds}
use Rattle.c_types.specs.tools.ExprWalk.{expr_walk, value}
use Rattle.c_types.proofs.WalkLevels.{walk_line}
use Rattle.c_types.proofs.WalkLaws.{then_finds}
use Rattle.c_types.proofs.stmts.test.Goals as goal

pub returns : goal.returns
returns c =
    let f = expr_walk c.args.outline.now c.args.known.now c.args.e.now in
    then_finds (value f) (λ v. kept mismatch f.line (tested f.line v)) c.in_ok-value.value c.tested.result c.in_ok-value.ensures
    (subst (λ line. Finds c.tested.result (kept mismatch line (tested line c.in_ok-value.value))) (sym (walk_line c.args.outline.now c.args.known.now c.args.e.now)) c.tested.ensures)
