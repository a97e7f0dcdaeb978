use Rattle.std.proofs.Common.{rules, arith, refl}
use Rattle.std.proofs.lemmas.Grind.{common_steps}
use Rattle.line_format.proofs.Turning.{turned_to, turns_used}
use Rattle.module_text.proofs.Seen.{reach_pushed}
use Rattle.module_text.proofs.rows.more_reach.Goals as goal

pub returns-in_err-row : goal.returns-in_err-row
returns-in_err-row c =
    let e = turned_to _ _ _ _ _ _ c.loop.invariant.0 c.loop-test.true _ refl in
    first_of (search rules, grind (arith, common_steps))

pub returns-then-owed-eq0 : goal.returns-then-owed-eq0
returns-then-owed-eq0 c =
    let e = turned_to _ _ _ _ _ _ c.loop.invariant.0 c.loop-test.true _ refl in
    let m = reach_pushed c.loop.found c.in_ok-row.row in
    first_of (search rules, grind (arith, common_steps))

pub loop-preserved : goal.loop-preserved
loop-preserved c =
    let e = turned_to _ _ _ _ _ _ c.loop.invariant.0 c.loop-test.true _ refl in
    let m = reach_pushed c.loop.found c.in_ok-row.row in
    first_of (search rules, grind (arith, common_steps))

pub returns : goal.returns
returns c =
    let e = turns_used _ _ _ _ _ _ c.loop.invariant.0 (omega arith) in
    first_of (search rules, grind (arith, common_steps))
