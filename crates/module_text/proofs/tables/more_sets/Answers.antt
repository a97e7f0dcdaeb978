use Rattle.std.proofs.Common.{rules, arith, refl}
use Rattle.std.proofs.lemmas.Grind.{common_steps}
use Rattle.line_format.proofs.Turning.{turned_to, turns_used}
use Rattle.module_text.proofs.Seen.{beside_pushed}
use Rattle.module_text.proofs.tables.more_sets.Goals as goal

pub returns-in_err-mark-clause-answer : goal.returns-in_err-mark-clause-answer
returns-in_err-mark-clause-answer c =
    let e = turned_to _ _ _ _ _ _ c.loop.invariant.0 c.loop-test.true _ refl in
    first_of (search rules, grind (arith, common_steps))

pub returns-then-owed-eq0-clause-answer : goal.returns-then-owed-eq0-clause-answer
returns-then-owed-eq0-clause-answer c =
    let e = turned_to _ _ _ _ _ _ c.loop.invariant.0 c.loop-test.true _ refl in
    let m = beside_pushed c.loop.removed c.loop.sets c.in_ok-mark.mark c.in_ok-mark.members c.loop.invariant.1 in
    first_of (search rules, grind (arith, common_steps))

pub loop-preserved : goal.loop-preserved
loop-preserved c =
    let e = turned_to _ _ _ _ _ _ c.loop.invariant.0 c.loop-test.true _ refl in
    let m = beside_pushed c.loop.removed c.loop.sets c.in_ok-mark.mark c.in_ok-mark.members c.loop.invariant.1 in
    first_of (search rules, grind (arith, common_steps))

pub returns : goal.returns
returns c =
    let e = turns_used _ _ _ _ _ _ c.loop.invariant.0 (omega arith) in
    first_of (search rules, grind (arith, common_steps))
