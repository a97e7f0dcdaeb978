use Rattle.std.proofs.Common.{rules, ◌≡◌, ◌-◌, arith, refl}
use Rattle.std.proofs.lemmas.Grind.{common_steps}
use Rattle.line_format.specs.tools.Format.{read, loop, turns}
use Rattle.line_format.specs.tools.Times.{next_one, one_on}
use Rattle.line_format.proofs.Turning.{turned_to, turns_used}
use Rattle.line_format.proofs.parts.next_times.Goals as goal

pub returns-in_err-part : goal.returns-in_err-part
returns-in_err-part g c =
    let e = turned_to _ _ _ _ _ _ c.loop.invariant c.loop-test.true _ refl in
    first_of (search rules, grind (arith, common_steps))

pub returns-then-owed-eq0 : goal.returns-then-owed-eq0
returns-then-owed-eq0 g c =
    let e = turned_to _ _ _ _ _ _ c.loop.invariant c.loop-test.true _ refl in
    first_of (search rules, grind (arith, common_steps))

pub loop-preserved : goal.loop-preserved
loop-preserved g c =
    let e = turned_to _ _ _ _ _ _ c.loop.invariant c.loop-test.true _ refl in
    first_of (search rules, grind (arith, common_steps))

pub returns : goal.returns
returns g c =
    let e = turns_used _ _ _ _ _ _ c.loop.invariant (omega arith) in
    first_of (search rules, grind (arith, common_steps))
