use Rattle.std.proofs.Common.{rules, ◌≡◌, arith, refl}
use Rattle.std.proofs.lemmas.Grind.{common_steps}
use Rattle.line_format.specs.tools.Format.{read, byte, loop, turns}
use Rattle.line_format.specs.tools.Number.{next_digit}
use Rattle.line_format.specs.tools.Reads.{end_of}
use Rattle.line_format.proofs.Turning.{turned_to, turns_used, turn_first}
use Rattle.line_format.proofs.numbers.more_digits.Goals as goal

pub returns-in_err-more : goal.returns-in_err-more
returns-in_err-more c =
    let e = turned_to _ _ _ _ _ _ c.loop.invariant.0 c.loop-test.true _ refl in
    first_of (search rules, grind (arith, common_steps))

pub returns-in-Last : goal.returns-in-Last
returns-in-Last c =
    let e = turned_to _ _ _ _ _ _ c.loop.invariant.0 c.loop-test.true _ refl in
    first_of (search rules, grind (arith, common_steps))

pub loop-preserved : goal.loop-preserved
loop-preserved c =
    let e = turned_to _ _ _ _ _ _ c.loop.invariant.0 c.loop-test.true _ refl in
    first_of (search rules, grind (arith, common_steps))

pub returns : goal.returns
returns c =
    let e = turns_used _ _ _ _ _ _ c.loop.invariant.0 (omega arith) in
    first_of (search rules, grind (arith, common_steps))
