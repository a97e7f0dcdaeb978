use Rattle.std.proofs.Common.{rules, ◌≡◌, sym, arith}
use Rattle.std.proofs.lemmas.Grind.{common_steps}
use Rattle.line_format.proofs.Choosing.{common_ends}
use Rattle.line_format.proofs.choices.common.Goals as goal

pub returns-clause-answer : goal.returns-clause-answer
returns-clause-answer c =
    let e = common_ends c.args.word.now c.args.bytes.now c.loop-index.index c.loop-index.invariant (omega arith) in
    omega arith
