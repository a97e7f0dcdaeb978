use Rattle.std.proofs.Common.{rules, ◌≡◌, arith}
use Rattle.std.proofs.lemmas.Grind.{common_steps}
use Rattle.line_format.proofs.Wording.{word_more, word_done}
use Rattle.line_format.proofs.words.word.Goals as goal

pub returns-in_err-exact_byte : goal.returns-in_err-exact_byte
returns-in_err-exact_byte c =
    let e = word_more _ _ _ _ c.loop-byte.invariant c.loop-byte-test.true in
    first_of (search rules, grind (arith, common_steps))

pub loop-byte-preserved : goal.loop-byte-preserved
loop-byte-preserved c =
    let e = word_more _ _ _ _ c.loop-byte.invariant c.loop-byte-test.true in
    first_of (search rules, grind (arith, common_steps))

pub returns : goal.returns
returns c = word_done _ c.args.text.now c.loop-byte.byte-index _ c.loop-byte.invariant (omega arith)
