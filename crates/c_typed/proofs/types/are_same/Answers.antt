use Rattle.std.proofs.Common.{refl, arith}
use Rattle.c_typed.proofs.TypesSame.{unlike, goes_on, ends, finished}
use Rattle.c_typed.proofs.types.are_same.Goals as goal

pub returns-then-left-right : goal.returns-then-left-right
returns-then-left-right c = unlike c.args.left.now c.args.right.now c.if-left-right.true

pub loop-i-init : goal.loop-i-init
loop-i-init c = refl

pub returns-then-left-i : goal.returns-then-left-i
returns-then-left-i c =
    ends c.loop-i.i c.args.left.now c.args.right.now c.loop-i-test.true (omega (arith, c.loop-i-test.true, c.if-left-right.false)) c.if-left-i.true c.loop-i.invariant

pub loop-i-preserved : goal.loop-i-preserved
loop-i-preserved c =
    goes_on c.loop-i.i _ c.args.left.now c.args.right.now (omega arith) c.loop-i-test.true (omega (arith, c.loop-i-test.true, c.if-left-right.false))
    c.if-left-i.false c.loop-i.invariant

pub returns : goal.returns
returns c =
    finished c.loop-i.i c.args.left.now c.args.right.now (omega (arith, c.loop-i-test.false, c.loop-i.auto.i-end))
    (omega (arith, c.loop-i-test.false, c.if-left-right.false)) c.loop-i.invariant
