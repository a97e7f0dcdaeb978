use Rattle.std.proofs.Common.{arith}
use Rattle.tac_lower.proofs.interned.FewShapes.{few_item}
use Rattle.tac_lower.proofs.shapes.Shapes.arrays.Goals as goal

pub number-requires : goal.number-requires
number-requires c =
    few_item c.args.lengths.now c.loop-i.i (record { shapes = c.args.self.now; number = c.args.item }) (record { shapes = c.loop-i.self; number = c.loop-i.number })
    (omega (arith, c.loop-i-test.true)) (omega (arith, c.loop-i.auto.i)) c.loop-i.invariant c.requires
