use Rattle.std.proofs.Common.{refl, arith}
use Rattle.tac_ir.specs.Layout.{words_in}
use Rattle.test_core.proofs.written.some_code.Goals as goal

pub returns : goal.returns
unfolding words_in
returns c = rw (c.in_ok-shapes.ensures, c.in_ok-globals.ensures) (record { shapes = refl; globals = omega arith })
