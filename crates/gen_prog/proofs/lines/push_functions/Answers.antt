use Rattle.gen_prog.specs.Program.{function_line}
use Rattle.gen_prog.proofs.Growth.{grown}
use Rattle.gen_prog.proofs.lines.push_functions.Goals as goal

pub loop-k-preserved : goal.loop-k-preserved
loop-k-preserved c = grown function_line c.loop-k.k _ _ _ c.loop-k.invariant c.in_ok-push_function.ensures
