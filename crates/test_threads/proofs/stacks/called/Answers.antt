use Rattle.tac_ir.specs.Layout.{frame_words}
use Rattle.test_threads.proofs.Frames.{has_called}
use Rattle.test_threads.proofs.stacks.called.Goals as goal

pub returns : goal.returns
returns c = has_called (frame_words c.args.c.now c.args.fun) c.args.s.now _ c.enter.ensures
