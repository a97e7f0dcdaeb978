use Rattle.code_layout.proofs.Tables.{found_at, frame_fits}
use Rattle.code_layout.proofs.frames.frames_of.Goals as goal

pub frame_of-requires : goal.frame_of-requires
frame_of-requires c =
    frame_fits c.args.code.now c.requires.form c.args.sizes.now c.requires.sizes _ c.fun-item.result
    (found_at _ c.args.code.now.funs _ c.fun-item.result c.as_slice-fun-items.ensures c.loop-fun-test.true c.fun-item.is)
