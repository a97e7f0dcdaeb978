use Rattle.std.proofs.Common.{◌≡◌, ◌++◌, drop, map, slice_index}
use Rattle.code_layout.specs.tools.Offsets.{frame_by}
use Rattle.code_layout.proofs.frames.frames_of.Given as goal

abbrev pub invariant-loop-fun : goal.invariant-loop-fun
invariant-loop-fun l = l.frames.items ++ map (frame_by (slice_index l.sizes)) (drop l.fun-index l.fun-items) ≡ map (frame_by (slice_index l.sizes)) l.code.funs
