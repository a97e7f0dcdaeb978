use Rattle.std.proofs.Common.{◌∙◌, ap, ◌+◌, drop, slice_index}
use Rattle.tac_ir.specs.Places.{end_of_path}
use Rattle.obj_run.proofs.PathEnds.{end_step}
use Rattle.obj_run.proofs.values.end_of_path.Goals as goal

pub loop-k-preserved : goal.loop-k-preserved
loop-k-preserved c =
    ap (λ s. end_of_path c.args.c.now s (drop (c.loop-k.k-index + 1) c.args.path.now)) (c.shape_at-here.ensures ∙ ap (λ xs. slice_index xs (slice_index c.args.path.now c.loop-k.k-index)) c.parts_of.ensures) ∙ end_step c.args.c.now _ c.args.path.now _ c.requires.0 c.loop-k-test.true (c.loop-k.invariant ∙ c.requires.1) ∙ c.loop-k.invariant
