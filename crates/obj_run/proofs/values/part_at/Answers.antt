use Rattle.std.proofs.Common.{arith}
use Rattle.tac_ir.proofs.ShapeWords.{along_within, shape_words-most}
use Rattle.obj_run.proofs.values.part_at.Goals as goal

pub overflow_add-end : goal.overflow_add-end
overflow_add-end c =
    omega (arith, c.along-offset.ensures, c.shape_words.ensures c.args.c.now c.requires.laid, along_within c.args.c.now c.requires.form c.args.shape c.args.path.now _ c.end_of_path.ensures, shape_words-most c.args.c.now c.requires.form c.args.shape)
