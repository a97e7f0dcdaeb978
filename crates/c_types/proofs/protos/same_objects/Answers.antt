use Rattle.c_types.proofs.ProtoLaws.{objects_unlike}
use Rattle.c_types.proofs.protos.same_objects.Goals as goal

pub returns-then-left-right : goal.returns-then-left-right
returns-then-left-right c = objects_unlike c.args.left.now c.args.right.now c.if-left-right.true
