use Rattle.std.proofs.Common.{length}
use Rattle.c_types.proofs.NotNegative.{starts_negatable}
use Rattle.c_types.proofs.programs.walk.Goals as goal

pub outlined-requires : goal.outlined-requires
outlined-requires c = starts_negatable (length c.args.names.now) c.args.is.now c.requires
