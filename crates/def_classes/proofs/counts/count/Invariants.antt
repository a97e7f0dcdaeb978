use Rattle.std.proofs.Common.{◌≡◌, ◌+◌, drop, length}
use Rattle.tac_ir.specs.Numbers.{new_def, new_read, numbers_in_funs}
use Rattle.def_classes.proofs.counts.count.Given as goal

abbrev pub invariant-loop-fun : goal.invariant-loop-fun
invariant-loop-fun l =
    let rest = drop l.fun-index l.funs in
    record {
      definitions : l.counts.definitions + length (numbers_in_funs new_def rest) ≡ length (numbers_in_funs new_def l.funs);
      reads : l.counts.reads + length (numbers_in_funs new_read rest) ≡ length (numbers_in_funs new_read l.funs);
    }
