use Rattle.std.proofs.Common.{◌≡◌, ◌+◌, drop, length}
use Rattle.tac_ir.specs.Numbers.{new_def, new_read, numbers_in}
use Rattle.def_classes.proofs.counts.with_code.Given as goal

abbrev pub invariant-loop-lined : goal.invariant-loop-lined
invariant-loop-lined l =
    let rest = drop l.lined-index l.code in
    record {
      definitions : l.counts.definitions + length (numbers_in new_def rest) ≡ l.initial.counts.definitions + length (numbers_in new_def l.code);
      reads : l.counts.reads + length (numbers_in new_read rest) ≡ l.initial.counts.reads + length (numbers_in new_read l.code);
    }
