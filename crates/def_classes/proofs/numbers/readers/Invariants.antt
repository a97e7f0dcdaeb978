use Rattle.std.proofs.Common.{◌≡◌, suc, take}
use Rattle.def_classes.specs.tools.Readers.{HasReaders}
use Rattle.def_classes.proofs.numbers.readers.Given as goal

abbrev pub invariant-loop-set : goal.invariant-loop-set
invariant-loop-set l = record {
  read : l.read ≡ suc l.set-index;
  rows : HasReaders l.definitions (take l.set-index l.sets) l.rows.items;
}
