use Rattle.std.proofs.Common.{◌≡◌, length, take}
use Rattle.def_classes.specs.tools.Readers.{AddsReader}
use Rattle.def_classes.proofs.numbers.add_set.Given as goal

abbrev pub invariant-loop-definition : goal.invariant-loop-definition
invariant-loop-definition l = record {
  count : length l.rows.items ≡ length l.initial.rows.items;
  added : AddsReader (take l.definition-index l.set) l.read l.initial.rows.items l.rows.items;
}
