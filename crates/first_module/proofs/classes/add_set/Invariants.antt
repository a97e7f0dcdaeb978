use Rattle.std.proofs.Common.{◌≡◌, length, take}
use Rattle.first_module.specs.tools.Readers.{AddsReader}
use Rattle.first_module.proofs.classes.add_set.Given as goal

abbrev pub invariant-loop-definition : goal.invariant-loop-definition
invariant-loop-definition l = record {
  count : length l.rows.items ≡ length l.initial.rows.items;
  added : AddsReader (take l.definition-index l.set) l.read l.initial.rows.items l.rows.items;
}
