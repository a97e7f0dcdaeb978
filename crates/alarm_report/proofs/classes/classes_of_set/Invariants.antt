use Rattle.std.proofs.Common.{◌≡◌, ◌-◌, map, filter}
use Rattle.std.specs.List.{range_with_len}
use Rattle.tac_ir.specs.Answers.{class_of, has}
use Rattle.alarm_report.proofs.classes.classes_of_set.Given as goal

abbrev pub invariant-loop-class : goal.invariant-loop-class
invariant-loop-class l = l.classes.items ≡ filter (has (map (class_of l.m) l.set)) (range_with_len 1 (l.class - 1))
