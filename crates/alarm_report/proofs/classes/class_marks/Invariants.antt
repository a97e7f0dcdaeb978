use Rattle.std.proofs.Common.{◌+◌, take, map, length}
use Rattle.tac_ir.specs.Answers.{class_of}
use Rattle.alarm_report.specs.Marks.{AreMarks}
use Rattle.alarm_report.proofs.classes.class_marks.Given as goal

abbrev pub invariant-loop-def : goal.invariant-loop-def
invariant-loop-def l = AreMarks l.marks.items (length l.m.classes + 1) (map (class_of l.m) (take l.def-index l.set))
