use Rattle.std.proofs.lemmas.List.{map_more}
use Rattle.tac_ir.specs.Answers.{class_of}
use Rattle.alarm_report.proofs.MarkLemmas.{AreMarks-more}
use Rattle.alarm_report.proofs.classes.class_marks.Goals as goal

pub loop-def-preserved : goal.loop-def-preserved
loop-def-preserved c = rw (c.mark.ensures, map_more (class_of c.args.m.now) c.args.set.now c.loop-def.def-index 0 c.loop-def-test.true) (rw (← c.class_of-class.ensures) (AreMarks-more _ _ _ _ c.loop-def.invariant))
