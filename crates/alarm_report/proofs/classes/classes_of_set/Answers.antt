use Rattle.std.proofs.Common.{◌≡◌, ◌∙◌, sym, arith, map}
use Rattle.tac_ir.specs.Answers.{class_of, has}
use Rattle.alarm_report.proofs.MarkLemmas.{AreMarks-read, kept-yes, kept-no}
use Rattle.alarm_report.proofs.classes.classes_of_set.Goals as goal
use Rattle.alarm_report.proofs.classes.classes_of_set.Goals.{then-index+in_ok-push, else-index}

pub loop-class-preserved : goal.loop-class-preserved
loop-class-preserved c =
    let mark : c.index.result.now ≡ has (map (class_of c.args.m.now) c.args.set.now) c.loop-class.class = AreMarks-read _ _ _ _ _ c.in_ok-marks.ensures (omega arith) c.index.ensures in
    elim c.if-index.branch [
      | then-index+in_ok-push w ↦ rw w.classes-is (rw (w.in_ok-push.ensures).items (kept-yes _ _ _ c.loop-class.auto.class (sym mark ∙ w.if-index.true) c.loop-class.invariant))
      | else-index w ↦ rw w.classes-is (kept-no _ _ _ c.loop-class.auto.class (sym mark ∙ w.if-index.false) c.loop-class.invariant)
    ]
