use Rattle.std.proofs.Common.{subst}
use Rattle.tac_ir.specs.declared.code.Instr.{Instr}
use Rattle.tac_lower.specs.Instrs.{draft, a_temp}
use Rattle.tac_lower.specs.Parts.{one}
use Rattle.tac_lower.specs.tools.Emits.{Emits}
use Rattle.tac_lower.proofs.writer.Writer.carry.Goals as goal

pub returns-in-Words : goal.returns-in-Words
returns-in-Words c = λ ends.
    rw (c.in-Words.is)
    (subst (λ op. Emits (one a_temp (λ n. draft c.args.line (Instr.Bin c.args.self.now.next.temp op c.args.a c.args.b))) ends c.args.self.now c.fresh.new.self c.fresh.result) c.operator-op.ensures
    (c.fresh.ensures ends))

pub returns-in-MoveUp : goal.returns-in-MoveUp
returns-in-MoveUp c = λ ends. rw (c.in-MoveUp.is) (c.index.ensures ends)

pub returns-in-MoveRightUp : goal.returns-in-MoveRightUp
returns-in-MoveRightUp c = λ ends. rw (c.in-MoveRightUp.is) (c.index-in-MoveRightUp.ensures ends)

pub returns-in-MoveDown : goal.returns-in-MoveDown
returns-in-MoveDown c = λ ends. rw (c.in-MoveDown.is) (c.back.ensures ends)

pub returns-in-SamePointers : goal.returns-in-SamePointers
returns-in-SamePointers c = λ ends. rw (c.in-SamePointers.is) (c.same.ensures ends)

pub returns-in-OtherPointers : goal.returns-in-OtherPointers
returns-in-OtherPointers c = λ ends. rw (c.in-OtherPointers.is) (c.same-in-OtherPointers.ensures ends)
