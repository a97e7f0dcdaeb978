-- Events of a thread over words of 32 bits, and those of a run.
use Rattle.std.specs.Prelude.{◌≡◌, ℕ, Option, Some, None}
use Rattle.tac_ir.specs.declared.code.Code.{Code}
use Rattle.tac_ir.specs.declared.run.Op.{Op}
use Rattle.tac_ir.specs.declared.run.Answer.{Answer}
use Rattle.tac_ir.specs.Words.{int_of}
use Rattle.tac_ir.specs.Layout.{frame_words}
use Rattle.tac_thread.specs.declared.flat.FlatStack.{FlatStack}
use Rattle.tac_thread.specs.declared.want.Want.{Want}
use Rattle.tac_thread.specs.declared.want.ReplyOf.{ReplyOf}
use Rattle.tac_thread.specs.Flat.{with_frame}

-- The op of what a thread wants. The link of a call's frame is written with the number of the call's definition, and it is read as any
-- other word. Who waits, has ended or has no value has no op.
abbrev pub op_of : Want ℕ → Option Op
op_of (Want.Read r w) = Some (Op.Read r w)
op_of (Want.Write d w v) = Some (Op.Write d w v)
op_of (Want.Same a b ne) = Some (Op.Same a b ne)
op_of (Want.New site count) = Some (Op.New site (int_of count))
op_of (Want.Free w) = Some (Op.Free w)
op_of Want.In = Some Op.In
op_of Want.Left = Some Op.Left
op_of (Want.Out v) = Some (Op.Out (int_of v))
op_of (Want.Call f) = Some (Op.Call f)
op_of Want.Ret = Some Op.Ret
op_of Want.Turn = Some Op.Turn
op_of (Want.Fork branches) = Some (Op.Fork branches)
op_of Want.Zero = Some Op.Zero
op_of (Want.Push d w) = Some (Op.Write d w d.0)
op_of (Want.Pop r w) = Some (Op.Read r w)
op_of Want.Bad = None
op_of Want.Waits = None
op_of (Want.Ended v) = None

-- The reply that tells a thread with this stack the answer of its event: a call gets the stack with the callee's frame, and an answer that
-- stops the run has no reply.
abbrev pub Tells : Code → FlatStack → Op → Answer → ReplyOf ℕ FlatStack → Type 0
Tells c s (Op.Call f) Answer.Unit (ReplyOf.Stack t) = with_frame (frame_words c f) s ≡ Some t
Tells c s (Op.Call f) answer reply = ⊥
Tells c s op Answer.Unit ReplyOf.Unit = Unit {0}
Tells c s op (Answer.Value v) (ReplyOf.Value w) = w ≡ v
Tells c s op answer reply = ⊥
