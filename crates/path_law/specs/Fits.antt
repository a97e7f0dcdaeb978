-- Whether a frame or a share fits.
use Rattle.std.specs.Prelude.{Option, Some, None}
use Rattle.tac_ir.specs.declared.run.Answer.{Answer}
use Rattle.tac_ir.specs.declared.run.Stop.{Stop}
use Rattle.tac_thread.specs.declared.flat.FlatStack.{FlatStack}

-- the answer of a call or a fork by the stack that the domain had for it
abbrev pub answer_by : Stop → Option FlatStack → Answer
answer_by stop None = Answer.Stop stop
answer_by stop (Some s) = Answer.Unit
