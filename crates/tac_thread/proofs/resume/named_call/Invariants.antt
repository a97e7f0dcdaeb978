use Rattle.std.proofs.Common.{◌≡◌, drop}
use Rattle.tac_thread.specs.Answered.{named_call}
use Rattle.tac_thread.proofs.resume.named_call.Given as goal

abbrev pub invariant-loop-line : goal.invariant-loop-line
invariant-loop-line g l = (l.at ≡ l.line-index) × (named_call g.D.Domain.meaning l.link l.line-index (drop l.line-index l.line-items) ≡ named_call g.D.Domain.meaning l.link 0 l.line-items)
