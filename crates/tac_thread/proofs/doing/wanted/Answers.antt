use Rattle.std.proofs.Common.{sym, ap, ◌∙◌}
use Rattle.tac_thread.specs.Doing.{doing}
use Rattle.tac_thread.proofs.Leftover.{ends_thread}
use Rattle.tac_thread.proofs.doing.wanted.Goals as goal

pub returns-in-Ret : goal.returns-in-Ret
returns-in-Ret g c = λ _. c.returns.ensures c.args.c.now ∙ ap (doing g.D.Domain.meaning c.args.c.now c.args.a.now) (sym c.in-Ret.is)

pub returns-in_default : goal.returns-in_default
returns-in_default g c = λ loud.
    let not = c.in_default in
    ends_thread g.D.Domain.meaning c.args.c.now c.args.a.now c.args.instr.now loud
    (not.not-Get, not.not-Load, not.not-Set, not.not-Store, not.not-Same, not.not-New, not.not-Free, not.not-In, not.not-Left, not.not-Out, not.not-Call, not.not-Ret, not.not-Turn, not.not-Fork)
