use Rattle.tac_thread.proofs.Leftover.{not_silent}
use Rattle.tac_thread.proofs.doing.next_doing.Goals as goal

pub returns-in_default : goal.returns-in_default
returns-in_default g c =
    let not = c.in_default in
    c.wanted.ensures (not_silent c.args.instr.now not.not-Const not.not-Null not.not-Un not.not-Bin not.not-Addr not.not-Field not.not-Decay not.not-Index not.not-Jump not.not-Test)
