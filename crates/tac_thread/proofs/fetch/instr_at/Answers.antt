use Rattle.std.proofs.Common.{sym}
use Rattle.tac_thread.proofs.Usable.{usable}
use Rattle.tac_thread.proofs.fetch.instr_at.Goals as goal

pub returns-in-Some-get-clause-usable : goal.returns-in-Some-get-clause-usable
returns-in-Some-get-clause-usable c =
    usable c.args.c.now c.requires c.args.fun c.in-Some.fun.now c.args.at c.in-Some-get.lined.now (sym c.in-Some.ensures.value) (sym c.in-Some-get.ensures.value)
