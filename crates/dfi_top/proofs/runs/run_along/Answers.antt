use Rattle.dfi_top.proofs.RunLemmas.{lawful_run, told_along}
use Rattle.dfi_top.proofs.runs.run_along.Goals as goal

pub tell_run-requires-clause-lawful : goal.tell_run-requires-clause-lawful
tell_run-requires-clause-lawful c = lawful_run c.args.m.now c.args.input.now c.args.budget c.in-Ok.journal c.requires.checked c.in-Ok.ensures.run

pub returns-in-Ok : goal.returns-in-Ok
returns-in-Ok c =
    told_along c.args.m.now c.args.input.now c.args.budget c.args.names.items c.in-Ok.journal c.in-Ok.ensures c.tell_run.result c.tell_run.ensures.told c.tell_run.ensures.journal
