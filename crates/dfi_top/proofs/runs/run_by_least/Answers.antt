use Rattle.dfi_top.proofs.RunLemmas.{lawful_run, told_by_least}
use Rattle.dfi_top.proofs.runs.run_by_least.Goals as goal

pub tell_run-requires-clause-lawful : goal.tell_run-requires-clause-lawful
tell_run-requires-clause-lawful c = lawful_run c.args.m.now c.args.input.now c.args.budget c.in-Ok.journal c.requires.checked c.in-Ok.ensures.run

pub returns-in-Ok : goal.returns-in-Ok
returns-in-Ok c =
    told_by_least c.args.m.now c.args.input.now c.args.budget c.in-Ok.journal c.in-Ok.ensures c.tell_run.result c.tell_run.ensures.told c.tell_run.ensures.journal
