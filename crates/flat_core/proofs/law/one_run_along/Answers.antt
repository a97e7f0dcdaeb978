use Rattle.flat_core.proofs.Alike.{one_entry, one_run, one_refusal, no_run}
use Rattle.flat_core.proofs.law.one_run_along.Goals as goal

pub returns-clause-entry : goal.returns-clause-entry
returns-clause-entry c = one_entry

pub returns-clause-run : goal.returns-clause-run
returns-clause-run c = one_run

pub returns-clause-refusal : goal.returns-clause-refusal
returns-clause-refusal c = one_refusal

pub returns-clause-either : goal.returns-clause-either
returns-clause-either c = no_run
