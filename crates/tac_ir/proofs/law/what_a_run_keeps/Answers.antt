use Rattle.tac_ir.proofs.Lasting.{history_served, entries_of_life}
use Rattle.tac_ir.proofs.law.what_a_run_keeps.Goals as goal

pub returns-clause-served : goal.returns-clause-served
returns-clause-served c = history_served

pub returns-clause-lives : goal.returns-clause-lives
returns-clause-lives c = entries_of_life
