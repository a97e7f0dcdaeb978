use Rattle.tac_ir.proofs.regions.Laws.{regions_nest, numbers_tell, next_keeps, targets_keep, join_keeps, entry_has_its_own, end_closes_one, functions_begin_outside}
use Rattle.tac_ir.proofs.law.regions_of_forks.Goals as goal

pub returns-clause-nest : goal.returns-clause-nest
returns-clause-nest c = regions_nest

pub returns-clause-tell : goal.returns-clause-tell
returns-clause-tell c = numbers_tell

pub returns-clause-next : goal.returns-clause-next
returns-clause-next c = next_keeps

pub returns-clause-targets : goal.returns-clause-targets
returns-clause-targets c = targets_keep

pub returns-clause-join : goal.returns-clause-join
returns-clause-join c = join_keeps

pub returns-clause-entries : goal.returns-clause-entries
returns-clause-entries c = entry_has_its_own

pub returns-clause-ends : goal.returns-clause-ends
returns-clause-ends c = end_closes_one

pub returns-clause-begin : goal.returns-clause-begin
returns-clause-begin c = functions_begin_outside
