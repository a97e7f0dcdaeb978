use Rattle.tac_ir.proofs.AccessNumbers.{definitions_touch, reads_touch, starts_touch}
use Rattle.tac_ir.proofs.FactsAscend.{facts_ascend}
use Rattle.tac_ir.proofs.law.leaves_of_numbers.Goals as goal

pub returns-clause-definitions : goal.returns-clause-definitions
returns-clause-definitions c = definitions_touch

pub returns-clause-reads : goal.returns-clause-reads
returns-clause-reads c = reads_touch

pub returns-clause-starts : goal.returns-clause-starts
returns-clause-starts c = starts_touch

pub returns-clause-facts : goal.returns-clause-facts
returns-clause-facts c = facts_ascend
