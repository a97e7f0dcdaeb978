use Rattle.tac_ir.proofs.Locality.{words_are_local, blocks_are_local, input_is_local}
use Rattle.tac_ir.proofs.law.memory_is_local.Goals as goal

pub returns-clause-words : goal.returns-clause-words
returns-clause-words c = words_are_local

pub returns-clause-blocks : goal.returns-clause-blocks
returns-clause-blocks c = blocks_are_local

pub returns-clause-input : goal.returns-clause-input
returns-clause-input c = input_is_local
