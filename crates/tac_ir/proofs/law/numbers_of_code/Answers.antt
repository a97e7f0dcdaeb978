use Rattle.tac_ir.proofs.Numbering.{one_instruction_a_definition, one_instruction_a_read, calls_make_theirs, starts_are_no_calls}
use Rattle.tac_ir.proofs.LinkWrites.{words_start_with_no_calls, calls_write_links}
use Rattle.tac_ir.proofs.law.numbers_of_code.Goals as goal

pub returns-clause-one_definition : goal.returns-clause-one_definition
returns-clause-one_definition c = one_instruction_a_definition

pub returns-clause-one_read : goal.returns-clause-one_read
returns-clause-one_read c = one_instruction_a_read

pub returns-clause-calls : goal.returns-clause-calls
returns-clause-calls c = calls_make_theirs

pub returns-clause-starts : goal.returns-clause-starts
returns-clause-starts c = starts_are_no_calls

pub returns-clause-words : goal.returns-clause-words
returns-clause-words c = words_start_with_no_calls

pub returns-clause-writes : goal.returns-clause-writes
returns-clause-writes c = calls_write_links
