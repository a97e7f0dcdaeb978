use Rattle.tac_ir.proofs.Lasting.{history_served}
use Rattle.heap_desk.proofs.Histories.{stays_heap, free_again, taken_again}
use Rattle.heap_desk.proofs.law.blocks_of_a_run.Goals as goal

pub returns-clause-served : goal.returns-clause-served
returns-clause-served c = history_served

pub returns-clause-apart : goal.returns-clause-apart
returns-clause-apart c = stays_heap

pub returns-clause-free_again : goal.returns-clause-free_again
returns-clause-free_again c = free_again

pub returns-clause-taken_again : goal.returns-clause-taken_again
returns-clause-taken_again c = taken_again
