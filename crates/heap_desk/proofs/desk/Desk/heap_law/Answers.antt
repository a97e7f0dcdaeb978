use Rattle.tac_ir.specs.Layout.{heap_from}
use Rattle.heap_desk.proofs.Heaps.{opened}
use Rattle.heap_desk.proofs.Histories.{all_free_without, undone}
use Rattle.heap_desk.proofs.Order.{heap}
use Rattle.heap_desk.proofs.desk.Desk.heap_law.Goals as goal

pub returns-clause-order : goal.returns-clause-order
returns-clause-order c = rw (← c.self.view_is) (opened c.self.invariant.0).order

pub returns-clause-heap : goal.returns-clause-heap
returns-clause-heap c = rw (← c.self.view_is) (heap heap_from _ _ (opened c.self.invariant.0).order)

pub returns-clause-free_again : goal.returns-clause-free_again
returns-clause-free_again c = rw (← c.self.view_is) (all_free_without heap_from _ _ (heap heap_from _ _ (opened c.self.invariant.0).order))

pub returns-clause-undone : goal.returns-clause-undone
returns-clause-undone c = rw (← c.self.view_is) (undone _ (heap heap_from _ _ (opened c.self.invariant.0).order))
