use Rattle.obj_threads.proofs.Along.{grown, its_threads, has_tree}
use Rattle.obj_threads.proofs.law.trees_are_threads.Goals as goal

pub returns-clause-threads : goal.returns-clause-threads
returns-clause-threads c = λ code input good h f d chain. (grown code input good h f d chain, its_threads code input good h f d chain)

pub returns-clause-histories : goal.returns-clause-histories
returns-clause-histories c = λ code input good h all. has_tree code input good h all
