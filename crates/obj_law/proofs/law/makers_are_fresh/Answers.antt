use Rattle.obj_law.proofs.Fresh.{activations_made, makers_fresh}
use Rattle.obj_law.proofs.law.makers_are_fresh.Goals as goal

pub returns-clause-made : goal.returns-clause-made
returns-clause-made c = λ code input good h f d chain fun s active. activations_made code input good h f d chain fun s active

pub returns-clause-fresh : goal.returns-clause-fresh
returns-clause-fresh c = λ code input good h f d chain n. makers_fresh code input good h f d chain n
