use Rattle.heap_desk.proofs.Same.{same_trans, same_cons, same_with, same_without, begins_same, first_fit_same, one_fit}
use Rattle.heap_desk.proofs.law.same_blocks_serve_alike.Goals as goal

pub returns-clause-first_fit : goal.returns-clause-first_fit
returns-clause-first_fit c = λ xs ys from limit words at same. first_fit_same from limit words at same

pub returns-clause-one_fit : goal.returns-clause-one_fit
returns-clause-one_fit c = one_fit

pub returns-clause-begins : goal.returns-clause-begins
returns-clause-begins c = λ xs ys w same. begins_same w same

pub returns-clause-with : goal.returns-clause-with
returns-clause-with c = λ new xs ys same. same_trans (same_cons new same) (same_with new ys)

pub returns-clause-without : goal.returns-clause-without
returns-clause-without c = λ xs ys w same. same_without w same
