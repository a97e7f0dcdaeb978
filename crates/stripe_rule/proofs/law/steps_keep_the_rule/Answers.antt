use Rattle.stripe_rule.proofs.Moves.{takes_lock, looks, draws, gives_back, tells, hears, halts}
use Rattle.stripe_rule.proofs.Tree.{splits, joins}
use Rattle.stripe_rule.proofs.Opening.{opens}
use Rattle.stripe_rule.proofs.law.steps_keep_the_rule.Goals as goal

pub returns-clause-opens : goal.returns-clause-opens
returns-clause-opens c = opens

pub returns-clause-takes : goal.returns-clause-takes
returns-clause-takes c = takes_lock

pub returns-clause-looks : goal.returns-clause-looks
returns-clause-looks c = looks

pub returns-clause-draws : goal.returns-clause-draws
returns-clause-draws c = draws

pub returns-clause-gives : goal.returns-clause-gives
returns-clause-gives c = gives_back

pub returns-clause-splits : goal.returns-clause-splits
returns-clause-splits c = splits

pub returns-clause-joins : goal.returns-clause-joins
returns-clause-joins c = joins

pub returns-clause-tells : goal.returns-clause-tells
returns-clause-tells c = tells

pub returns-clause-hears : goal.returns-clause-hears
returns-clause-hears c = hears

pub returns-clause-halts : goal.returns-clause-halts
returns-clause-halts c = halts
