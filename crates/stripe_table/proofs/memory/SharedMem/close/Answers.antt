use Rattle.stripe_rule.specs.Terms.{terms_of}
use Rattle.stripe_table.proofs.Closing.{whole}
use Rattle.stripe_table.proofs.memory.SharedMem.close.Goals as goal

pub returns-clause-shared : goal.returns-clause-shared
returns-clause-shared c = (whole (terms_of c.args.self.steps.plan) c.args.root.seat.me.0 c.args.root.log.items c.args.root.logged c.close.ensures).shared

pub returns-clause-most : goal.returns-clause-most
returns-clause-most c = (whole (terms_of c.args.self.steps.plan) c.args.root.seat.me.0 c.args.root.log.items c.args.root.logged c.close.ensures).most

pub returns-clause-spent : goal.returns-clause-spent
returns-clause-spent c on = (whole (terms_of c.args.self.steps.plan) c.args.root.seat.me.0 c.args.root.log.items c.args.root.logged c.close.ensures).spent on

pub returns-clause-halted : goal.returns-clause-halted
returns-clause-halted c on = (whole (terms_of c.args.self.steps.plan) c.args.root.seat.me.0 c.args.root.log.items c.args.root.logged c.close.ensures).halted on
