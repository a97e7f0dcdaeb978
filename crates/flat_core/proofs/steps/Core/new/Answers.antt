use Rattle.flat_core.proofs.Stepping.{first_core}
use Rattle.flat_core.proofs.steps.Core.new.Goals as goal

pub returns-clause-core : goal.returns-clause-core
returns-clause-core c =
    first_core c.args.m.now c.args.input.now (record { threads = c.in_ok-machine.machine.tree; store = c.in_ok-machine.machine.store; entries = c.new-2.result.items }) c.new-2.ensures.items c.in_ok-machine.ensures
