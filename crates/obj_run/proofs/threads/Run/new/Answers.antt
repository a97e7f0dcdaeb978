use Rattle.std.proofs.Common.{rules, ◌≡◌, length}
use Rattle.obj_run.proofs.Finishing.{begins_so}
use Rattle.obj_run.proofs.threads.Run.new.Goals as goal

pub returns-clause-run : goal.returns-clause-run
returns-clause-run c =
    let count : c.len-opened.result ≡ length c.in_ok-events.events.items = search rules in
    begins_so c.args.c.now c.args.input.now c.in_ok-tree.tree c.in_ok-events.events.items c.len-opened.result (c.in_ok-tree.ensures).begun (c.in_ok-tree.ensures).tree c.in_ok-events.ensures count
