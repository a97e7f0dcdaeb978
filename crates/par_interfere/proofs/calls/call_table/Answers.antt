use Rattle.std.proofs.Common.{subst}
use Rattle.par_interfere.specs.tools.Calls.{IsTable}
use Rattle.par_interfere.proofs.CallTables.{call_table}
use Rattle.par_interfere.proofs.calls.call_table.Goals as goal

pub returns : goal.returns
returns c =
    let direct = c.in_ok-table.table.items in
    call_table c.args.c.now c.args.points.now c.requires.points direct c.close.new.table.items c.in_ok-table.ensures.calls c.in_ok-close.ensures.closed
    (subst (λ n. IsTable n c.close.new.table.items) c.in_ok-table.ensures.shape.height c.in_ok-close.ensures.shape)
