use Rattle.std.proofs.Common.{Some}
use Rattle.dfi_base.specs.Limits.{list_limit}
use Rattle.dfi_top.specs.Reply.{Ends, RepliesToNames}
use Rattle.dfi_top.proofs.Onward.{ends}
use Rattle.dfi_top.proofs.Replies.{behind_bytes, behind_fault, with_names}
use Rattle.dfi_top.proofs.stages.reply_to_numbers.Goals as goal

pub returns-in-Ok : goal.returns-in-Ok
returns-in-Ok g c =
    with_names g.L.Library.tells _ _ c.args.m.now c.args.input.now c.args.budget c.args.names.now (Some c.in-Some.name) c.in-Some.is c.run_along_bytes.result
    (behind_bytes g.L.Library.tells _ c.in-Some.name list_limit (λ bytes. Ends (RepliesToNames c.args.m.now c.args.input.now c.args.budget bytes)) c.in-Ok.bytes.items c.deref.result.now
    c.deref.ensures.value c.in-Ok.ensures c.run_along_bytes.result
    (ends g.L.Library.tells _ (RepliesToNames c.args.m.now c.args.input.now c.args.budget c.deref.result.now) c.run_along_bytes.result c.run_along_bytes.ensures))

pub returns-in-Err : goal.returns-in-Err
returns-in-Err g c =
    with_names g.L.Library.tells _ _ c.args.m.now c.args.input.now c.args.budget c.args.names.now (Some c.in-Some.name) c.in-Some.is c.refuse_load.result
    (behind_fault g.L.Library.tells c.in-Some.name list_limit (λ bytes. Ends (RepliesToNames c.args.m.now c.args.input.now c.args.budget bytes)) c.in-Err.fault c.bytes.result.now c.bytes.ensures
    c.in-Err.ensures c.refuse_load.result c.refuse_load.ensures)
