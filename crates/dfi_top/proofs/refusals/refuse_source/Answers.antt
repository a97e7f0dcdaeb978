use Rattle.dfi_top.proofs.Replies.{told_fault}
use Rattle.dfi_top.proofs.refusals.refuse_source.Goals as goal

pub fault_text-requires : goal.fault_text-requires
fault_text-requires c = told_fault c.args.source.now c.args.fault.now c.in_default.not-Memory c.requires
