use Rattle.std.proofs.Common.{inl, Vec}
use Rattle.std.proofs.lemmas.Result.{IfOk-weaker}
use Rattle.dfi_base.specs.declared.numbers.Name.{Name}
use Rattle.std.specs.declared.alloc.Global.{Global}
use Rattle.number_lists.specs.Lists.{name_of}
use Rattle.dfi_top.proofs.Replies.{refused_at}
use Rattle.dfi_top.proofs.runs.run_along_bytes.Goals as goal

pub returns-in-Err-Refused : goal.returns-in-Err-Refused
returns-in-Err-Refused c =
    IfOk-weaker c.refuse_name_bytes.result _ _
    (λ r h. inl (c.in-Err-Refused.at, refused_at {X = Vec Name Global} (λ v. v.items) name_of c.args.bytes.now _ c.in-Err-Refused.at c.in-Err-Refused.field-0-is c.in-Err-Refused.ensures.list, h)) c.refuse_name_bytes.ensures
