use Rattle.std.proofs.Common.{◌∙◌, sym, []}
use Rattle.flow_rules.specs.PointNumber.{entry}
use Rattle.flow_rules.proofs.Parallels.{enters}
use Rattle.flow_rules.proofs.OneVariable.{one_frame, more_frames}
use Rattle.flow_rules.proofs.kills.has_one_frame.Goals as goal

pub meets-requires-clause-p : goal.meets-requires-clause-p
meets-requires-clause-p c = enters c.args.c.now c.requires.form c.args.fun c.requires.fun (record { params = 0; vars = []; code = []; line = 0 })

pub meets-requires-clause-q : goal.meets-requires-clause-q
meets-requires-clause-q c = enters c.args.c.now c.requires.form c.args.fun c.requires.fun (record { params = 0; vars = []; code = []; line = 0 })

pub returns-then-not-meets : goal.returns-then-not-meets
returns-then-not-meets c =
    let real = enters c.args.c.now c.requires.form c.args.fun c.requires.fun (record { params = 0; vars = []; code = []; line = 0 }) in
    let alone = c.requires.parallel.meets_parallel (entry c.args.fun) (entry c.args.fun) real real in
    one_frame c.args.c.now c.args.fun c.meets.result c.can_call_itself.result c.if-not-meets.true (λ h. alone.0 (sym c.meets.ensures ∙ h), λ h. c.meets.ensures ∙ alone.1 h) c.can_call_itself.ensures

pub returns-else-not-meets : goal.returns-else-not-meets
returns-else-not-meets c =
    let real = enters c.args.c.now c.requires.form c.args.fun c.requires.fun (record { params = 0; vars = []; code = []; line = 0 }) in
    let alone = c.requires.parallel.meets_parallel (entry c.args.fun) (entry c.args.fun) real real in
    more_frames c.args.c.now c.args.fun c.meets.result c.if-not-meets.false (λ h. alone.0 (sym c.meets.ensures ∙ h), λ h. c.meets.ensures ∙ alone.1 h)
