use Rattle.std.proofs.Common.{◌≡◌, ◌∙◌, ap, sym, true}
use Rattle.tac_ir.specs.Edges.{calls_fun}
use Rattle.tac_ir.specs.Layout.{instr_at}
use Rattle.flow_rules.proofs.ReachRules.{next_exists, call_is_not_last}
use Rattle.flow_rules.proofs.flows.call_flows.Goals as goal

pub leads_from-requires-clause-next : goal.leads_from-requires-clause-next
leads_from-requires-clause-next c =
    let calls : calls_fun c.args.p.fun (instr_at c.args.c.now c.args.x) ≡ true = ap (calls_fun c.args.p.fun) (sym c.instr_at.ensures) ∙ sym c.calls.ensures ∙ c.if-not-calls.false in
    next_exists c.args.c.now c.requires.form c.args.x c.requires.x (call_is_not_last c.args.p.fun (instr_at c.args.c.now c.args.x) calls)
