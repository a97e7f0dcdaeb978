use Rattle.std.proofs.Common.{◌<◌, ◌∙◌, arith, length, sym, subst, []}
use Rattle.std.specs.Prelude.{All}
use Rattle.tac_ir.specs.declared.code.Instr.{Instr}
use Rattle.tac_ir.specs.Layout.{lines_of, instr_at}
use Rattle.flow_rules.proofs.InCode.{few_lines, names_at}
use Rattle.flow_rules.proofs.Parallels.{enters}
use Rattle.flow_rules.proofs.ReachRules.{targets_at, entries_exist, next_exists, goes_is_not_last}
use Rattle.flow_rules.proofs.flows.edges_hold.Goals as goal

pub leads-requires-clause-at : goal.leads-requires-clause-at
leads-requires-clause-at c = targets_at c.args.c.now c.requires.form c.args.p c.requires.point (Instr.Jump c.in-Jump.target) (sym c.in-Jump.is ∙ c.instr_at.ensures) 0 0 (omega arith)

pub leads-requires-in-Test-clause-at : goal.leads-requires-in-Test-clause-at
leads-requires-in-Test-clause-at c = targets_at c.args.c.now c.requires.form c.args.p c.requires.point (Instr.Test c.in-Test.a c.in-Test.yes c.in-Test.no) (sym c.in-Test.is ∙ c.instr_at.ensures) 0 0 (omega arith)

pub leads-requires-then-leads-clause-at : goal.leads-requires-then-leads-clause-at
leads-requires-then-leads-clause-at c = targets_at c.args.c.now c.requires.form c.args.p c.requires.point (Instr.Test c.in-Test.a c.in-Test.yes c.in-Test.no) (sym c.in-Test.is ∙ c.instr_at.ensures) 1 0 (omega arith)

pub flows-requires-clause-q : goal.flows-requires-clause-q
flows-requires-clause-q c =
    enters c.args.c.now c.requires.form c.in-Call.fun
    (names_at c.args.c.now c.requires.form c.args.p c.requires.point (Instr.Call c.in-Call.to c.in-Call.fun c.in-Call.def c.in-Call.args) (sym c.in-Call.is ∙ c.instr_at.ensures)).exists
    (record { params = 0; vars = []; code = []; line = 0 })

pub entries_flow-requires-clause-entries : goal.entries_flow-requires-clause-entries
entries_flow-requires-clause-entries c =
    subst (All (λ t. t < length (lines_of c.args.c.now c.args.p.fun))) (sym c.as_slice.ensures)
    (entries_exist (length (lines_of c.args.c.now c.args.p.fun)) c.in-Fork.join c.in-Fork.entries (targets_at c.args.c.now c.requires.form c.args.p c.requires.point (Instr.Fork c.in-Fork.join c.in-Fork.entries) (sym c.in-Fork.is ∙ c.instr_at.ensures)))

pub overflow_add-p : goal.overflow_add-p
overflow_add-p c = omega (arith, c.requires.point, few_lines c.args.c.now c.requires.form c.args.p.fun)

pub leads-requires-in_default : goal.leads-requires-in_default
leads-requires-in_default c =
    let instr = c.instr_at.ensures in
    record {
      form = c.requires.form;
      rows = c.requires.rows;
      p = c.requires.point;
      at = next_exists c.args.c.now c.requires.form c.args.p c.requires.point
          (goes_is_not_last (instr_at c.args.c.now c.args.p) (λ x read is. c.in_default.not-Ret x read (instr ∙ is)) (λ t is. c.in_default.not-Jump t (instr ∙ is)) (λ is. c.in_default.not-End (instr ∙ is)));
    }
