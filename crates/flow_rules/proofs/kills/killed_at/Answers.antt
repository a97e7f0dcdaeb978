use Rattle.std.proofs.Common.{◌∙◌, subst, sym}
use Rattle.tac_ir.specs.declared.code.Instr.{Instr}
use Rattle.flow_rules.specs.tools.Killed.{IsKilled}
use Rattle.flow_rules.proofs.InCode.{names_at}
use Rattle.flow_rules.proofs.kills.killed_at.Goals as goal

pub killed_by_set-requires-clause-place : goal.killed_by_set-requires-clause-place
killed_by_set-requires-clause-place c = names_at c.args.c.now c.requires.form c.args.p c.requires.point (Instr.Set c.in-Set.place c.in-Set.a c.in-Set.def) (sym c.in-Set.is ∙ c.instr_at.ensures)

pub returns-in-Set : goal.returns-in-Set
returns-in-Set c =
    subst (λ i. IsKilled c.args.c.now c.args.p.fun i c.killed_by_set.result) (sym c.in-Set.is ∙ c.instr_at.ensures) (record { each = c.killed_by_set.ensures.each })
