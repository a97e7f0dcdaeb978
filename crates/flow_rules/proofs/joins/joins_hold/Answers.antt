use Rattle.std.proofs.Common.{◌∙◌, subst, sym}
use Rattle.flow_rules.specs.tools.Branches.{AreBranches}
use Rattle.flow_rules.proofs.Branches.{branches_at}
use Rattle.flow_rules.proofs.joins.joins_hold.Goals as goal

pub joins_each-requires-clause-branches : goal.joins_each-requires-clause-branches
joins_each-requires-clause-branches c =
    subst (AreBranches c.args.c.now c.args.p.fun c.in-Fork.join) (sym c.as_slice.ensures) (branches_at c.args.c.now c.requires.form c.args.p c.requires.point c.in-Fork.join c.in-Fork.entries (sym c.in-Fork.is ∙ c.instr_at.ensures))

pub joins_all-requires-clause-branches : goal.joins_all-requires-clause-branches
joins_all-requires-clause-branches c =
    subst (AreBranches c.args.c.now c.args.p.fun c.in-Fork.join) (sym c.as_slice-then-joins_each.ensures) (branches_at c.args.c.now c.requires.form c.args.p c.requires.point c.in-Fork.join c.in-Fork.entries (sym c.in-Fork.is ∙ c.instr_at.ensures))
