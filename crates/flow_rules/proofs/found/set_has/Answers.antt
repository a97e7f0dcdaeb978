use Rattle.std.proofs.Common.{◌≡◌, ◌∙◌, ap, sym, subst, Some}
use Rattle.tac_ir.specs.Layout.{instr_at}
use Rattle.tac_ir.specs.Numbers.{new_read}
use Rattle.flow_rules.specs.declared.reads.Made.{Made}
use Rattle.flow_rules.specs.InSet.{InSet}
use Rattle.flow_rules.specs.tools.Made.{IsMadeAt}
use Rattle.flow_rules.specs.Touches.{touches}
use Rattle.flow_rules.specs.ReachRows.{reach_rows}
use Rattle.flow_rules.proofs.Coming.{in_set, some_comes}
use Rattle.flow_rules.proofs.found.set_has.Goals as goal

pub returns-in-Some : goal.returns-in-Some
returns-in-Some c =
    let code = c.args.c.now in
    let rows = c.args.p.now.rows in
    let found = subst (IsMadeAt code (Made.Read c.from.result)) c.in-Some.is c.point_of.ensures in
    let read : new_read (instr_at code c.in-Some.at) ≡ Some c.args.read.0 = found.1 ∙ ap Some c.from.ensures in
    let def = c.from-def.ensures in (
      λ h. subst (λ d. InSet code (touches code rows) (reach_rows code c.args.r.now) c.args.read.0 d) def
          (in_set code c.requires.form rows c.args.r.now c.requires.reach c.in-Some.at found.0 c.args.read.0 c.from-def.result read c.is_made_beside-beside.result c.is_made_beside-beside.ensures (c.comes.ensures.0 h)),
      λ h. c.comes.ensures.1 (some_comes code c.requires.form rows c.args.r.now c.requires.reach c.in-Some.at found.0 c.args.read.0 c.from-def.result read c.is_made_beside-beside.result c.is_made_beside-beside.ensures
          (subst (λ d. InSet code (touches code rows) (reach_rows code c.args.r.now) c.args.read.0 d) (sym def) h)),
    )
