use Rattle.std.proofs.Common.{◌∙◌, sym, subst}
use Rattle.flow_rules.specs.declared.reads.Made.{Made}
use Rattle.flow_rules.specs.tools.Made.{IsMadeAt}
use Rattle.flow_rules.proofs.Coming.{made_beside}
use Rattle.flow_rules.proofs.found.is_made_beside.Goals as goal

pub returns-in-Some : goal.returns-in-Some
returns-in-Some c =
    let found = subst (IsMadeAt c.args.c.now (Made.Def c.args.def)) c.in-Some.is c.point_of.ensures in
    let meets = c.requires.parallel.meets_parallel c.args.at c.in-Some.q c.requires.point found.0 in (
      λ h. record { at = c.in-Some.q; def = found.1; parallel = meets.0 (sym c.meets.ensures ∙ h) },
      λ h. c.meets.ensures ∙ meets.1 (made_beside c.args.c.now c.requires.form c.args.at c.in-Some.q c.args.def found.1 h),
    )
