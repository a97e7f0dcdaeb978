use Rattle.std.proofs.Common.{◌≡◌, ◌∙◌, ◌⊎◌, inl, inr, sym, subst, true}
use Rattle.tac_ir.specs.Regions.{IsInside}
use Rattle.dfi_base.specs.Bits.{has}
use Rattle.flow_rules.specs.declared.reads.Made.{Made}
use Rattle.flow_rules.specs.tools.Made.{IsMadeAt}
use Rattle.flow_rules.proofs.Branches.{made_within}
use Rattle.flow_rules.proofs.joins.is_made_within.Goals as goal

pub returns-else-is_inside : goal.returns-else-is_inside
returns-else-is_inside c =
    let found = subst (IsMadeAt c.args.c.now (Made.Def c.args.def)) c.in-Some.is c.point_of.ensures in
    let q = c.in-Some.q in
    let both = made_within c.args.c.now c.requires.form c.args.p.fun (record { fork = c.args.p.at; entry = c.args.entry; last = c.args.last }) c.args.set.now c.args.def c.requires.set q found.1 in
    (λ h. both.0 (inr h), λ h. by (both.1 h))
  where
    by : ((c.in-Some.q.fun ≡ c.args.p.fun) × IsInside (record { fork = c.args.p.at; entry = c.args.entry; last = c.args.last }) c.in-Some.q.at) ⊎ (has c.args.set.now c.in-Some.q.fun ≡ true) → has c.args.set.now c.in-Some.q.fun ≡ true
    by (inl h) = (let clash = sym c.if-is_inside.false ∙ c.is_inside.ensures.1 h in cc)
    by (inr h) = h
