use Rattle.std.proofs.Common.{◌<◌, ◌≤◌, sym, ap, ◌∙◌, subst, arith}
use Rattle.std.specs.List.{All}
use Rattle.atomic_table.specs.Table.{Me}
use Rattle.guest_log.specs.declared.stamped.Stamped.{Stamped}
use Rattle.stripe_rule.specs.declared.content.Content.{Content}
use Rattle.stripe_rule.specs.declared.view.View.{View}
use Rattle.std.specs.Prelude.{◌-◌, max}
use Rattle.stripe_rule.specs.Kids.{share_of}
use Rattle.stripe_rule.specs.tools.Logs.{past}
use Rattle.stripe_table.proofs.Pushing.{below_floor}
use Rattle.stripe_table.proofs.Splitting.{left_over}
use Rattle.stripe_table.proofs.memory.SharedMem.split.Goals as goal

pub invariant_of-pass-clause-named : goal.invariant_of-pass-clause-named
invariant_of-pass-clause-named c =
    let told = c.tell.ensures.told in
    let old = c.cut-seat.ensures.old in
    let named = c.args.pass.now.named in (
      ap (λ (m : Me Content View). m.0.name) old ∙ ap (λ (m : Me Content View). m.0.name) told.0 ∙ named.0,
      named.1,
      subst (λ (m : Me Content View). 0 < m.0.parts) (sym old)
          (subst (λ (m : Me Content View). 0 < m.0.parts - share_of m.0.name) (sym told.0)
          (left_over c.args.pass.now.seat.me.0 c.args.pass.now.name c.args.i named.0 c.requires.branch.0 c.requires.branch.1 c.requires.branch.2 c.requires.shallow named.2 told.3)),
    )

pub invariant_of-pass-clause-above : goal.invariant_of-pass-clause-above
invariant_of-pass-clause-above c =
    let P : Me Content View → Type 0 = λ m. All (λ (s : Stamped). m.0.floor ≤ s.ticket) c.args.pass.now.log.items in
    subst P (sym c.cut-seat.ensures.old) (subst P (sym c.tell.ensures.told.0) c.args.pass.now.above)

pub returns-clause-floor : goal.returns-clause-floor
returns-clause-floor c =
    let v : View = c.tell.new.seat.me.0 in
    let logged = ap (λ (m : Me Content View). m.0.log) c.tell.ensures.told.0 ∙ c.args.pass.now.logged in
    subst (λ (m : Me Content View). All (λ (s : Stamped). s.ticket < m.0.floor) c.args.pass.now.log.items) (sym c.cut-seat.ensures.new)
    (below_floor (max v.floor (past v.log)) c.args.pass.now.log.items v.log logged (omega arith))
