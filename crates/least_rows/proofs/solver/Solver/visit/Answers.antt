use Rattle.std.proofs.Common.{◌≡◌, false, length, length-set, ap, sym, ◌∙◌, subst}
use Rattle.std.specs.Prelude.{slice_set}
use Rattle.least_rows.specs.tools.Growing.{IsReady, IsApplied}
use Rattle.least_rows.proofs.Visiting.{at_contains, ready_still, visited}
use Rattle.least_rows.proofs.solver.Solver.visit.Goals as goal

pub returns-clause-ready : goal.returns-clause-ready
returns-clause-ready c =
    let s = c.args.system.now in
    let t = c.args.self.now.rows.items in
    let u = c.apply.new.self.rows.items in
    let waking = c.apply.new.self.waiting in
    let long : length waking ≡ length c.args.self.now.waiting =
    c.apply.ensures.waiting ∙ ap length c.put.ensures ∙ length-set c.args.self.now.waiting c.args.number false in
    subst (λ i. IsReady s u waking i.readers.items i.loads.items c.apply.new.asked c.args.empty.now) (sym c.apply.ensures.index)
    (ready_still s t u c.args.self.now.waiting waking c.args.self.now.index.readers.items c.args.self.now.index.loads.items c.args.asked.now
    c.apply.new.asked c.args.empty.now c.requires.ready c.apply.ensures.alike long c.apply.ensures.long)

applied : (c : goal.After-apply) → IsApplied c.args.system.now c.in-Some.rule.now c.args.self.now.rows.items (slice_set c.args.self.now.waiting c.args.number false)
    c.apply.new.self.rows.items c.apply.new.self.waiting c.apply.result
applied c =
    let s = c.args.system.now in
    let rule = c.in-Some.rule.now in
    subst (λ w. IsApplied s rule c.args.self.now.rows.items w c.apply.new.self.rows.items c.apply.new.self.waiting c.apply.result) c.put.ensures
    (c.apply.ensures.applied c.requires.ready.index (at_contains s.rules c.args.number rule (sym c.in-Some.ensures.value)))

pub returns-clause-grown : goal.returns-clause-grown
returns-clause-grown c =
    visited c.args.system.now c.args.number c.in-Some.rule.now c.args.self.now.rows.items c.args.self.now.waiting c.apply.new.self.rows.items
    c.apply.new.self.waiting c.apply.result (sym c.in-Some.ensures.value) (applied c)

pub returns-clause-done : goal.returns-clause-done
returns-clause-done c still = (applied c).same still
