use Rattle.std.proofs.Common.{◌∷◌, [], ◌++◌, refl, sym, ◌∙◌, ap, subst}
use Rattle.tac_thread.specs.Threads.{life_in, running}
use Rattle.flat_core.specs.tools.Asked.{asked_of}
use Rattle.flat_core.specs.Serves.{Serves, Steps}
use Rattle.flat_core.specs.Stands.{Core, history_of, IsStep}
use Rattle.flat_core.proofs.Ending.{over_is, goes_on}
use Rattle.flat_core.proofs.Stepping.{stepped, not_runnable, same_parts}
use Rattle.flat_core.proofs.steps.Core.step.Goals as goal

pub returns-then-is_over : goal.returns-then-is_over
returns-then-is_over c = λ input is. (over_is c.args.m.now input c.args.self.now is (sym c.is_over.ensures ∙ c.if-is_over.true), refl)

pub step-requires-clause-serves : goal.step-requires-clause-serves
step-requires-clause-serves c =
    let input = c.requires.core.0 in
    let h = history_of c.args.self.now in
    let go = goes_on c.args.m.now input c.args.self.now c.requires.core.1 (sym c.is_over.ensures ∙ c.if-is_over.false) in
    (input, h, subst (λ core. Serves c.args.m.now input h core.threads core.store) (sym c.self.view_is) go.serves)

pub returns-in_default : goal.returns-in_default
returns-in_default c = λ input is.
    let m = c.args.m.now in
    let n = c.args.name.0 in
    let core = c.args.self.now in
    let none = subst (λ o. Steps m c.self.inside.machine.tree c.self.inside.machine.store n o c.step.new.self.tree c.step.new.self.store) c.in_default.is (c.in_ok-entry.ensures).ok in
    let asks = ap (λ k. asked_of m.code (running (life_in k.threads n))) (sym c.self.view_is) ∙ none.0 in
    let r = not_runnable m input core n is (sym c.is_over.ensures ∙ c.if-is_over.false) asks in (
      r.0,
      r.1,
      same_parts core c.step.new.self.tree c.step.new.self.store c.reserve.new.self.items (none.1 ∙ ap (λ k. k.threads) c.self.view_is) (none.2 ∙ ap (λ k. k.store) c.self.view_is)
          ((c.in_ok-reserve.ensures).items ∙ ap (λ k. k.entries) c.self.view_is),
    )

pub returns : goal.returns
returns c = λ input is.
    let m = c.args.m.now in
    let core = c.args.self.now in
    let n = c.args.name.0 in
    let e = c.in-Some.entry in
    let some = subst (λ o. Steps m c.self.inside.machine.tree c.self.inside.machine.store n o c.step.new.self.tree c.step.new.self.store) c.in-Some.is (c.in_ok-entry.ensures).ok in
    let over = sym c.is_over.ensures ∙ c.if-is_over.false in
    let go = goes_on m input core is over in
    let asks = ap (λ k. asked_of m.code (running (life_in k.threads n))) (sym c.self.view_is) ∙ some.2 in
    let did = some.4 input (history_of core) (subst (λ k. Serves m input (history_of core) k.threads k.store) (sym c.self.view_is) go.serves) in
    let before = (c.in_ok-reserve.ensures).items ∙ ap (λ k. k.entries) c.self.view_is in
    let new : Core = record { threads = c.step.new.self.tree; store = c.step.new.self.store; entries = c.push.new.self.items } in
    subst (λ x. IsStep m input n core x new) (sym some.3)
    (stepped m input core new n some.0 some.1 is over asks did ((c.in-Ok.ensures).items ∙ ap (λ l. l ++ e ∷ []) before ∙ ap (λ x. core.entries ++ x ∷ []) some.3))
