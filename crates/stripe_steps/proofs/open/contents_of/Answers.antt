use Rattle.std.proofs.Common.{◌≡◌, [], sym, ap, ◌∙◌, subst}
use Rattle.std.specs.Prelude.{ℤ, List}
use Rattle.tac_ir.specs.declared.module.Size.{Size}
use Rattle.heap_desk.specs.Desk.{Desk}
use Rattle.heap_desk.specs.Stands.{StandsAfter}
use Rattle.heap_desk.proofs.Beside.{starts_run}
use Rattle.stripe_rule.specs.declared.plan.Terms.{Terms}
use Rattle.stripe_rule.specs.Laws.{IsBlank}
use Rattle.stripe_steps.proofs.Opening.{blank}
use Rattle.stripe_steps.proofs.open.contents_of.Goals as goal

abbrev desk_of : Size → List ℤ → Desk
desk_of size input = record { size = size; blocks = []; rest = input }

pub returns : goal.returns
returns c = λ budget.
    let p : Terms = record { md = c.args.m.now; input = c.args.input.now; stripes = c.args.stripes; budget = budget } in
    let is : c.in_ok-desk.desk ≡ desk_of p.md.size p.input = c.in_ok-desk.ensures ∙ ap (λ m. desk_of m.size p.input) c.m.view_is in
    subst (IsBlank p) (sym c.in_ok-push.ensures.items)
    (blank p c.in_ok-words.words c.in_ok-desk.desk c.in_ok-contents.contents.items c.in_ok-words.ensures
    (subst (StandsAfter p.md p.input []) (sym is) (starts_run p.md p.input)) c.in_ok-contents.ensures)
