-- What the log of the root is, with the oldest entry first.
use Rattle.std.proofs.Common.{◌≡◌, ◌≤◌, true, List, length, reverse, sym, ap, ◌∙◌, subst, arith}
use Rattle.std.proofs.lemmas.List.{length-reverse, reverse-reverse}
use Rattle.guest_log.specs.declared.stamped.Stamped.{Stamped}
use Rattle.guest_log.specs.Shared.{Shared}
use Rattle.stripe_rule.specs.declared.plan.Terms.{Terms}
use Rattle.stripe_rule.specs.declared.view.View.{View}
use Rattle.stripe_rule.specs.Laws.{IsClosed}
use Rattle.stripe_rule.specs.tools.Logs.{HasStop}
use Rattle.stripe_table.specs.Passes.{HasStopIn}

pub record IsWhole (p : Terms) (v : View) (items : List Stamped) : Type 0 where
  pub shared : Shared p.md p.input items
  pub most : length items ≤ p.budget
  pub spent : v.spent ≡ true → length items ≡ p.budget
  pub halted : v.halted ≡ true → HasStopIn items

pub whole : (p : Terms) (v : View) (items : List Stamped) → v.log ≡ reverse items → IsClosed p v → IsWhole p v items
whole p v items logged closed =
    let long : length v.log ≡ length items = ap length logged ∙ length-reverse items in
    record {
      shared = subst (Shared p.md p.input) (ap reverse logged ∙ reverse-reverse items) closed.shared;
      most = (let a = closed.most in omega (arith, a, long));
      spent = λ on. (sym long ∙ closed.spent on);
      halted = λ on. subst HasStop logged (closed.halted on);
    }
