-- What lies under the lock of an event, between the answer and the ticket.
use Rattle.std.specs.Prelude.{◌≡◌}
use Rattle.tac_ir.specs.declared.run.Op.{Op}
use Rattle.tac_ir.specs.declared.run.Answer.{Answer}
use Rattle.word_table.specs.Stripes.{IsIn}
use Rattle.stripe_rule.specs.declared.plan.Terms.{Terms}
use Rattle.stripe_rule.specs.declared.content.Content.{Content}
use Rattle.stripe_rule.specs.Serving.{IsReady, content_before}
use Rattle.stripe_events.specs.Accesses.{IsKind}

-- the word that a write writes lies here
abbrev pub IsHere : Op → Content → Type 0
IsHere (Op.Write d w v) (Content.Words t) = IsIn t w
IsHere op y = Unit {0}

-- It was y and is y' now. It answers the event whatever came before; to take the answer back is to have y again.
pub record IsPrepared (p : Terms) (op : Op) (a : Answer) (y y' : Content) : Type 0 where
  pub ready : IsReady p op a y y'
  pub before : content_before op a y' ≡ y
  pub kind : IsKind op a
  pub here : IsHere op y'
