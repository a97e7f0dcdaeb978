-- What an event does to what lies under its lock.
use Rattle.std.specs.Prelude.{◌≡◌, ◌≤◌, ◌/◌, List, ◌∷◌}
use Rattle.tac_ir.specs.declared.run.Op.{Op}
use Rattle.tac_ir.specs.declared.run.Answer.{Answer}
use Rattle.tac_ir.specs.declared.run.Stop.{Stop}
use Rattle.tac_ir.specs.declared.run.Entry.{Entry}
use Rattle.tac_ir.specs.Layout.{memory_words}
use Rattle.tac_ir.specs.Answers.{class_of}
use Rattle.heap_desk.specs.Desk.{Desk}
use Rattle.heap_desk.specs.Replies.{after_give, after_next}
use Rattle.word_table.specs.Stripes.{Stripe, with_word}
use Rattle.stripe_rule.specs.declared.plan.Terms.{Terms}
use Rattle.stripe_rule.specs.declared.content.Content.{Content}
use Rattle.stripe_rule.specs.Locks.{lock_of}
use Rattle.stripe_rule.specs.Holds.{Holds, IsServed}

-- what is left to be done once the ticket is drawn; a block's room was taken before
abbrev pub desk_after : Op → Desk → Desk
desk_after (Op.Free w) d = after_give d w
desk_after Op.In d = after_next d
desk_after op d = d

abbrev pub words_after : Terms → Op → Stripe → Stripe
words_after p (Op.Write d w v) t = with_word t (class_of p.md d.0) (w / t.stripes) v
words_after p op t = t

abbrev pub content_after : Terms → Op → Content → Content
content_after p op (Content.Words t) = Content.Words (words_after p op t)
content_after p op (Content.Desk d) = Content.Desk (desk_after op d)

-- without the block that was taken for an answer
abbrev pub desk_before : Op → Answer → Desk → Desk
desk_before (Op.New site count) (Answer.Value at) d = after_give d at
desk_before op a d = d

abbrev pub content_before : Op → Answer → Content → Content
content_before op a (Content.Words t) = Content.Words t
content_before op a (Content.Desk d) = Content.Desk (desk_before op a d)

-- what lies under the event's lock was y and is y' now: it answers the event whatever came before, and once that is done it is as behind the entry
abbrev pub IsReady : Terms → Op → Answer → Content → Content → Type 0
IsReady p op a y y' = (h : List Entry) (e : Entry) → Holds p (lock_of p op) h y → e.op ≡ op → e.answer ≡ a
    → IsServed p h e × Holds p (lock_of p op) (e ∷ h) (content_after p op y')

-- an event that needs no lock, and its answer: a read or write past the memory stops
abbrev pub IsTick : Terms → Op → Answer → Type 0
IsTick p (Op.Read r w) a = (memory_words p.md.size ≤ w) × (a ≡ Answer.Stop Stop.Address)
IsTick p (Op.Write d w v) a = (memory_words p.md.size ≤ w) × (a ≡ Answer.Stop Stop.Address)
IsTick p (Op.New site count) a = ⊥
IsTick p (Op.Free w) a = ⊥
IsTick p Op.In a = ⊥
IsTick p Op.Left a = ⊥
IsTick p op a = Unit {0}
