-- What lies under a lock, beside the history of all entries, and what an entry is answered.
use Rattle.std.specs.Prelude.{◌≡◌, ℕ, ◌<◌, true, List}
use Rattle.tac_ir.specs.declared.run.Entry.{Entry}
use Rattle.tac_ir.specs.Answers.{IsAnswer}
use Rattle.tac_ir.specs.Served.{is_served}
use Rattle.heap_desk.specs.Stands.{StandsAfter}
use Rattle.word_table.specs.Stripes.{HoldsStripe}
use Rattle.stripe_rule.specs.declared.plan.Terms.{Terms}
use Rattle.stripe_rule.specs.declared.content.Content.{Content}

-- under the lock of a stripe its words, and under the last one the desk, as they are after this history
abbrev pub Holds : Terms → ℕ → List Entry → Content → Type 0
Holds p k h (Content.Words t) = (k < p.stripes) × (t.stripe ≡ k) × (t.stripes ≡ p.stripes) × HoldsStripe p.md h t
Holds p k h (Content.Desk d) = (k ≡ p.stripes) × StandsAfter p.md p.input h d

-- what was taken from under lock k was there after some history
abbrev pub Sometime : Terms → ℕ → Content → Type 0
Sometime p k y = (h : List Entry) × Holds p k h y

-- an entry that a memory answers is answered as after this history
abbrev pub IsServed : Terms → List Entry → Entry → Type 0
IsServed p h e = is_served e.op ≡ true → (n room : ℕ) → IsAnswer p.md p.input h n room e.op e.answer
