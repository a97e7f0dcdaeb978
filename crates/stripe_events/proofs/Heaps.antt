-- Events of the heap and the input.
use Rattle.std.proofs.Common.{◌≡◌, ℕ, ◌<◌, Ok, Err, Bool, true, false, refl, sym, ap, ◌∙◌, subst, arith}
use Rattle.std.specs.Prelude.{ℤ, if◌then◌else◌, length}
use Rattle.std.proofs.lemmas.Nat.{mod_below}
use Rattle.tac_ir.specs.declared.run.Op.{Op}
use Rattle.tac_ir.specs.declared.run.Stop.{Stop}
use Rattle.tac_ir.specs.declared.run.Answer.{Answer}
use Rattle.tac_ir.specs.Words.{word_of}
use Rattle.tac_ir.specs.Desk.{item_words}
use Rattle.tac_ir.specs.Layout.{memory_words}
use Rattle.heap_desk.specs.declared.fault.TakeFault.{TakeFault}
use Rattle.heap_desk.specs.Desk.{Desk}
use Rattle.heap_desk.specs.Laws.{GiveUndoesTake}
use Rattle.heap_desk.specs.Replies.{AnswersTake, after_take, can_give, after_give, first_of}
use Rattle.stripe_rule.specs.declared.plan.Terms.{Terms}
use Rattle.stripe_rule.specs.declared.content.Content.{Content}
use Rattle.stripe_rule.specs.Locks.{lock_at}
use Rattle.stripe_rule.specs.Holds.{Sometime}
use Rattle.stripe_rule.specs.Serving.{IsReady}
use Rattle.stripe_rule.proofs.Serving.{takes_block, no_block, after_none, frees, comes, remain, lock_in}
use Rattle.stripe_events.specs.Accesses.{IsKind}
use Rattle.stripe_events.specs.Prepared.{IsPrepared}

-- a block is taken
pub took : (p : Terms) (site words at : ℕ) (count : ℤ) (d d' : Desk) → words ≡ item_words p.md.code site → GiveUndoesTake d → AnswersTake d count words (Ok at)
    → d' ≡ after_take d count words (Ok at) → IsPrepared p (Op.New site count) (Answer.Value at) (Content.Desk d) (Content.Desk d')
took p site words at count d d' size undone said after = record {
  ready = takes_block p site words at count d d' size said after;
  before = ap Content.Desk (ap (λ x. after_give x at) after ∙ undone count words at said);
  kind = tt;
  here = tt;
}

-- or there is no room for it
pub full : (p : Terms) (site words : ℕ) (count : ℤ) (d d' : Desk) → words ≡ item_words p.md.code site → AnswersTake d count words (Err TakeFault.NoRoom)
    → d' ≡ after_take d count words (Err TakeFault.NoRoom) → IsPrepared p (Op.New site count) (Answer.Stop Stop.Heap) (Content.Desk d) (Content.Desk d')
full p site words count d d' size said after =
    let same : d' ≡ d = after ∙ after_none d count words in record {
      ready = no_block p site words count d d' size said same;
      before = ap Content.Desk same;
      kind = tt;
      here = tt;
    }

abbrev freed : Bool → Answer
freed b = if b then Answer.Unit else Answer.Stop Stop.Free

freed_kind : (w : ℕ) (b : Bool) → IsKind (Op.Free w) (freed b)
freed_kind w true = tt
freed_kind w false = tt

pub gives : (p : Terms) (w : ℕ) (d : Desk) (b : Bool) → b ≡ can_give d w → IsPrepared p (Op.Free w) (freed b) (Content.Desk d) (Content.Desk d)
gives p w d b is = record {
  ready = subst (λ x. IsReady p (Op.Free w) (freed x) (Content.Desk d) (Content.Desk d)) (sym is) (frees p w d);
  before = refl;
  kind = freed_kind w b;
  here = tt;
}

-- a number comes, or they are counted
pub numbers : (p : Terms) (d : Desk) (v : ℕ) → v ≡ word_of (first_of d.rest) → IsPrepared p Op.In (Answer.Value v) (Content.Desk d) (Content.Desk d)
numbers p d v is = subst (λ x. IsPrepared p Op.In (Answer.Value x) (Content.Desk d) (Content.Desk d)) (sym is) (record { ready = comes p d; before = refl; kind = tt; here = tt })

pub counted : (p : Terms) (d : Desk) (v : ℕ) → v ≡ length d.rest → IsPrepared p Op.Left (Answer.Value v) (Content.Desk d) (Content.Desk d)
counted p d v is = subst (λ x. IsPrepared p Op.Left (Answer.Value x) (Content.Desk d) (Content.Desk d)) (sym is) (record { ready = remain p d; before = refl; kind = tt; here = tt })

-- the desk lies under no stripe's lock
pub no_stripe : (p : Terms) (w : ℕ) (d : Desk) → 0 < p.stripes → w < memory_words p.md.size → Sometime p (lock_at p w) (Content.Desk d) → ⊥
no_stripe p w d some low held =
    let at = held.1.0 in
    let is = lock_in p w low in
    let below = mod_below w p.stripes some in
    omega (arith, at, is, below)
