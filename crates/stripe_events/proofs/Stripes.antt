-- Reads and writes of words of memory.
use Rattle.std.proofs.Common.{◌≡◌, ℕ, ◌<◌, List, Bool, true, false, refl, sym, subst, arith}
use Rattle.std.specs.Prelude.{nat_le, ◌&&◌, not, if◌then◌else◌}
use Rattle.tac_ir.specs.declared.run.Op.{Op}
use Rattle.tac_ir.specs.declared.run.Answer.{Answer}
use Rattle.tac_ir.specs.declared.run.Stop.{Stop}
use Rattle.tac_ir.specs.declared.run.Entry.{Entry}
use Rattle.tac_ir.specs.Module.{Module}
use Rattle.tac_ir.specs.Layout.{memory_words}
use Rattle.tac_ir.specs.Last.{Written, last_write}
use Rattle.tac_ir.specs.Answers.{class_of, is_checked, is_allowed, read_answer, write_answer}
use Rattle.dfi_base.specs.declared.numbers.ReadNo.{ReadNo}
use Rattle.dfi_base.specs.declared.numbers.DefNo.{DefNo}
use Rattle.word_table.specs.Stripes.{Stripe, HoldsStripe, IsIn}
use Rattle.stripe_rule.specs.declared.plan.Terms.{Terms}
use Rattle.stripe_rule.specs.declared.content.Content.{Content}
use Rattle.stripe_rule.specs.Locks.{lock_of, lock_at}
use Rattle.stripe_rule.specs.Holds.{Holds, Sometime}
use Rattle.stripe_rule.proofs.Serving.{is_in, reads_word, writes_word}
use Rattle.stripe_events.specs.Accesses.{IsAccess, IsKind}
use Rattle.stripe_events.specs.Prepared.{IsPrepared}

-- the kinds of answers
abbrev read_in : Bool → Bool → ℕ → ℕ → Answer
read_in beyond alarms class value = if beyond then Answer.Stop Stop.Address else (if alarms then Answer.Stop (Stop.Alarm class) else Answer.Value value)

within : (size w : ℕ) → w < size → nat_le size w ≡ false
within size w h = grind (arith, nat_le)

read_kind : (m : Module) (h : List Entry) (r : ReadNo) (w : ℕ) → w < memory_words m.size → IsKind (Op.Read r w) (read_answer m h r.0 w)
read_kind m h r w low =
    let last : Written = last_write m.code h w in
    subst (λ b. IsKind (Op.Read r w) (read_in b (is_checked m r.0 && not (is_allowed m r.0 last)) (class_of m last.def) last.value)) (sym (within (memory_words m.size) w low))
    (by (is_checked m r.0 && not (is_allowed m r.0 last)) (class_of m last.def) last.value)
  where
    by : (alarms : Bool) (class value : ℕ) → IsKind (Op.Read r w) (read_in false alarms class value)
    by true class value = tt
    by false class value = tt

write_kind : (m : Module) (d : DefNo) (w v : ℕ) → w < memory_words m.size → IsKind (Op.Write d w v) (write_answer m w)
write_kind m d w v low = subst (λ b. IsKind (Op.Write d w v) (if b then Answer.Stop Stop.Address else Answer.Unit)) (sym (within (memory_words m.size) w low)) tt

-- what a stripe answers
pub reads : (p : Terms) (op : Op) (r : ReadNo) (w : ℕ) (a : Answer) (t : Stripe) → op ≡ Op.Read r w → IsAccess p op → Sometime p (lock_of p op) (Content.Words t)
    → ((h : List Entry) → HoldsStripe p.md h t → a ≡ read_answer p.md h r.0 w)
    → IsPrepared p op a (Content.Words t) (Content.Words t)
reads p op r w a t is access held said = subst (λ o. IsPrepared p o a (Content.Words t) (Content.Words t)) (sym is) (here (subst (IsAccess p) is access) (subst (λ o. Sometime p (lock_of p o) (Content.Words t)) is held))
  where
    here : w < memory_words p.md.size → Sometime p (lock_at p w) (Content.Words t) → IsPrepared p (Op.Read r w) a (Content.Words t) (Content.Words t)
    here low there = record {
      ready = reads_word p r.0 w a t said;
      before = refl;
      kind = subst (IsKind (Op.Read r w)) (sym (said there.0 there.1.3)) (read_kind p.md there.0 r w low);
      here = tt;
    }

pub writes : (p : Terms) (op : Op) (d : DefNo) (w v : ℕ) (a : Answer) (t : Stripe) → op ≡ Op.Write d w v → IsAccess p op → Sometime p (lock_of p op) (Content.Words t)
    → ((m : Module) (h : List Entry) → HoldsStripe m h t → a ≡ write_answer m w)
    → IsPrepared p op a (Content.Words t) (Content.Words t)
writes p op d w v a t is access held said = subst (λ o. IsPrepared p o a (Content.Words t) (Content.Words t)) (sym is) (here (subst (IsAccess p) is access) (subst (λ o. Sometime p (lock_of p o) (Content.Words t)) is held))
  where
    here : w < memory_words p.md.size → Sometime p (lock_at p w) (Content.Words t) → IsPrepared p (Op.Write d w v) a (Content.Words t) (Content.Words t)
    here low there =
        let holds = there.1 in
        let own : t.stripe < t.stripes = (let a = holds.0 in let b = holds.1 in let c = holds.2 in omega (arith, a, b, c)) in
        let mine : IsIn t w = is_in p w t there.0 low holds in record {
          ready = writes_word p d.0 w v a t own mine (λ h stripe. said p.md h stripe);
          before = refl;
          kind = subst (IsKind (Op.Write d w v)) (sym (said p.md there.0 holds.3)) (write_kind p.md d w v low);
          here = mine;
        }

-- a word that is read or written is one of the stripe's
pub own_read : (p : Terms) (op : Op) (r : ReadNo) (w : ℕ) (t : Stripe) → op ≡ Op.Read r w → IsAccess p op → Sometime p (lock_of p op) (Content.Words t) → IsIn t w
own_read p op r w t is access held = is_in p w t held.0 (subst (IsAccess p) is access) (subst (λ o. Holds p (lock_of p o) held.0 (Content.Words t)) is held.1)

pub own_write : (p : Terms) (op : Op) (d : DefNo) (w v : ℕ) (t : Stripe) → op ≡ Op.Write d w v → IsAccess p op → Sometime p (lock_of p op) (Content.Words t) → IsIn t w
own_write p op d w v t is access held = is_in p w t held.0 (subst (IsAccess p) is access) (subst (λ o. Holds p (lock_of p o) held.0 (Content.Words t)) is held.1)
