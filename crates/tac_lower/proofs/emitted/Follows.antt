-- Emitting pieces behind each other, and those that know where they begin.
use Rattle.std.proofs.Common.{◌≡◌, ℕ, ◌+◌, ◌<◌, false, Result, Ok, Err, ◌++◌, refl, ap, ◌∙◌, subst, arith, append_assoc}
use Rattle.tac_lower.specs.declared.draft.Ends.{Ends}
use Rattle.tac_lower.specs.declared.writer.Writer.{Writer}
use Rattle.tac_lower.specs.declared.writer.Stop.{Stop}
use Rattle.tac_lower.specs.Parts.{Part, from_here, within, ◌⨟◌}
use Rattle.tac_lower.specs.Instrs.{jump}
use Rattle.tac_lower.specs.Stmts.{leaving}
use Rattle.tac_lower.specs.tools.Emits.{Exact, Emitted, Emits}
use Rattle.tac_lower.proofs.emitted.Chains.{follow, stopped}

-- one piece, and then another
pub next : {B : Type 0} (p : Part ℕ) (q : Part B) (ends : Ends) (old mid new : Writer) (a : ℕ) (r : Result B Stop)
    → Emitted (p.make ends old.next) p.points old mid a → Emits q ends mid new r → Emits (p ⨟ q) ends old new r
next p q ends old mid new a r first second = follow 0 p (λ x. q) ends old mid new a r (λ x. refl) first second

-- the first was not emitted
pub halt : {B : Type 0} (p : Part ℕ) (q : Part B) (ends : Ends) (old mid : Writer) (e : Stop) → Emits p ends old mid (Err e) → Emits (p ⨟ q) ends old mid (Err e)
halt p q ends old mid e past = stopped 0 p (λ x. q) ends old mid e past

-- a piece that depends on where it begins
pub here : {B : Type 0} (p : ℕ → Part B) (ends : Ends) (old new : Writer) (r : Result B Stop)
    → ((x : ℕ) → (p x).points ≡ (p 0).points) → Emits (p old.next.at) ends old new r → Emits (from_here p) ends old new r
here p ends old new (Ok b) counts h = record {
  count = (let c1 = h.count in let c2 = counts old.next.at in omega arith);
  room = h.room;
  dry = h.dry;
  exact = h.exact;
}
here p ends old new (Err Stop.Full) counts past =
    (let h : old.room < old.next.at + (p old.next.at).points = past in let c2 = counts old.next.at in omega arith)
here p ends old new (Err Stop.Memory) counts past = tt

-- The body of a loop, emitted with these ends: they are the right ones but in a dry run.
pub inside : (right : ℕ → Ends) (body : Part ℕ) (mine ends : Ends) (old new : Writer) (r : Result ℕ Stop)
    → (old.dry ≡ false → mine ≡ right old.next.at) → Emits body mine old new r → Emits (from_here (λ at. within (right at) body)) ends old new r
inside right body mine ends old new (Ok b) same h = record {
  count = h.count;
  room = h.room;
  dry = h.dry;
  exact = λ live. subst (λ x. Exact (body.make x old.next) old new b) (same live) (h.exact live);
}
inside right body mine ends old new (Err Stop.Full) same past = past
inside right body mine ends old new (Err Stop.Memory) same past = tt

-- a jump to an end of the loop round it
pub leaves_loop : (line : ℕ) (end : Ends → ℕ) (ends : Ends) (old new : Writer) (r : Result ℕ Stop)
    → Emits (jump line (end ends)) ends old new r → Emits (leaving line end) ends old new r
leaves_loop line end ends old new (Ok a) h = h
leaves_loop line end ends old new (Err Stop.Full) past = past
leaves_loop line end ends old new (Err Stop.Memory) past = tt

-- A number of instructions to come, in a piece that was emitted with it: it is the right one but in a dry run.
pub exactly : {B : Type 0} (p : ℕ → Part B) (points n : ℕ) (ends : Ends) (old new : Writer) (b : B)
    → ((x : ℕ) → (p x).points ≡ (p 0).points) → (old.dry ≡ false → n ≡ points)
    → Emitted ((p n).make ends old.next) (p n).points old new b → Emitted ((p points).make ends old.next) (p points).points old new b
exactly p points n ends old new b counts is first = record {
  count = (let c1 = first.count in let c2 = counts n in let c3 = counts points in omega arith);
  room = first.room;
  dry = first.dry;
  exact = λ live. subst (λ k. Exact ((p k).make ends old.next) old new b) (is live) (first.exact live);
}

-- pieces in a row, however they are grouped
pub regroup : {B : Type 0} (p q : Part ℕ) (r : Part B) (ends : Ends) (old new : Writer) (answer : Result B Stop)
    → Emits ((p ⨟ q) ⨟ r) ends old new answer → Emits (p ⨟ q ⨟ r) ends old new answer
regroup p q r ends old new (Ok b) h = record {
  count = (let c = h.count in omega arith);
  room = h.room;
  dry = h.dry;
  exact = λ live.
      let a = p.make ends old.next in
      let second = q.make ends a.next in
      record {
        result = (h.exact live).result;
        drafts = (h.exact live).drafts ∙ ap (λ x. old.drafts ++ x) (append_assoc a.drafts second.drafts (r.make ends second.next).drafts);
        next = (h.exact live).next;
      };
}
regroup p q r ends old new (Err Stop.Full) past = (let h : old.room < old.next.at + ((p.points + q.points) + r.points) = past in omega arith)
regroup p q r ends old new (Err Stop.Memory) past = tt
