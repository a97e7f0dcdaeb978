-- The run along the least runnable names is one.
use Rattle.std.proofs.Common.{◌≡◌, ℕ, ◌≤◌, ◌<◌, List, [], ◌∷◌, length, reverse, false, refl, Some, arith, sym, ◌∙◌, ap, subst}
use Rattle.std.specs.Prelude.{ℤ, pos, negsuc, nat_eq, if◌then◌else◌}
use Rattle.std.proofs.lemmas.Bool.{ne_eqb}
use Rattle.std.proofs.lemmas.List.{reverse-reverse, length-reverse}
use Rattle.dfi_base.specs.Lives.{own, Ended}
use Rattle.dfi_base.specs.Grown.{GoesOnIn, IsGrown, IsLeast}
use Rattle.dfi_base.specs.Alike.{FitsOnce}
use Rattle.dfi_base.proofs.OneRun.{entry_one, least_one, least_longer}
use Rattle.tac_ir.specs.declared.run.Op.{Op}
use Rattle.tac_ir.specs.declared.run.Stop.{Stop}
use Rattle.tac_ir.specs.declared.run.Answer.{Answer}
use Rattle.tac_ir.specs.declared.run.Entry.{Entry}
use Rattle.tac_ir.specs.declared.run.End.{End}
use Rattle.tac_ir.specs.declared.run.Limit.{Limit}
use Rattle.tac_ir.specs.declared.run.Journal.{Journal}
use Rattle.tac_ir.specs.Module.{Module}
use Rattle.tac_ir.specs.Desk.{Block, IsFirstFit}
use Rattle.tac_ir.specs.Path.{stops}
use Rattle.tac_ir.specs.Threads.{Want, EndsWith, root_start, threads_of}
use Rattle.tac_ir.specs.Answers.{IsBlockAnswer, IsAnswer}
use Rattle.tac_ir.specs.CoreRun.{GoesOn, Follows, IsHistory, Returns, end_by, end_after, IsEnd, IsByLeast, LeastRun}
use Rattle.tac_ir.specs.Words.{int_of}
use Rattle.tac_ir.proofs.Living.{deterministic, begins_one, ends_one}

-- two numbers of which neither is less are one
neither : (v w : ℕ) → (v < w → ⊥) → (w < v → ⊥) → v ≡ w
neither v w a b = omega arith

-- Answers.

-- the least free place is one
first_fit_one : (blocks : List Block) (from limit words v w : ℕ) → IsFirstFit blocks from limit words v → IsFirstFit blocks from limit words w → v ≡ w
first_fit_one blocks from limit words v w a b = neither v w (λ l. b.least v l a.free) (λ l. a.least w l b.free)

-- a block has one answer
block_one : (m : Module) (h : List Entry) (site : ℕ) (count : ℤ) (a b : Answer) → IsBlockAnswer m h site count a → IsBlockAnswer m h site count b → a ≡ b
block_one m h site (negsuc n) a b x y = x ∙ sym y
block_one m h site (pos n) (Answer.Value v) (Answer.Value w) x y = ap Answer.Value (first_fit_one _ _ _ _ v w x y)
block_one m h site (pos n) (Answer.Value v) (Answer.Stop Stop.Heap) x y = absurd (y v x.free)
block_one m h site (pos n) (Answer.Stop Stop.Heap) (Answer.Value w) x y = absurd (x w y.free)
block_one m h site (pos n) (Answer.Stop Stop.Heap) (Answer.Stop Stop.Heap) x y = refl
block_one m h site (pos n) (Answer.Value v) b x y = absurd y
block_one m h site (pos n) (Answer.Stop Stop.Heap) b x y = absurd y
block_one m h site (pos n) a b x y = absurd x

-- an event has one answer
pub answer_one : (m : Module) (input : List ℤ) (h : List Entry) (n room : ℕ) (op : Op) (a b : Answer) → IsAnswer m input h n room op a → IsAnswer m input h n room op b → a ≡ b
answer_one m input h n room (Op.New site count) a b x y = block_one m h site count a b x y
answer_one m input h n room op a b x y = x ∙ sym y

-- Entries.

-- the entry is what was wanted, with its answer, and the run had not ended
pub record FitsRun (m : Module) (input : List ℤ) (h : List Entry) (w : Want) (e : Entry) : Type 0 where
  pub point : e.point ≡ w.point
  pub op : e.op ≡ w.op
  pub answer : IsAnswer m input h e.name.0 w.room e.op e.answer
  pub going : GoesOn h
  pub living : Ended (threads_of m) h 1 → ⊥

-- one entry of a name fits
pub fits_once : (m : Module) (input : List ℤ) → FitsOnce (threads_of m) (FitsRun m input)
fits_once m input h w d e name a b =
    let points = a.point ∙ sym b.point in
    let ops = a.op ∙ sym b.op in
    let at_name = subst (λ n. IsAnswer m input h n w.room d.op d.answer) name a.answer in
    let at_op = subst (λ op. IsAnswer m input h e.name.0 w.room op d.answer) ops at_name in
    let answers = answer_one m input h e.name.0 w.room e.op d.answer e.answer at_op b.answer in
    λ i. record { name = record { 0 = name i }; point = points i; op = ops i; answer = answers i }

-- what follows goes on
pub goes_on : (m : Module) (input : List ℤ) (h : List Entry) (e : Entry) → Follows m input h e → GoesOnIn (threads_of m) (FitsRun m input) 1 (root_start m) h e
goes_on m input h e f = record {
  start = f.start;
  want = f.want;
  next = f.next;
  fits = record { point = f.point; op = f.op; answer = f.answer; going = f.going; living = f.living };
}

-- one entry of a name follows
pub follows_one : (m : Module) (input : List ℤ) (h : List Entry) (d e : Entry) → d.name.0 ≡ e.name.0 → Follows m input h d → Follows m input h e → d ≡ e
follows_one m input h d e name a b =
    entry_one (threads_of m) (FitsRun m input) (deterministic m) (fits_once m input) 1 (root_start m) h d e name (goes_on m input h d a) (goes_on m input h e b)

-- Histories: each is grown from thread 1 on.

pub history_grown : (m : Module) (input : List ℤ) (h : List Entry) → IsHistory m input h → IsGrown (threads_of m) (FitsRun m input) 1 (root_start m) h
unfolding IsHistory IsGrown
history_grown m input [] run = tt
history_grown m input (e ∷ h) run = (goes_on m input h e run.0, history_grown m input h run.1)

pub by_least : (m : Module) (h : List Entry) → IsByLeast m h → IsLeast (threads_of m) 1 (root_start m) h
unfolding IsByLeast IsLeast
by_least m [] least = tt
by_least m (e ∷ h) least = (least.0, by_least m h least.1)

-- Ends.

-- where the newest entry does not stop and the budget is not used up, the run is cut off
cut_after : (budget : ℕ) (h : List Entry) → GoesOn h → length h < budget → end_after budget h ≡ End.Cut
cut_after budget [] going short = ap (λ b. if b then End.Limit Limit.Budget else End.Cut) (ne_eqb 0 budget (λ e. omega arith))
cut_after budget (e ∷ h) going short = by e.answer going
  where
    by : (answer : Answer) → stops answer ≡ false
        → elim answer [ Answer.Stop stop ↦ end_by stop | _ ↦ (if nat_eq (length (e ∷ h)) budget then End.Limit Limit.Budget else End.Cut) ] ≡ End.Cut
    by (Answer.Stop stop) q = cc
    by answer q = ap (λ b. if b then End.Limit Limit.Budget else End.Cut) (ne_eqb (length (e ∷ h)) budget (λ x. omega arith))

-- a run that goes on has no other end than the cut
ends_cut : (m : Module) (budget : ℕ) (h : List Entry) (end : End) → GoesOn h → (Ended (threads_of m) h 1 → ⊥) → length h < budget → IsEnd m budget h end → end ≡ End.Cut
ends_cut m budget h (End.Done v) going living short e = absurd (living e.ended)
ends_cut m budget h end going living short e = e.1 ∙ cut_after budget h going short

-- main returns one value
returns_one : (m : Module) (h : List Entry) (v w : ℤ) → Returns m h v → Returns m h w → v ≡ w
returns_one m h v w a b =
    let starts = begins_one m h 1 a.start b.start a.begins b.begins in
    let last = subst (λ s. EndsWith m.code s (own (threads_of m) 1 h) (Some a.word)) starts a.last in
    let values : Some a.word ≡ Some b.word = ends_one m.code b.start (own (threads_of m) 1 h) (Some a.word) (Some b.word) last b.last in
    let words : a.word ≡ b.word = cc in
    a.value ∙ ap int_of words ∙ sym b.value

-- a history has one end
pub end_one : (m : Module) (budget : ℕ) (h : List Entry) (a b : End) → IsEnd m budget h a → IsEnd m budget h b → a ≡ b
end_one m budget h (End.Done v) (End.Done w) x y = ap End.Done (returns_one m h v w x y)
end_one m budget h (End.Done v) b x y = absurd (y.0 x.ended)
end_one m budget h a (End.Done w) x y = absurd (x.0 y.ended)
end_one m budget h a b x y = x.1 ∙ sym y.1

-- Runs.

-- a whole run is no shorter than another
no_shorter : (m : Module) (input : List ℤ) (budget : ℕ) (j k : Journal) → LeastRun m input budget j → LeastRun m input budget k → length (reverse j.entries) < length (reverse k.entries) → ⊥
no_shorter m input budget j k a b short =
    let more = least_longer (threads_of m) (FitsRun m input) (deterministic m) (fits_once m input) 1 (root_start m) (reverse k.entries) (reverse j.entries) short
    (history_grown m input (reverse j.entries) a.run.history) (history_grown m input (reverse k.entries) b.run.history) (by_least m (reverse j.entries) a.least) (by_least m (reverse k.entries) b.least) in
    let within : length (reverse k.entries) ≤ budget = omega (arith, length-reverse k.entries, b.run.within) in
    a.whole (ends_cut m budget (reverse j.entries) j.end more.1.fits.going more.1.fits.living (omega arith) a.run.end)

-- the history of a run along the least runnable names is one
history_one : (m : Module) (input : List ℤ) (budget : ℕ) (j k : Journal) → LeastRun m input budget j → LeastRun m input budget k → reverse j.entries ≡ reverse k.entries
history_one m input budget j k a b =
    let lengths = neither (length (reverse j.entries)) (length (reverse k.entries)) (no_shorter m input budget j k a b) (no_shorter m input budget k j b a) in
    least_one (threads_of m) (FitsRun m input) (deterministic m) (fits_once m input) 1 (root_start m) (reverse j.entries) (reverse k.entries) lengths
    (history_grown m input (reverse j.entries) a.run.history) (history_grown m input (reverse k.entries) b.run.history) (by_least m (reverse j.entries) a.least) (by_least m (reverse k.entries) b.least)

-- the run along the least runnable names is one
pub run_one : (m : Module) (input : List ℤ) (budget : ℕ) (j k : Journal) → LeastRun m input budget j → LeastRun m input budget k → j ≡ k
run_one m input budget j k a b =
    let histories = history_one m input budget j k a b in
    let entries : j.entries ≡ k.entries = sym (reverse-reverse j.entries) ∙ ap reverse histories ∙ reverse-reverse k.entries in
    let end = subst (λ h. IsEnd m budget h j.end) histories a.run.end in
    let ends = end_one m budget (reverse k.entries) j.end k.end end b.run.end in
    λ i. record { entries = entries i; end = ends i }
