-- What an entry of a run tells the life of its thread.
use Rattle.std.proofs.Common.{◌≡◌, ℕ, zero, suc, ◌+◌, ◌-◌, ◌*◌, ◌/◌, ◌≤◌, ◌⊎◌, inl, inr, Bool, true, false, List, [], ◌∷◌, length, refl, sym, ap, ◌∙◌, subst, arith, Option, Some, None}
use Rattle.std.specs.Prelude.{ℤ, IsTrue, slice_get, nat_le, nat_lt, nat_eq, if◌then◌else◌}
use Rattle.std.proofs.lemmas.Bool.{leb-true, eqb-true}
use Rattle.tac_ir.specs.declared.code.Code.{Code}
use Rattle.tac_ir.specs.declared.run.Op.{Op}
use Rattle.tac_ir.specs.declared.run.Answer.{Answer}
use Rattle.tac_ir.specs.declared.run.Stop.{Stop}
use Rattle.tac_ir.specs.declared.run.Entry.{Entry}
use Rattle.tac_ir.specs.Module.{Module}
use Rattle.tac_ir.specs.Path.{stops}
use Rattle.tac_ir.specs.Layout.{frame_words}
use Rattle.tac_ir.specs.Answers.{IsAnswer, call_answer, fork_answer, depth_of}
use Rattle.tac_thread.specs.declared.flat.FlatStack.{FlatStack}
use Rattle.tac_thread.specs.declared.want.ReplyOf.{ReplyOf}
use Rattle.tac_thread.specs.Answered.{IsReplyTo}
use Rattle.tac_thread.specs.Flat.{flat_meaning, with_frame, with_share}
use Rattle.path_law.specs.Asked.{Tells}
use Rattle.path_law.specs.Standing.{FlatLife}
use Rattle.path_law.specs.Wants.{room_in}
use Rattle.path_law.specs.Fits.{answer_by}
use Rattle.path_law.specs.Told.{IsTold}
use Rattle.path_law.specs.Alive.{AreShares}
use Rattle.path_law.proofs.Fitting.{calls_fit}
use Rattle.chain_law.specs.RunTree.{IsAsked}
use Rattle.path_law.specs.Replies.{reply_to, takes_no_stack}
use Rattle.path_law.proofs.Telling.{told_of, telling, wants_call, wants_fork}

pub le_true : (a b : ℕ) → a ≤ b → nat_le a b ≡ true
le_true a b h = grind (arith, nat_le)

-- What is told.

pub record IsToldBy (m : Module) (e : Entry) (life : FlatLife) : Type 0 where
  pub reply : ReplyOf ℕ FlatStack
  pub told : IsTold m.code life e reply
  pub no_fork : (k : ℕ) → e.op ≡ Op.Fork k → ⊥

abbrev pub takes_stack : Op → Type 0
takes_stack op = (takes_no_stack op ≡ true) ⊎ (((f : ℕ) × (op ≡ Op.Call f)) ⊎ ((n : ℕ) × (op ≡ Op.Fork n)))

pub kind_of : (op : Op) → takes_stack op
kind_of (Op.Call f) = inr (inl (f, refl))
kind_of (Op.Fork n) = inr (inr (n, refl))
kind_of op = inl refl

replies : (answer : Answer) → stops answer ≡ false → (reply : ReplyOf ℕ FlatStack) × (reply_to answer ≡ Some reply)
replies Answer.Unit goes = (ReplyOf.Unit, refl)
replies (Answer.Value v) goes = (ReplyOf.Value v, refl)
replies (Answer.Stop stop) goes = cc

pub plain_told : (m : Module) (input : List ℤ) (h : List Entry) (e : Entry) (l : FlatLife) → IsAsked m input h e.name.0 l e → stops e.answer ≡ false → takes_no_stack e.op ≡ true → IsToldBy m e l
plain_told m input h e l asked goes plain =
    let r = replies e.answer goes in
    let told = told_of m input h e.name.0 (room_in l.top.stack) e.op e.answer plain asked.answer goes in
    let t = telling m.code l.top.stack asked.want e.op e.answer r.0 asked.event told r.1 in
    record {
      reply = r.0;
      told = record { want = asked.want; wants = asked.wants; point = asked.point; event = asked.event; kind = t.kind; tells = t.tells };
      no_fork = λ k is. (let clash : false ≡ true = ap takes_no_stack (sym is) ∙ plain in cc);
    }

fitting : (o : Option FlatStack) (stop : Stop) (answer : Answer) → answer ≡ answer_by stop o → stops answer ≡ false → (s : FlatStack) × ((o ≡ Some s) × (answer ≡ Answer.Unit))
fitting None stop answer is goes = (let clash : true ≡ false = ap stops (sym is) ∙ goes in cc)
fitting (Some s) stop answer is goes = (s, (refl, is))

frame_fits : (c : Code) (f : ℕ) (s t : FlatStack) → with_frame (frame_words c f) s ≡ Some t → IsTrue (flat_meaning.has_frame c f t)
frame_fits c f s t = by (nat_lt (s.«end» - s.top) (frame_words c f))
  where
    by : (b : Bool) → (if b then None else Some (record { base = s.top; top = s.top + frame_words c f; «end» = s.«end» })) ≡ Some t → IsTrue (flat_meaning.has_frame c f t)
    by true is = cc
    by false is =
        let same : record { base = s.top; top = s.top + frame_words c f; «end» = s.«end» } ≡ t = cc in
        subst (λ (z : FlatStack). IsTrue (nat_le (z.base + frame_words c f) z.top)) same (le_true (s.top + frame_words c f) (s.top + frame_words c f) (omega arith))

pub call_told : (m : Module) (input : List ℤ) (h : List Entry) (e : Entry) (l : FlatLife) (g : ℕ) → IsAsked m input h e.name.0 l e → stops e.answer ≡ false → e.op ≡ Op.Call g → IsToldBy m e l
call_told m input h e l g asked goes op =
    let answer : e.answer ≡ call_answer m (room_in l.top.stack) g = subst (λ o. IsAnswer m input h e.name.0 (room_in l.top.stack) o e.answer) op asked.answer in
    let s = fitting (with_frame (frame_words m.code g) l.top.stack) Stop.Stack e.answer (answer ∙ calls_fit m g l.top.stack) goes in
    let want = wants_call asked.want g (asked.event ∙ ap Some op) in
    let tells : Tells m.code l.top.stack (Op.Call g) Answer.Unit (ReplyOf.Stack s.0) = s.1.0 in
    record {
      reply = ReplyOf.Stack s.0;
      told = record {
        want = asked.want;
        wants = asked.wants;
        point = asked.point;
        event = asked.event;
        kind = subst (λ w. IsReplyTo flat_meaning m.code w (ReplyOf.Stack s.0)) (sym want) (frame_fits m.code g l.top.stack s.0 s.1.0);
        tells = subst (λ o. Tells m.code l.top.stack o e.answer (ReplyOf.Stack s.0)) (sym op) (subst (λ a. Tells m.code l.top.stack (Op.Call g) a (ReplyOf.Stack s.0)) (sym s.1.1) tells);
      };
      no_fork = λ k is. (let clash : Op.Call g ≡ Op.Fork k = sym op ∙ is in cc);
    }

-- Shares.

some_share : (words : ℕ) (s : FlatStack) → (words ≡ 0 → ⊥) → (i : ℕ) → (t : FlatStack) × (with_share words s i ≡ Some t)
some_share words s some i = by (nat_eq words 0) refl
  where
    by : (b : Bool) → nat_eq words 0 ≡ b → (t : FlatStack) × ((if b then None else Some (record { base = s.base; top = s.top + (i - 1) * words; «end» = s.top + i * words })) ≡ Some t)
    by true is = absurd (some (eqb-true words 0 is))
    by false is = (record { base = s.base; top = s.top + (i - 1) * words; «end» = s.top + i * words }, refl)

shares_from : (words : ℕ) (s : FlatStack) → (words ≡ 0 → ⊥) → (i k : ℕ) → (stacks : List FlatStack) × ((length stacks ≡ k) × ((j : ℕ) (t : FlatStack) → slice_get stacks j ≡ Some t → with_share words s (suc (i + j)) ≡ Some t))
shares_from words s some i zero = ([], (refl, λ j t e. cc))
shares_from words s some i (suc k) =
    let first = some_share words s some (suc i) in
    let rest = shares_from words s some (suc i) k in
    (first.0 ∷ rest.0, (ap suc rest.1.0, each first.0 first.1 rest.0 rest.1.1))
  where
    each : (x : FlatStack) → with_share words s (suc i) ≡ Some x → (stacks : List FlatStack) → ((j : ℕ) (t : FlatStack) → slice_get stacks j ≡ Some t → with_share words s (suc (suc i + j)) ≡ Some t)
        → (j : ℕ) (t : FlatStack) → slice_get (x ∷ stacks) j ≡ Some t → with_share words s (suc (i + j)) ≡ Some t
    each x here stacks rest zero t e = (let same : x ≡ t = cc in let at : suc (i + 0) ≡ suc i = omega arith in ap (with_share words s) at ∙ here ∙ ap Some same)
    each x here stacks rest (suc j) t e = (let at : suc (i + suc j) ≡ suc (suc i + j) = omega arith in ap (with_share words s) at ∙ rest j t e)

pub record IsForkedBy (m : Module) (e : Entry) (l : FlatLife) : Type 0 where
  pub stacks : List FlatStack
  pub op : e.op ≡ Op.Fork (length stacks)
  pub shares : AreShares l.top.stack stacks
  pub told : IsTold m.code l e ReplyOf.Unit

shallow_room : (n room k : ℕ) (a b : Bool) → (answer : Answer) → answer ≡ (if a then Answer.Stop Stop.Depth else (if b then Answer.Stop Stop.Share else Answer.Unit)) → stops answer ≡ false → (b ≡ false) × (answer ≡ Answer.Unit)
shallow_room n room k true b answer is goes = (let clash : true ≡ false = ap stops (sym is) ∙ goes in cc)
shallow_room n room k false true answer is goes = (let clash : true ≡ false = ap stops (sym is) ∙ goes in cc)
shallow_room n room k false false answer is goes = (refl, is)

pub fork_told : (m : Module) (input : List ℤ) (h : List Entry) (e : Entry) (l : FlatLife) (k : ℕ) → IsAsked m input h e.name.0 l e → stops e.answer ≡ false → e.op ≡ Op.Fork k → IsForkedBy m e l
fork_told m input h e l k asked goes op =
    let answer : e.answer ≡ fork_answer e.name.0 (room_in l.top.stack) k = subst (λ o. IsAnswer m input h e.name.0 (room_in l.top.stack) o e.answer) op asked.answer in
    let some = shallow_room e.name.0 (room_in l.top.stack) k (nat_le 14 (depth_of e.name.0)) (nat_eq (room_in l.top.stack / k) 0) e.answer answer goes in
    let words : room_in l.top.stack / k ≡ 0 → ⊥ = λ z. (let clash : true ≡ false = sym (Rattle.std.proofs.lemmas.Bool.eq-eqb _ _ z) ∙ some.0 in cc) in
    let stacks = shares_from (room_in l.top.stack / k) l.top.stack words 0 k in
    let want = wants_fork asked.want k (asked.event ∙ ap Some op) in
    record {
      stacks = stacks.0;
      op = op ∙ ap Op.Fork (sym stacks.1.0);
      shares = λ i t e. ap (λ z. with_share (room_in l.top.stack / z) l.top.stack (suc i)) stacks.1.0 ∙ (let at : suc i ≡ suc (0 + i) = omega arith in ap (with_share (room_in l.top.stack / k) l.top.stack) at) ∙ stacks.1.1 i t e;
      told = record {
        want = asked.want;
        wants = asked.wants;
        point = asked.point;
        event = asked.event;
        kind = subst (λ w. IsReplyTo flat_meaning m.code w ReplyOf.Unit) (sym want) tt;
        tells = subst (λ o. Tells m.code l.top.stack o e.answer ReplyOf.Unit) (sym op) (subst (λ a. Tells m.code l.top.stack (Op.Fork k) a ReplyOf.Unit) (sym some.1) tt);
      };
    }
