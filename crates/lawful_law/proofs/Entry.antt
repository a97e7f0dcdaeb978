-- A thread's own entry keeps what it knows.
use Rattle.std.proofs.Common.{◌≡◌, ℕ, zero, suc, ◌+◌, ◌-◌, ◌≤◌, ◌<◌, ◌⊎◌, inl, inr, Bool, true, false, List, [], ◌∷◌, ◌++◌, length, reverse, refl, sym, ap, ◌∙◌, subst, arith, Option, Some, None, ⊎_elim, not}
use Rattle.std.specs.Prelude.{ℤ, ◌&&◌, nat_eq, nat_le, slice_get, if◌then◌else◌}
use Rattle.std.proofs.lemmas.Bool.{eq-eqb, leb-true, cases_eq}
use Rattle.dfi_base.specs.declared.numbers.DefNo.{DefNo}
use Rattle.dfi_base.specs.declared.numbers.Point.{Point}
use Rattle.tac_ir.specs.declared.code.Code.{Code}
use Rattle.tac_ir.specs.declared.code.Instr.{Instr}
use Rattle.tac_ir.specs.declared.code.Place.{Place}
use Rattle.tac_ir.specs.declared.run.Op.{Op}
use Rattle.tac_ir.specs.declared.run.Answer.{Answer}
use Rattle.tac_ir.specs.declared.run.Stop.{Stop}
use Rattle.tac_ir.specs.declared.run.Entry.{Entry}
use Rattle.tac_ir.specs.declared.run.Journal.{Journal}
use Rattle.tac_ir.specs.Module.{Module}
use Rattle.tac_ir.specs.Words.{int_of}
use Rattle.tac_ir.specs.Edges.{calls_fun}
use Rattle.tac_ir.specs.Numbers.{new_def}
use Rattle.tac_ir.specs.GoodForm.{GoodForm, all_targets_of}
use Rattle.tac_ir.specs.Layout.{lines_of, instr_at, place_word, memory_words}
use Rattle.tac_ir.specs.Last.{Written, last_write, write_to}
use Rattle.tac_ir.specs.Lawful.{IsLawfulRead, IsNoAlarm, EndsWithoutAlarm, IsLawful, Lawful}
use Rattle.tac_ir.specs.Path.{stops, calls_in}
use Rattle.tac_ir.specs.Answers.{class_of, is_checked, is_allowed, read_answer, write_answer, IsAnswer}
use Rattle.tac_ir.specs.CoreRun.{GoesOn, Follows, IsHistory, CoreRun}
use Rattle.tac_ir.proofs.Checked.{read_lawful}
use Rattle.tac_ir.proofs.Numbering.{has_line, within_funs}
use Rattle.tac_thread.specs.declared.flat.FlatStack.{FlatStack}
use Rattle.tac_thread.specs.declared.guest.Stage.{Stage}
use Rattle.tac_thread.specs.declared.doing.Doing.{Doing}
use Rattle.tac_thread.specs.declared.want.ReplyOf.{ReplyOf}
use Rattle.tac_thread.specs.declared.want.Want.{Want}
use Rattle.tac_thread.specs.Meaning.{divides_by_zero}
use Rattle.tac_thread.specs.tools.Fetched.{instr_in}
use Rattle.tac_thread.specs.Life.{instr_of, temp}
use Rattle.tac_thread.specs.Doing.{doing, asked, given, tested, link_write, want_at, want_of}
use Rattle.tac_thread.specs.RunsOn.{RunsOn}
use Rattle.tac_thread.specs.Begun.{root_of, branch_of, entry_of}
use Rattle.tac_thread.specs.Answered.{answered, answered_first, answered_at, returned, returns, behind_call, back_at, IsReplyTo}
use Rattle.tac_thread.specs.Flat.{flat_meaning}
use Rattle.tac_thread.specs.Threads.{changed, is_waiting, nobody, at_fork, HasParent}
use Rattle.tac_thread.proofs.Trees.{running_is, changed_here, changed_other}
use Rattle.path_law.specs.Asked.{op_of}
use Rattle.path_law.specs.Standing.{FlatLife, FlatActivation, IsCall, AreCallers, StandsIn, point_of}
use Rattle.path_law.specs.Begins.{root_stack}
use Rattle.path_law.specs.Wants.{room_in}
use Rattle.path_law.specs.InPlace.{FlatLives}
use Rattle.path_law.specs.Alive.{AreAlive}
use Rattle.path_law.proofs.Returns.{back_is_call}
use Rattle.lawful_law.specs.Covered.{IsNamed, AreCovered}
use Rattle.lawful_law.specs.tools.Knows.{Knows, LifeKnows, Keeps, Does}
use Rattle.lawful_law.proofs.Knowing.{at_first, behind_call as behind_calls, own_entry, allowed_kept}
use Rattle.lawful_law.proofs.Silent.{Stuck, stuck_knows}
use Rattle.chain_law.specs.RunTree.{IsAsked}

-- One's own entry.

no_write : (op : Op) (answer : Answer) → ((d : DefNo) (w v : ℕ) → op ≡ Op.Write d w v → ⊥) → (w : ℕ) → write_to w op answer ≡ None
no_write (Op.Write d at v) answer none w = absurd (none d at v refl)
no_write op answer none w = refl

write_goes : (past : Bool) (answer : Answer) → answer ≡ (if past then Answer.Stop Stop.Address else Answer.Unit) → stops answer ≡ false → answer ≡ Answer.Unit
write_goes true answer is goes = (let clash : true ≡ false = ap stops (sym is) ∙ goes in cc)
write_goes false answer is goes = is

-- definitions are numbered from 1
def_some : (c : Code) → GoodForm c → (p : Point) (d : ℕ) → new_def (instr_at c p) ≡ Some d → 1 ≤ d
def_some c good p d makes =
    let h = has_line new_def c p d refl makes in
    let low = within_funs new_def (length c.globals + 1) c.funs p.fun h.fun p.at h.line d good.numbers.defs h.function h.found h.named in
    omega (arith, low)

-- a read that goes on, checked or not, is allowed where it is known to be
read_allowed : (m : Module) (last : Written) (past checked allowed : Bool) (answer : Answer)
    → answer ≡ (if past then Answer.Stop Stop.Address else (if (checked && not allowed) then Answer.Stop (Stop.Alarm (class_of m last.def)) else Answer.Value last.value))
    → (checked ≡ false → allowed ≡ true) → stops answer ≡ false → allowed ≡ true
read_allowed m last past checked true answer is known goes = refl
read_allowed m last true checked false answer is known goes = (let clash : true ≡ false = ap stops (sym is) ∙ goes in cc)
read_allowed m last false false false answer is known goes = known refl
read_allowed m last false true false answer is known goes = (let clash : true ≡ false = ap stops (sym is) ∙ goes in cc)

pub record OwnEntry (m : Module) (input : List ℤ) (h : List Entry) (n : ℕ) (l : FlatLife) (e : Entry) : Type 0 where
  pub good : GoodForm m.code
  pub covered : AreCovered m
  pub answer : IsAnswer m input h n (room_in l.top.stack) e.op e.answer
  pub goes : stops e.answer ≡ false
  pub at_calls : (y : FlatActivation) (callers : List FlatActivation) → l.callers ≡ y ∷ callers → IsCall (instr_of m.code y)
  pub entering : (callee : FlatActivation) → l.stage ≡ Stage.Entering callee → callee.at ≡ 0

module _ (m : Module) (input : List ℤ) (h : List Entry) (n : ℕ) (l : FlatLife) (e : Entry) (own : OwnEntry m input h n l e) (knows : LifeKnows m h l) where
  stuck_here : (i : Instr) → instr_of m.code l.top ≡ i → Stuck i → LifeKnows m (e ∷ h) l
  stuck_here i is stuck = stuck_knows m (e ∷ h) l.top.fun l.top.stack.base l.top.at (subst Stuck (sym is) stuck)

  forward : (i : Instr) → instr_of m.code l.top ≡ i → Does m h l.top.fun l.top.stack.base e i → Knows m (e ∷ h) l.top.fun l.top.stack.base (l.top.at + 1)
  forward i is does = own_entry m h l.top.fun l.top.stack.base l.top.at e i is does knows

  back : (link : Option ℕ) (x : ℕ) (r : Option ℕ) → instr_of m.code l.top ≡ Instr.Ret x r → (callers : List FlatActivation) → l.callers ≡ callers → (v : ℕ) → LifeKnows m (e ∷ h) (returned flat_meaning m.code l callers link v)
  back link x r is [] none v = stuck_here (Instr.Ret x r) is tt
  back link x r is (y ∷ callers) below v =
      let at = back_at flat_meaning m.code link y in
      let call : IsCall (instr_in (lines_of m.code y.fun) at) = at_call link in
      behind (instr_in (lines_of m.code y.fun) at) refl call
    where
      at_call : (o : Option ℕ) → IsCall (instr_in (lines_of m.code y.fun) (back_at flat_meaning m.code o y))
      at_call None = own.at_calls y callers below
      at_call (Some k) = back_is_call m.code own.good y k (own.at_calls y callers below)

      behind : (i : Instr) → instr_in (lines_of m.code y.fun) (back_at flat_meaning m.code link y) ≡ i → IsCall i
          → Knows m (e ∷ h) (behind_call y (back_at flat_meaning m.code link y) v i).fun (behind_call y (back_at flat_meaning m.code link y) v i).stack.base (behind_call y (back_at flat_meaning m.code link y) v i).at
      behind (Instr.Call to f def args) is call = behind_calls m (e ∷ h) y.fun y.stack.base (back_at flat_meaning m.code link y) f (subst (λ z. calls_fun f z ≡ true) (sym is) (eq-eqb f f refl))
      behind i is call = absurd call

  quiet_same : ((w : ℕ) → write_to w e.op e.answer ≡ None) → LifeKnows m (e ∷ h) l
  quiet_same quiet b at r place el low high = allowed_kept m h e r (place_word m.code l.top.fun l.top.stack.base place) (quiet (place_word m.code l.top.fun l.top.stack.base place)) (knows b at r place el low high)

  returns_know : (link : Option ℕ) (i : Instr) → instr_of m.code l.top ≡ i → ((w : ℕ) → write_to w e.op e.answer ≡ None) → LifeKnows m (e ∷ h) (returns flat_meaning m.code l link i)
  returns_know link (Instr.Ret x r) is quiet = back link x r is l.callers refl (temp flat_meaning l.top x)
  returns_know link i is quiet = quiet_same quiet

  quiet_of : (op : Op) → Some op ≡ Some e.op → ((d : DefNo) (w v : ℕ) → op ≡ Op.Write d w v → ⊥) → (w : ℕ) → write_to w e.op e.answer ≡ None
  quiet_of op is none = (let same : op ≡ e.op = cc in no_write e.op e.answer (λ d w v z. none d w v (same ∙ z)))

  abbrev Steps : Instr → ReplyOf ℕ FlatStack → Type 0
  Steps i reply = LifeKnows m (e ∷ h) (answered_first flat_meaning m.code l i reply)

  -- the op that an instruction asks
  op_at : (i : Instr) (want w : Want ℕ) (op : Op) → asked (doing flat_meaning m.code l.top i) ≡ Some want → op_of want ≡ Some e.op → asked (doing flat_meaning m.code l.top i) ≡ Some w → op_of w ≡ Some op → Some op ≡ Some e.op
  op_at i want w op wants event is op_is = (let both : Some w ≡ Some want = sym is ∙ wants in let one : w ≡ want = cc in sym op_is ∙ ap op_of one ∙ event)

  kind_at : (i : Instr) (want w : Want ℕ) (reply : ReplyOf ℕ FlatStack) → asked (doing flat_meaning m.code l.top i) ≡ Some want → asked (doing flat_meaning m.code l.top i) ≡ Some w → IsReplyTo flat_meaning m.code want reply → IsReplyTo flat_meaning m.code w reply
  kind_at i want w reply wants is kind = (let both : Some w ≡ Some want = sym is ∙ wants in let one : w ≡ want = cc in subst (λ z. IsReplyTo flat_meaning m.code z reply) (sym one) kind)

  allowed_here : (to r : ℕ) (place : Place) → instr_of m.code l.top ≡ Instr.Get to place r → Some (Op.Read (record { 0 = r }) (place_word m.code l.top.fun l.top.stack.base place)) ≡ Some e.op
      → is_allowed m r (last_write m.code h (place_word m.code l.top.fun l.top.stack.base place)) ≡ true
  allowed_here to r place is op =
      let w = place_word m.code l.top.fun l.top.stack.base place in
      let last = last_write m.code h w in
      let same : Op.Read (record { 0 = r }) w ≡ e.op = cc in
      let answer : e.answer ≡ read_answer m h r w = subst (λ o. IsAnswer m input h n (room_in l.top.stack) o e.answer) (sym same) own.answer in
      read_allowed m last (nat_le (memory_words m.size) w) (is_checked m r) (is_allowed m r last) e.answer answer
      (λ off. (let c = own.covered.gets (point_of l.top) to r place is off in knows c.0 l.top.at r place c.2 c.1 (omega arith))) own.goes

  first : (i : Instr) (want : Want ℕ) (reply : ReplyOf ℕ FlatStack) → instr_of m.code l.top ≡ i → asked (doing flat_meaning m.code l.top i) ≡ Some want → op_of want ≡ Some e.op → IsReplyTo flat_meaning m.code want reply → Steps i reply
  first (Instr.Get to place r) want (ReplyOf.Value v) is wants event kind =
      let w = place_word m.code l.top.fun l.top.stack.base place in
      let op = op_at (Instr.Get to place r) want (Want.Read (record { 0 = r }) w) (Op.Read (record { 0 = r }) w) wants event refl refl in
      forward (Instr.Get to place r) is (quiet_of (Op.Read (record { 0 = r }) w) op (λ d a x z. cc), allowed_here to r place is op)
  first (Instr.Load to a r) want (ReplyOf.Value v) is wants event kind =
      forward (Instr.Load to a r) is (quiet_of _ (op_at (Instr.Load to a r) want (Want.Read (record { 0 = r }) (temp flat_meaning l.top a)) (Op.Read (record { 0 = r }) (temp flat_meaning l.top a)) wants event refl refl) (λ d w x z. cc))
  first (Instr.Same to ne a b) want (ReplyOf.Value v) is wants event kind =
      forward (Instr.Same to ne a b) is (quiet_of _ (op_at (Instr.Same to ne a b) want (Want.Same (temp flat_meaning l.top a) (temp flat_meaning l.top b) ne) (Op.Same (temp flat_meaning l.top a) (temp flat_meaning l.top b) ne) wants event refl refl) (λ d w x z. cc))
  first (Instr.New to a site) want (ReplyOf.Value v) is wants event kind =
      forward (Instr.New to a site) is (quiet_of _ (op_at (Instr.New to a site) want (Want.New site (temp flat_meaning l.top a)) (Op.New site (int_of (temp flat_meaning l.top a))) wants event refl refl) (λ d w x z. cc))
  first (Instr.In to) want (ReplyOf.Value v) is wants event kind =
      forward (Instr.In to) is (quiet_of Op.In (op_at (Instr.In to) want Want.In Op.In wants event refl refl) (λ d w x z. cc))
  first (Instr.Left to) want (ReplyOf.Value v) is wants event kind =
      forward (Instr.Left to) is (quiet_of Op.Left (op_at (Instr.Left to) want Want.Left Op.Left wants event refl refl) (λ d w x z. cc))
  first (Instr.Set place x d) want ReplyOf.Unit is wants event kind =
      let w = place_word m.code l.top.fun l.top.stack.base place in
      let op = op_at (Instr.Set place x d) want (Want.Write (record { 0 = d }) w (temp flat_meaning l.top x)) (Op.Write (record { 0 = d }) w (temp flat_meaning l.top x)) wants event refl refl in
      let same : Op.Write (record { 0 = d }) w (temp flat_meaning l.top x) ≡ e.op = cc in
      let answer = write_goes (nat_le (memory_words m.size) w) e.answer (subst (λ o. IsAnswer m input h n (room_in l.top.stack) o e.answer) (sym same) own.answer) own.goes in
      let some = def_some m.code own.good (point_of l.top) d (ap new_def is) in
      forward (Instr.Set place x d) is (temp flat_meaning l.top x, sym same, answer, some)
  first (Instr.Store x y d) want ReplyOf.Unit is wants event kind = forward (Instr.Store x y d) is tt
  first (Instr.Free x) want ReplyOf.Unit is wants event kind = forward (Instr.Free x) is tt
  first (Instr.Out x) want ReplyOf.Unit is wants event kind =
      forward (Instr.Out x) is (quiet_of _ (op_at (Instr.Out x) want (Want.Out (temp flat_meaning l.top x)) (Op.Out (int_of (temp flat_meaning l.top x))) wants event refl refl) (λ d w v z. cc))
  first Instr.Turn want ReplyOf.Unit is wants event kind = forward Instr.Turn is (quiet_of Op.Turn (op_at Instr.Turn want Want.Turn Op.Turn wants event refl refl) (λ d w v z. cc))
  first (Instr.Fork join entries) want ReplyOf.Unit is wants event kind = stuck_here (Instr.Fork join entries) is tt
  first (Instr.Call to f d args) want (ReplyOf.Stack s) is wants event kind = stuck_here (Instr.Call to f d args) is tt
  first (Instr.Ret x (Some r)) want (ReplyOf.Value v) is wants event kind = stuck_here (Instr.Ret x (Some r)) is tt
  first (Instr.Ret x None) want reply is wants event kind = absurd (let both : Want.Ended (Some (temp flat_meaning l.top x)) ≡ want = cc in let none : None ≡ Some e.op = ap op_of both ∙ event in cc)
  first Instr.End want reply is wants event kind = absurd (let both : Want.Ended None ≡ want = cc in let none : None ≡ Some e.op = ap op_of both ∙ event in cc)
  first (Instr.Bin to o x y) want reply is wants event kind = by (divides_by_zero flat_meaning o (temp flat_meaning l.top y)) wants
    where
      by : (b : Bool) → asked (elim b [ true ↦ Doing.Asks Want.Zero | false ↦ given to (flat_meaning.bin o (temp flat_meaning l.top x) (temp flat_meaning l.top y)) ]) ≡ Some want → Steps (Instr.Bin to o x y) reply
      by true z = (let one : Want.Zero ≡ want = cc in absurd (subst (λ q. IsReplyTo flat_meaning m.code q reply) (sym one) kind))
      by false z = cc
  first (Instr.Test x a b) want reply is wants event kind = by (not (nat_eq (temp flat_meaning l.top x) 0)) wants
    where
      by : (o : Bool) → asked (tested {V = ℕ} a b (Some o)) ≡ Some want → Steps (Instr.Test x a b) reply
      by true z = cc
      by false z = cc
  first (Instr.Const to k) want reply is wants event kind = cc
  first (Instr.Null to) want reply is wants event kind = cc
  first (Instr.Un to o x) want reply is wants event kind = cc
  first (Instr.Addr to place) want reply is wants event kind = cc
  first (Instr.Field to x shape k) want reply is wants event kind = cc
  first (Instr.Decay to x shape) want reply is wants event kind = cc
  first (Instr.Index to x y words) want reply is wants event kind = cc
  first (Instr.Jump t) want reply is wants event kind = cc
  first (Instr.Get to place r) want reply is wants event kind = absurd (kind_at (Instr.Get to place r) want (Want.Read (record { 0 = r }) (place_word m.code l.top.fun l.top.stack.base place)) reply wants refl kind)
  first (Instr.Load to a r) want reply is wants event kind = absurd (kind_at (Instr.Load to a r) want (Want.Read (record { 0 = r }) (temp flat_meaning l.top a)) reply wants refl kind)
  first (Instr.Same to ne a b) want reply is wants event kind = absurd (kind_at (Instr.Same to ne a b) want (Want.Same (temp flat_meaning l.top a) (temp flat_meaning l.top b) ne) reply wants refl kind)
  first (Instr.New to a site) want reply is wants event kind = absurd (kind_at (Instr.New to a site) want (Want.New site (temp flat_meaning l.top a)) reply wants refl kind)
  first (Instr.In to) want reply is wants event kind = absurd (kind_at (Instr.In to) want Want.In reply wants refl kind)
  first (Instr.Left to) want reply is wants event kind = absurd (kind_at (Instr.Left to) want Want.Left reply wants refl kind)
  first (Instr.Set place x d) want reply is wants event kind = absurd (kind_at (Instr.Set place x d) want (Want.Write (record { 0 = d }) (place_word m.code l.top.fun l.top.stack.base place) (temp flat_meaning l.top x)) reply wants refl kind)
  first (Instr.Store x y d) want reply is wants event kind = absurd (kind_at (Instr.Store x y d) want (Want.Write (record { 0 = d }) (temp flat_meaning l.top x) (temp flat_meaning l.top y)) reply wants refl kind)
  first (Instr.Free x) want reply is wants event kind = absurd (kind_at (Instr.Free x) want (Want.Free (temp flat_meaning l.top x)) reply wants refl kind)
  first (Instr.Out x) want reply is wants event kind = absurd (kind_at (Instr.Out x) want (Want.Out (temp flat_meaning l.top x)) reply wants refl kind)
  first Instr.Turn want reply is wants event kind = absurd (kind_at Instr.Turn want Want.Turn reply wants refl kind)
  first (Instr.Fork join entries) want reply is wants event kind = absurd (kind_at (Instr.Fork join entries) want (Want.Fork (length entries)) reply wants refl kind)
  first (Instr.Call to f d args) want reply is wants event kind = absurd (kind_at (Instr.Call to f d args) want (Want.Call f) reply wants refl kind)
  first (Instr.Ret x (Some r)) want reply is wants event kind = absurd (kind_at (Instr.Ret x (Some r)) want (Want.Pop (record { 0 = r }) l.top.stack.base) reply wants refl kind)

  pub own_knows : (want : Want ℕ) (reply : ReplyOf ℕ FlatStack) → want_of flat_meaning m.code l ≡ Some want → op_of want ≡ Some e.op → IsReplyTo flat_meaning m.code want reply → LifeKnows m (e ∷ h) (answered flat_meaning m.code l reply)
  own_knows want reply wants event kind = by l.stage refl wants
    where
      by : (s : Stage ℕ FlatStack) → l.stage ≡ s → want_at flat_meaning m.code l.top s ≡ Some want → LifeKnows m (e ∷ h) (answered_at flat_meaning m.code l s reply)
      by Stage.Ready is z = first (instr_of m.code l.top) want reply refl z event kind
      by (Stage.Entering callee) is z = subst (Knows m (e ∷ h) callee.fun callee.stack.base) (sym (own.entering callee is)) (at_first m (e ∷ h) callee.fun callee.stack.base)
      by (Stage.Leaving link) is z = returns_know (Some link) (instr_of m.code l.top) refl (quiet_of Op.Ret (let one : Want.Ret ≡ want = cc in ap op_of one ∙ event) (λ d w v q. cc))
      by Stage.Waiting is z = (let one : Want.Waits ≡ want = cc in let none : None ≡ Some e.op = ap op_of one ∙ event in cc)

-- a life of a run
pub own_of : (m : Module) (input : List ℤ) → GoodForm m.code → AreCovered m → (h : List Entry) (n : ℕ) (l : FlatLife) (e : Entry) → IsAsked m input h n l e → stops e.answer ≡ false → OwnEntry m input h n l e
unfolding AreCallers
own_of m input good covered h n l e asked goes = record {
  good = good;
  covered = covered;
  answer = asked.answer;
  goes = goes;
  at_calls = λ y callers below. called l.stage asked.place.stands.stands.spot y callers below;
  entering = λ callee is. entering l.stage asked.place.stands.stands.spot callee is;
}
  where
    below_call : (a : ℕ) (all : List FlatActivation) → AreCallers m.code asked.place.start asked.place.stands.steps a all → (y : FlatActivation) (callers : List FlatActivation) → all ≡ y ∷ callers → IsCall (instr_of m.code y)
    below_call a [] below y callers is = cc
    below_call a (z ∷ rest) below y callers is = (let same : z ≡ y = cc in subst (λ q. IsCall (instr_of m.code q)) same below.3)

    called : (s : Stage ℕ FlatStack) → StandsIn m.code asked.place.start asked.place.stands.steps l s → (y : FlatActivation) (callers : List FlatActivation) → l.callers ≡ y ∷ callers → IsCall (instr_of m.code y)
    called Stage.Ready b y callers is = below_call b.act l.callers b.stack.below y callers is
    called (Stage.Entering callee) b y callers is = own_call b.act b.stack.below
      where
        own_call : (a : ℕ) → AreCallers m.code asked.place.start asked.place.stands.steps (calls_in m.code asked.place.stands.steps) (l.top ∷ l.callers) → IsCall (instr_of m.code y)
        own_call a below = below_call below.0 l.callers below.5 y callers is
    called (Stage.Leaving link) b y callers is = below_call b.act l.callers b.stack.below y callers is
    called Stage.Waiting b y callers is = below_call b.before.act l.callers b.before.stack.below y callers is

    entering : (s : Stage ℕ FlatStack) → StandsIn m.code asked.place.start asked.place.stands.steps l s → (callee : FlatActivation) → s ≡ Stage.Entering callee → callee.at ≡ 0
    entering (Stage.Entering k) b callee is = (let same : k ≡ callee = cc in ap (λ (z : FlatActivation). z.at) (sym same) ∙ b.entry)
    entering Stage.Ready b callee is = cc
    entering (Stage.Leaving link) b callee is = cc
    entering Stage.Waiting b callee is = cc
