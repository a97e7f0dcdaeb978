-- A link read that goes on finds the newest link, where it is checked and its set holds calls' definitions alone.
use Rattle.std.proofs.Common.{◌≡◌, ℕ, List, Bool, true, false, refl, Option, Some, None, sym, ◌∙◌, ap, subst}
use Rattle.std.specs.Prelude.{ℤ, ◌&&◌, not, nat_le, nat_eq, if◌then◌else◌}
use Rattle.tac_ir.specs.declared.code.Code.{Code}
use Rattle.tac_ir.specs.declared.code.Instr.{Instr}
use Rattle.tac_ir.specs.declared.run.Op.{Op}
use Rattle.tac_ir.specs.declared.run.Answer.{Answer}
use Rattle.tac_ir.specs.declared.run.Stop.{Stop}
use Rattle.tac_ir.specs.declared.run.Entry.{Entry}
use Rattle.tac_ir.specs.Module.{Module}
use Rattle.tac_ir.specs.GoodForm.{GoodForm}
use Rattle.tac_ir.specs.Layout.{memory_words}
use Rattle.tac_ir.specs.Last.{Written, last_write}
use Rattle.tac_ir.specs.Path.{stops}
use Rattle.tac_ir.specs.Answers.{has, set_of, class_of, is_checked, is_allowed, read_answer, IsAnswer}
use Rattle.tac_thread.specs.declared.flat.FlatStack.{FlatStack}
use Rattle.tac_thread.specs.declared.guest.Stage.{Stage}
use Rattle.tac_thread.specs.declared.want.ReplyOf.{ReplyOf}
use Rattle.tac_thread.specs.declared.want.Want.{Want}
use Rattle.tac_thread.specs.Life.{instr_of}
use Rattle.tac_thread.specs.Doing.{doing, asked, link_write, want_at, want_of}
use Rattle.tac_thread.specs.Answered.{IsReplyTo}
use Rattle.tac_thread.specs.Flat.{flat_meaning}
use Rattle.path_law.specs.Asked.{op_of, Tells}
use Rattle.path_law.specs.Standing.{FlatLife, point_of}
use Rattle.path_law.specs.Begins.{root_stack}
use Rattle.path_law.specs.Wants.{room_in}
use Rattle.path_law.specs.InPlace.{FlatLives}
use Rattle.tree_law.specs.Chain.{Saying, IsTreeAfter}
use Rattle.tree_law.specs.Chain.IsTreeAfter.{begins, feeds, forks, halts, sticks}
use Rattle.chain_law.specs.RunTree.{IsAnswered, IsRunTree}
use Rattle.link_law.specs.Linked.{ReadsCalls}
use Rattle.link_law.specs.tools.Links.{last_link, AreLinked, AllTell}
use Rattle.link_law.specs.tools.Reached.{ReadsHome}
use Rattle.link_law.proofs.links.Writes.{allowed_is_last, unlink}
use Rattle.link_law.proofs.links.Asked.{op_in}
use Rattle.link_law.proofs.links.Along.{AreLinksOf, links_along}
use Rattle.link_law.proofs.homes.Calls.{back_home}

both_of : (a b : Bool) → (a && b) ≡ true → b ≡ true
both_of true b is = is
both_of false b is = cc

read_goes : (m : Module) (last : Written) (past checked allowed : Bool) (answer : Answer)
    → answer ≡ (if past then Answer.Stop Stop.Address else (if (checked && not allowed) then Answer.Stop (Stop.Alarm (class_of m last.def)) else Answer.Value last.value))
    → checked ≡ true → stops answer ≡ false → (allowed ≡ true) × (answer ≡ Answer.Value last.value)
read_goes m last true checked allowed answer is on goes = (let clash : true ≡ false = ap stops (sym is) ∙ goes in cc)
read_goes m last false false allowed answer is on goes = cc
read_goes m last false true false answer is on goes = (let clash : true ≡ false = ap stops (sym is) ∙ goes in cc)
read_goes m last false true true answer is on goes = (refl, is)

-- whoever reads a link reads that of its frame
pub read_base : (c : Code) (l : FlatLife) (w : Want ℕ) (x r k at : ℕ) → want_of flat_meaning c l ≡ Some w → op_of w ≡ Some (Op.Read (record { 0 = k }) at) → instr_of c l.top ≡ Instr.Ret x (Some r) → at ≡ l.top.stack.base
read_base c l w x r k at wants event ret = by l.stage wants
  where
    by : (s : Stage ℕ FlatStack) → want_at flat_meaning c l.top s ≡ Some w → at ≡ l.top.stack.base
    by Stage.Ready z =
        let want : Some (Want.Pop (record { 0 = r }) l.top.stack.base) ≡ Some w = ap (λ i. asked (doing flat_meaning c l.top i)) (sym ret) ∙ z in
        let one : Want.Pop (record { 0 = r }) l.top.stack.base ≡ w = cc in
        let ops : Some (Op.Read (record { 0 = r }) l.top.stack.base) ≡ Some (Op.Read (record { 0 = k }) at) = ap op_of one ∙ event in
        cc
    by (Stage.Entering callee) z = (let none : None ≡ Some w = ap (λ i. link_write i (flat_meaning.link callee.stack)) (sym ret) ∙ z in cc)
    by (Stage.Leaving link) z = (let one : Want.Ret ≡ w = cc in let ops : Some Op.Ret ≡ Some (Op.Read (record { 0 = k }) at) = ap op_of one ∙ event in cc)
    by Stage.Waiting z = (let one : Want.Waits ≡ w = cc in let ops : None ≡ Some (Op.Read (record { 0 = k }) at) = ap op_of one ∙ event in cc)

-- a value that a thread at a return is told is that of its link
link_op : (c : Code) (l : FlatLife) (w : Want ℕ) (op : Op) (x r v : ℕ) → want_of flat_meaning c l ≡ Some w → op_of w ≡ Some op → instr_of c l.top ≡ Instr.Ret x (Some r) → IsReplyTo flat_meaning c w (ReplyOf.Value v)
    → op ≡ Op.Read (record { 0 = r }) l.top.stack.base
link_op c l w op x r v wants event ret kind = by l.stage wants
  where
    by : (s : Stage ℕ FlatStack) → want_at flat_meaning c l.top s ≡ Some w → op ≡ Op.Read (record { 0 = r }) l.top.stack.base
    by Stage.Ready z =
        let want : Some (Want.Pop (record { 0 = r }) l.top.stack.base) ≡ Some w = ap (λ i. asked (doing flat_meaning c l.top i)) (sym ret) ∙ z in
        let one : Want.Pop (record { 0 = r }) l.top.stack.base ≡ w = cc in
        let ops : Some (Op.Read (record { 0 = r }) l.top.stack.base) ≡ Some op = ap op_of one ∙ event in
        let same : Op.Read (record { 0 = r }) l.top.stack.base ≡ op = cc in
        sym same
    by (Stage.Entering callee) z = (let none : None ≡ Some w = ap (λ i. link_write i (flat_meaning.link callee.stack)) (sym ret) ∙ z in cc)
    by (Stage.Leaving link) z = (let one : Want.Ret ≡ w = cc in absurd (subst (λ q. IsReplyTo flat_meaning c q (ReplyOf.Value v)) (sym one) kind))
    by Stage.Waiting z = (let one : Want.Waits ≡ w = cc in absurd (subst (λ q. IsReplyTo flat_meaning c q (ReplyOf.Value v)) (sym one) kind))

-- such a read is answered the newest link
pub found_last : (m : Module) (input : List ℤ) → GoodForm m.code → ReadsCalls m → (h : List Entry) → AllTell m.code h → (n : ℕ) (l : FlatLife) (op : Op) (answer : Answer) (x r : ℕ) → instr_of m.code l.top ≡ Instr.Ret x (Some r)
    → op ≡ Op.Read (record { 0 = r }) l.top.stack.base → IsAnswer m input h n (room_in l.top.stack) op answer → stops answer ≡ false → answer ≡ Answer.Value (last_link m.code h l.top.stack.base)
found_last m input good reads h tell n l op answer x r ret is told goes =
    let base = l.top.stack.base in
    let last = last_write m.code h base in
    let read : answer ≡ read_answer m h r base = subst (λ o. IsAnswer m input h n (room_in l.top.stack) o answer) is told in
    let got = read_goes m last (nat_le (memory_words m.size) base) (is_checked m r) (is_allowed m r last) answer read (reads.checked (point_of l.top) x r ret) goes in
    let in_set : has (set_of m r) last.def ≡ true = both_of (not (nat_eq last.def 0)) (has (set_of m r) last.def) got.0 in
    let newest = allowed_is_last m.code good h base tell (reads.calls (point_of l.top) x r last.def ret in_set) in
    got.1 ∙ ap Answer.Value newest.1

-- so a link that is read goes home
reads_home : (m : Module) (input : List ℤ) → GoodForm m.code → ReadsCalls m → (h : List Entry) (f : FlatLives) → AreLinksOf m.code h f → (n : ℕ) (l : FlatLife) → f n ≡ Some l → (e : Entry) (reply : ReplyOf ℕ FlatStack)
    → IsAnswered m input h n l e reply → ReadsHome flat_meaning m.code l reply
reads_home m input good reads h f links n l lives e reply a v y callers x None ready ret told below =
    let want : op_in (want_of flat_meaning m.code l) ≡ None = ap (λ s. op_in (want_at flat_meaning m.code l.top s)) ready ∙ ap (λ i. op_in (asked (doing flat_meaning m.code l.top i))) ret in
    let some : op_in (want_of flat_meaning m.code l) ≡ Some e.op = ap op_in a.asked.wants ∙ a.asked.event in
    let clash : None ≡ Some e.op = sym want ∙ some in
    cc
reads_home m input good reads h f links n l lives e reply a v y callers x (Some r) ready ret told below =
    let base = l.top.stack.base in
    let op = link_op m.code l a.told.want e.op x r v a.told.wants a.told.event ret (subst (IsReplyTo flat_meaning m.code a.told.want) told a.told.kind) in
    let answer = found_last m input good reads h links.tell n l e.op e.answer x r ret op a.asked.answer a.goes in
    let value : v ≡ last_link m.code h base =
    subst (λ z. Tells m.code l.top.stack (Op.Read (record { 0 = r }) base) z (ReplyOf.Value v)) answer
    (subst (λ o. Tells m.code l.top.stack o e.answer (ReplyOf.Value v)) op (subst (Tells m.code l.top.stack e.op e.answer) told a.told.tells)) in
    let own = (unlink m.code h l.top y callers (subst (AreLinked m.code h l.top) below (links.linked n l lives))).0 in
    back_home m.code good y v (own ∙ ap Some (sym value))

-- The chain whose entries say so too.

abbrev pub says_home : Module → List ℤ → Saying ℕ FlatStack Entry
says_home m input = record {
  Tells = λ h n l e reply. ReadsHome flat_meaning m.code l reply;
  Shares = λ l stacks. Unit {0};
  Halts = λ h n l e. Unit {0};
  Sticks = λ h n l e. ⊥;
}

pub homes_along : (m : Module) (input : List ℤ) → GoodForm m.code → ReadsCalls m → (h : List Entry) (f : FlatLives) (d : Option ℕ) → IsRunTree m input h f d → IsTreeAfter flat_meaning m.code (root_stack m) (says_home m input) h f d
homes_along m input good reads h f d (begins f2 d2 tree b) = begins f d tree b
homes_along m input good reads h g b (feeds old e n reply f g2 d b2 chain tree fed awake moved told) =
    feeds old e n reply f g d b (homes_along m input good reads old f d chain) tree fed awake moved (reads_home m input good reads old f (links_along m input good old f d chain) n fed.life fed.lived e reply told)
homes_along m input good reads h g b (forks old e n stacks f g2 d b2 chain tree forked awake told shares some join entries is count few) =
    forks old e n stacks f g d b (homes_along m input good reads old f d chain) tree forked awake
    (reads_home m input good reads old f (links_along m input good old f d chain) n forked.life forked.lived e ReplyOf.Unit told) tt some join entries is count few
homes_along m input good reads h f d (halts old e n l f2 d2 chain lives awake stopped) = halts old e n l f d (homes_along m input good reads old f d chain) lives awake tt
homes_along m input good reads h g b (sticks old e n f g2 d b2 chain tree stuck awake stays) = absurd stays
