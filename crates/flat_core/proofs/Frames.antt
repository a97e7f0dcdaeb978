-- Calls: the frame of the callee.
use Rattle.std.proofs.Common.{◌≡◌, ℕ, ◌+◌, ◌-◌, ◌<◌, ◌≤◌, List, [], length, get_or, Bool, true, false, refl, Option, Some, None, arith, sym, ◌∙◌, ap, subst}
use Rattle.std.specs.Prelude.{ℤ, slice_get, nat_le, nat_lt, if◌then◌else◌}
use Rattle.std.proofs.lemmas.Option.{slice_get-get_or}
use Rattle.tac_ir.specs.declared.code.Code.{Code}
use Rattle.tac_ir.specs.declared.code.Fun.{Fun}
use Rattle.tac_ir.specs.declared.code.Lined.{Lined}
use Rattle.tac_ir.specs.declared.code.Instr.{Instr}
use Rattle.tac_ir.specs.declared.module.Size.{Size}
use Rattle.tac_ir.specs.declared.run.Op.{Op}
use Rattle.tac_ir.specs.declared.run.Stop.{Stop}
use Rattle.tac_ir.specs.declared.run.Answer.{Answer}
use Rattle.tac_ir.specs.declared.run.Entry.{Entry}
use Rattle.tac_ir.specs.Module.{Module}
use Rattle.tac_ir.specs.Layout.{lines_of, frame_words, stack_from, memory_words}
use Rattle.tac_ir.specs.GoodForm.{GoodForm, NamesExist}
use Rattle.tac_ir.specs.Answers.{IsAnswer}
use Rattle.tac_thread.specs.declared.flat.FlatStack.{FlatStack}
use Rattle.tac_thread.specs.declared.guest.Activation.{Activation}
use Rattle.tac_thread.specs.declared.guest.Stage.{Stage}
use Rattle.tac_thread.specs.declared.doing.Doing.{Doing}
use Rattle.tac_thread.specs.declared.want.Want.{Want}
use Rattle.tac_thread.specs.declared.want.ReplyOf.{ReplyOf}
use Rattle.tac_thread.specs.Meaning.{Meaning}
use Rattle.tac_thread.specs.tools.Fetched.{instr_in}
use Rattle.tac_thread.specs.Life.{Life, instr_of}
use Rattle.tac_thread.specs.Doing.{given, tested, leaves, doing, asked, link_write, want_at, want_of}
use Rattle.tac_thread.specs.Answered.{answered}
use Rattle.tac_thread.specs.RunsOn.{RunsOn}
use Rattle.tac_thread.specs.Guests.{IsGuestOf, TakesReply}
use Rattle.tac_thread.specs.Flat.{flat_meaning, with_frame}
use Rattle.path_law.specs.Asked.{Tells}
use Rattle.path_law.specs.Wants.{room_in}
use Rattle.path_law.specs.Fits.{answer_by}
use Rattle.path_law.proofs.Replies.{framed}
use Rattle.path_law.proofs.Fitting.{calls_fit}
use Rattle.word_table.specs.Tables.{CanRun}
use Rattle.flat_core.specs.declared.ask.Asked.{Asked}
use Rattle.flat_core.specs.declared.store.Store.{Store}
use Rattle.flat_core.specs.tools.Asked.{entry_of}
use Rattle.flat_core.specs.Store.{IsStore}
use Rattle.flat_core.specs.Turns.{AsksFor, IsTurned}
use Rattle.path_law.specs.Standing.{FlatLife}
use Rattle.path_law.proofs.Telling.{wants_call}
use Rattle.heap_desk.specs.Laws.{changes_desk}
use Rattle.flat_core.proofs.Asking.{IsAskedOf, asked_of_life}
use Rattle.flat_core.proofs.Keeping.{is_write, after_other}
use Rattle.flat_core.proofs.Performing.{turned_by, turned_stop}

-- Who calls a function calls one that exists.

abbrev call_in : {X : Type 0} → Option (Want X) → Option ℕ
call_in (Some (Want.Call f)) = Some f
call_in want = None

abbrev call_at : Instr → Option ℕ
call_at (Instr.Call to f def args) = Some f
call_at i = None

given-calls : {X : Type 0} (to : ℕ) (v : Option X) → call_in (asked (given to v)) ≡ None
given-calls to None = refl
given-calls to (Some v) = refl

divided-calls : {X : Type 0} (to : ℕ) (v : Option X) (b : Bool) → call_in (asked {V = X} (elim b [ true ↦ Doing.Asks Want.Zero | false ↦ given to v ])) ≡ None
divided-calls to v true = refl
divided-calls to v false = given-calls to v

tested-calls : (X : Type 0) (y z : ℕ) (b : Option Bool) → call_in (asked {V = X} (tested y z b)) ≡ None
tested-calls X y z None = refl
tested-calls X y z (Some true) = refl
tested-calls X y z (Some false) = refl

leaves-calls : (X : Type 0) (r : ℕ) (link : Option ℕ) → call_in (asked {V = X} (leaves r link)) ≡ None
leaves-calls X r None = refl
leaves-calls X r (Some w) = refl

doing-calls : {X T : Type 0} (m : Meaning X T) (c : Code) (a : Activation X T) (i : Instr) → call_in (asked (doing m c a i)) ≡ call_at i
doing-calls m c a (Instr.Un to op x) = given-calls to _
doing-calls m c a (Instr.Bin to op x y) = divided-calls to _ _
doing-calls m c a (Instr.Field to x shape k) = given-calls to _
doing-calls m c a (Instr.Decay to x shape) = given-calls to _
doing-calls m c a (Instr.Index to x y words) = given-calls to _
doing-calls m c a (Instr.Ret x (Some r)) = leaves-calls _ r _
doing-calls m c a (Instr.Test x y z) = tested-calls _ y z _
doing-calls m c a (Instr.Call to f def args) = refl
doing-calls m c a i = refl

link-calls : (X : Type 0) (i : Instr) (link : Option ℕ) → call_in {X = X} (link_write i link) ≡ None
link-calls X (Instr.Call to f d args) (Some w) = refl
link-calls X (Instr.Call to f d args) None = refl
link-calls X i link = refl

callee_exists : (c : Code) → GoodForm c → (f at g : ℕ) → call_at (instr_in (lines_of c f) at) ≡ Some g → g < length c.funs
callee_exists c good f at g is = by (slice_get c.funs f) refl is
  where
    named : (i : Instr) → NamesExist c f i → call_at i ≡ Some g → g < length c.funs
    named (Instr.Call to k def args) names is = let same : k ≡ g = cc in subst (λ x. x < length c.funs) same names.exists
    named i names is = cc

    here : (fun : Fun) → slice_get c.funs f ≡ Some fun → (o : Option Lined) → slice_get fun.code at ≡ o → call_at (elim o [ None ↦ Instr.End | Some l ↦ l.instr ]) ≡ Some g → g < length c.funs
    here fun found None line is = cc
    here fun found (Some l) line is = named l.instr ((good.code f fun found).instrs at l line).names is

    by : (o : Option Fun) → slice_get c.funs f ≡ o → call_at (instr_in (elim o [ None ↦ [] | Some fun ↦ fun.code ]) at) ≡ Some g → g < length c.funs
    by None found is = cc
    by (Some fun) found is = here fun found (slice_get fun.code at) refl is

call_exists : {X T : Type 0} (m : Meaning X T) (c : Code) (l : Life X T) (g : ℕ) → GoodForm c → want_of m c l ≡ Some (Want.Call g) → g < length c.funs
call_exists {X} {T} m c l g good want = by l.stage (ap call_in want)
  where
    by : (s : Stage X T) → call_in (want_at m c l.top s) ≡ Some g → g < length c.funs
    by Stage.Ready is = callee_exists c good l.top.fun l.top.at g (sym (doing-calls m c l.top (instr_of c l.top)) ∙ is)
    by (Stage.Entering callee) is = let clash : None ≡ Some g = sym (link-calls X (instr_of c l.top) (m.link callee.stack)) ∙ is in cc
    by (Stage.Leaving v) is = cc
    by Stage.Waiting is = cc

-- what a life asks for, where it calls
calls : (c : Code) (l : FlatLife) (f : ℕ) (a : Asked) (by : IsAskedOf c l a) → a.op ≡ Op.Call f → by.want ≡ Want.Call f
calls c l f a by op = wants_call by.want f (by.event ∙ ap Some op)

pub asked_exists : (m : Module) (l : FlatLife) (f : ℕ) (a : Asked) (c : Code) → c ≡ m.code → CanRun m → AsksFor m l a → a.op ≡ Op.Call f → f < length c.funs
asked_exists m l f a c code can asks op =
    let by = asked_of_life m.code l a asks in
    let below = call_exists flat_meaning m.code l f can.form (by.wants ∙ ap Some (calls m.code l f a by op)) in
    subst (λ k. f < length k.funs) (sym code) below

-- Frames.

le_self : (a b : ℕ) → a ≡ b → nat_le a b ≡ true
le_self a b e = grind (arith, nat_le)

pub takes_frame : (m : Module) (l : FlatLife) (f : ℕ) (a : Asked) (s : FlatStack) (c : Code) → c ≡ m.code → AsksFor m l a → a.op ≡ Op.Call f → with_frame (frame_words c f) a.stack ≡ Some s
    → TakesReply flat_meaning c l (ReplyOf.Stack s)
takes_frame m l f a s c code asks op fits =
    let by = asked_of_life m.code l a asks in
    let new = framed (frame_words c f) a.stack s fits in
    let holds : nat_le (s.base + frame_words m.code f) s.top ≡ true = le_self _ _ (ap (λ k. s.base + frame_words k f) (sym code) ∙ ap (λ b. b + frame_words c f) new.base ∙ sym new.top) in
    subst (λ k. TakesReply flat_meaning k l (ReplyOf.Stack s)) (sym code) (Want.Call f, by.wants ∙ ap Some (calls m.code l f a by op), holds)

pub called : (m : Module) (input : List ℤ) (h : List Entry) (l k : FlatLife) (r : Store) (n f : ℕ) (a : Asked) (s : FlatStack) (c : Code) → c ≡ m.code → IsStore m input h r → AsksFor m l a → a.op ≡ Op.Call f
    → with_frame (frame_words c f) a.stack ≡ Some s → RunsOn flat_meaning c (answered flat_meaning c l (ReplyOf.Stack s)) k → IsGuestOf flat_meaning c k
    → IsTurned m input h n l a Answer.Unit k r
called m input h l k r n f a s c code store asks op fits run guest =
    let here : with_frame (frame_words m.code f) a.stack ≡ Some s = ap (λ x. with_frame (frame_words x f) a.stack) (sym code) ∙ fits in
    turned_by m input h l k r n a Answer.Unit (ReplyOf.Stack s) c code
    (subst (λ o. IsAnswer m input h n (room_in a.stack) o Answer.Unit) (sym op) (sym (calls_fit m f a.stack ∙ ap (answer_by Stop.Stack) here)))
    (takes_frame m l f a s c code asks op fits)
    (subst (λ o. Tells m.code a.stack o Answer.Unit (ReplyOf.Stack s)) (sym op) here)
    refl run guest
    (after_other m input h r (entry_of n a Answer.Unit) (ap is_write op) (ap changes_desk op) store)

pub no_frame : (m : Module) (input : List ℤ) (h : List Entry) (l : FlatLife) (r : Store) (n f : ℕ) (a : Asked) (c : Code) → c ≡ m.code → IsStore m input h r → a.op ≡ Op.Call f → with_frame (frame_words c f) a.stack ≡ None
    → IsTurned m input h n l a (Answer.Stop Stop.Stack) l r
no_frame m input h l r n f a c code store op fits =
    turned_stop m input h l r n a (Answer.Stop Stop.Stack)
    (subst (λ o. IsAnswer m input h n (room_in a.stack) o (Answer.Stop Stop.Stack)) (sym op) (sym (calls_fit m f a.stack ∙ ap (answer_by Stop.Stack) (ap (λ k. with_frame (frame_words k f) a.stack) (sym code) ∙ fits)))) refl store.layout

-- Main's frame.

roomy : (size : Size) → stack_from size + 32768 ≤ memory_words size
roomy Size.Small = omega arith
roomy Size.Large = omega arith

not_less : (a b : ℕ) → b ≤ a → nat_lt a b ≡ false
not_less a b h = grind (arith, nat_lt)

pub main_fits : (c : Code) (size : Size) (p : ℕ × ℕ) → GoodForm c → (p.0 ≡ stack_from size) × (p.1 ≡ memory_words size) → with_frame (frame_words c c.main) (record { base = p.0; top = p.0; «end» = p.1 }) ≡ None → ⊥
main_fits c size p good is none =
    let nobody : Fun = record { params = 0; vars = []; code = []; line = 0 } in
    let words = (good.funs.frames c.main (get_or c.funs c.main nobody) (slice_get-get_or c.funs c.main nobody good.funs.main)).words in
    let from = is.0 in
    let past = is.1 in
    let fits : nat_lt (p.1 - p.0) (frame_words c c.main) ≡ false = not_less _ _ (omega (arith, words, roomy size, from, past)) in
    let made = ap (λ b. if b then None else Some (let s : FlatStack = record { base = p.0; top = p.0 + frame_words c c.main; «end» = p.1 } in s)) fits in
    let clash : None ≡ Some (let s : FlatStack = record { base = p.0; top = p.0 + frame_words c c.main; «end» = p.1 } in s) = sym none ∙ made in
    cc
