-- Each history of a module of good form has the chain of trees.
use Rattle.std.proofs.Common.{◌≡◌, ℕ, suc, ◌+◌, ◌/◌, inl, inr, Bool, true, false, List, [], ◌∷◌, length, refl, sym, ap, ◌∙◌, subst, arith, Option, Some}
use Rattle.std.specs.Prelude.{ℤ, IsTrue, slice_get, nat_le}
use Rattle.std.proofs.lemmas.Bool.{leb-true}
use Rattle.dfi_base.specs.Lives
use Rattle.dfi_base.specs.Lives.{IsNext}
use Rattle.tac_ir.specs.declared.run.Op.{Op}
use Rattle.tac_ir.specs.declared.run.Entry.{Entry}
use Rattle.tac_ir.specs.Module.{Module}
use Rattle.tac_ir.specs.GoodForm.{GoodForm}
use Rattle.tac_ir.specs.Path.{stops}
use Rattle.tac_ir.specs.Layout.{frame_words}
use Rattle.tac_ir.specs.Answers.{IsAnswer}
use Rattle.tac_ir.specs.Threads.{Want, threads_of}
use Rattle.tac_ir.specs.CoreRun.{GoesOn, Follows, IsHistory}
use Rattle.tac_ir.proofs.Living.{wanted_one}
use Rattle.tac_thread.specs.declared.flat.FlatStack.{FlatStack}
use Rattle.tac_thread.specs.declared.want.ReplyOf.{ReplyOf}
use Rattle.tac_thread.specs.Flat.{flat_meaning}
use Rattle.tac_thread.specs.Threads.{running, want_of_life, IsRunnable}
use Rattle.tac_thread.proofs.Trees.{running_is}
use Rattle.path_law.specs.Asked.{op_of}
use Rattle.path_law.specs.Standing.{FlatLife}
use Rattle.path_law.specs.Begins.{root_stack}
use Rattle.path_law.specs.Wants.{room_in, next_of}
use Rattle.path_law.specs.InPlace.{FlatLives}
use Rattle.path_law.specs.Alive.{AreAlive, AreShares}
use Rattle.path_law.proofs.TreeLaws.{next_event, same_runnable}
use Rattle.path_law.proofs.Grown.{tree_begins, tree_fed}
use Rattle.path_law.proofs.Forks.{tree_forked}
use Rattle.path_law.proofs.Begins.{shared}
use Rattle.tree_law.specs.Growing.{Does, Grows}
use Rattle.tree_law.specs.Growing.Does.{tells, splits, ends}
use Rattle.tree_law.proofs.trees.Growing.{grows}
use Rattle.chain_law.specs.RunTree.{IsAsked, IsAnswered, run_says, AreLastBy, AreLast, IsChained}
use Rattle.path_law.proofs.Telling.{wants_fork}
use Rattle.chain_law.proofs.histories.Asking.{le_true, IsToldBy, IsForkedBy, takes_stack, kind_of, plain_told, call_told, fork_told}

-- The thread of an entry runs in the tree, and the entry is what its life wants.

pub record IsHere (m : Module) (input : List ℤ) (h : List Entry) (f : FlatLives) (e : Entry) : Type 0 where
  pub life : FlatLife
  pub runs : running (f e.name.0) ≡ Some life
  pub asked : IsAsked m input h e.name.0 life e

pub is_here : (m : Module) (input : List ℤ) (h : List Entry) (f : FlatLives) (d : Option ℕ) (e : Entry) → AreAlive m h f d → Follows m input h e → IsHere m input h f e
is_here m input h f d e alive follows =
    let now : IsRunnable f e.name.0 = (same_runnable m h f d e.name.0 alive).1 (follows.start, follows.want, follows.next) in
    let r = next_event m h f d e.name.0 now.0 alive now.1 in
    let one = (wanted_one m h e.name.0 follows.start r.start follows.want (next_of now.0 r.op) follows.next r.next).1 in
    let op : e.op ≡ r.op = follows.op ∙ ap (λ (w : Want). w.op) one in
    let room : follows.want.room ≡ room_in now.0.top.stack = ap (λ (w : Want). w.room) one in
    record {
      life = now.0;
      runs = now.1;
      asked = record {
        name = refl;
        place = alive.place.settled.threads.lives e.name.0 now.0 (running_is (f e.name.0) now.0 now.1).0;
        want = r.want;
        wants = r.wants;
        point = follows.point ∙ ap (λ (w : Want). w.point) one;
        event = r.event ∙ ap Some (sym op);
        answer = subst (λ k. IsAnswer m input h e.name.0 k e.op e.answer) room follows.answer;
      };
    }

-- One entry more.

abbrev pub DoesWords : Module → List ℤ → List Entry → Entry → FlatLives → Option ℕ → Type 0
DoesWords m input h e f d = Does flat_meaning m.code (run_says m input) (AreLast m) h e f d

more_last : (m : Module) (h : List Entry) (e : Entry) (f : FlatLives) (d : Option ℕ) → stops e.answer ≡ false → AreAlive m (e ∷ h) f d → AreLast m (e ∷ h) f d
more_last m h e f d goes alive = subst (AreLastBy m h e f d) (sym goes) alive

fed_does : (m : Module) (input : List ℤ) → GoodForm m.code → (h : List Entry) (f : FlatLives) (d : Option ℕ) (e : Entry) → AreAlive m h f d → (here : IsHere m input h f e) → stops e.answer ≡ false → IsToldBy m e here.life → DoesWords m input h e f d
fed_does m input good h f d e alive here goes t =
    let run = running_is (f e.name.0) here.life here.runs in
    tells e.name.0 t.reply
    (record {
      want = t.told.want;
      wants = ap (want_of_life flat_meaning m.code) here.runs ∙ t.told.wants;
      kind = t.told.kind;
      no_fork = λ k is. (let both : Some e.op ≡ Some (Op.Fork k) = sym t.told.event ∙ ap op_of is in let op : e.op ≡ Op.Fork k = cc in t.no_fork k op);
    })
    (λ l lives. (let both : Some here.life ≡ Some l = sym run.0 ∙ lives in let same : here.life ≡ l = cc in
    subst (λ (z : FlatLife). IsAnswered m input h e.name.0 z e t.reply) same (record { asked = here.asked; told = t.told; goes = goes })))
    (λ g b fed tree. more_last m h e g b goes (record {
      place = tree_fed m h f g d b e t.reply good alive (record { life = here.life; runs = here.runs; told = t.told }) t.no_fork fed;
      tree = tree;
    }))

forked_does : (m : Module) (input : List ℤ) → GoodForm m.code → (h : List Entry) (f : FlatLives) (d : Option ℕ) (e : Entry) → AreAlive m h f d → (here : IsHere m input h f e) → stops e.answer ≡ false → IsForkedBy m e here.life → DoesWords m input h e f d
forked_does m input good h f d e alive here goes t =
    let run = running_is (f e.name.0) here.life here.runs in
    let want = wants_fork t.told.want (length t.stacks) (t.told.event ∙ ap Some t.op) in
    splits e.name.0 t.stacks
    (record { wants = ap (want_of_life flat_meaning m.code) here.runs ∙ t.told.wants ∙ ap Some want; framed = framed here.life run.0 })
    (λ l lives. (let both : Some here.life ≡ Some l = sym run.0 ∙ lives in let same : here.life ≡ l = cc in (
      subst (λ (z : FlatLife). IsAnswered m input h e.name.0 z e ReplyOf.Unit) same (record { asked = here.asked; told = t.told; goes = goes }),
      subst (λ (z : FlatLife). AreShares z.top.stack t.stacks) same t.shares,
    )))
    (λ g b fork tree. more_last m h e g b goes (record {
      place = tree_forked m h f g d b e t.stacks good alive (record { life = here.life; runs = here.runs; told = t.told }) t.op t.shares fork;
      tree = tree;
    }))
  where
    framed : (l : FlatLife) → f e.name.0 ≡ Some l → (k : FlatLife) (i : ℕ) (s : FlatStack) → f e.name.0 ≡ Some k → slice_get t.stacks i ≡ Some s → IsTrue (flat_meaning.has_frame m.code k.top.fun s)
    framed l lives k i s there found =
        let hereis = running_is (f e.name.0) here.life here.runs in
        let both : Some here.life ≡ Some k = sym hereis.0 ∙ there in
        let same : here.life ≡ k = cc in
        let share = shared (room_in here.life.top.stack / length t.stacks) (suc i) here.life.top.stack s (t.shares i s found) in
        let frame = leb-true _ _ (alive.tree.threads.guests e.name.0 here.life hereis.0).held.top.frame in
        subst (λ (z : FlatLife). IsTrue (nat_le (s.base + frame_words m.code z.top.fun) s.top)) same (le_true _ _ (omega (arith, frame, share.base, share.top)))

-- Histories.

pub goes_alive : (m : Module) (h : List Entry) (f : FlatLives) (d : Option ℕ) → GoesOn h → AreLast m h f d → AreAlive m h f d
goes_alive m [] f d goes last = last
goes_alive m (e ∷ h) f d goes last = subst (AreLastBy m h e f d) goes last

does_words : (m : Module) (input : List ℤ) → GoodForm m.code → (h : List Entry) (e : Entry) (f : FlatLives) (d : Option ℕ) → AreAlive m h f d → IsHere m input h f e → DoesWords m input h e f d
does_words m input good h e f d alive here = by (stops e.answer) refl
  where
    kinds : stops e.answer ≡ false → takes_stack e.op → DoesWords m input h e f d
    kinds goes (inl plain) = fed_does m input good h f d e alive here goes (plain_told m input h e here.life here.asked goes plain)
    kinds goes (inr (inl call)) = fed_does m input good h f d e alive here goes (call_told m input h e here.life call.0 here.asked goes call.1)
    kinds goes (inr (inr fork)) = forked_does m input good h f d e alive here goes (fork_told m input h e here.life fork.0 here.asked goes fork.1)

    by : (b : Bool) → stops e.answer ≡ b → DoesWords m input h e f d
    by false goes = kinds goes (kind_of e.op)
    by true stop =
        let run = running_is (f e.name.0) here.life here.runs in
        ends e.name.0 here.life run.0 run.1 (record { asked = here.asked; stopped = stop }) (subst (AreLastBy m h e f d) (sym stop) alive)

head_follows : (m : Module) (input : List ℤ) (h : List Entry) (e : Entry) → IsHistory m input (e ∷ h) → Follows m input h e × IsHistory m input h
unfolding IsHistory
head_follows m input h e history = history

-- histories grow
pub history_grows : (m : Module) (input : List ℤ) → GoodForm m.code → Grows flat_meaning m.code (root_stack m) (run_says m input) (AreLast m) (IsHistory m input)
history_grows m input good = record {
  begins = λ f d begun tree. record { place = tree_begins m f d begun; tree = tree };
  before = λ g e log. (head_follows m input g e log).1;
  next = λ g e f d log last tree. (
      let follows = (head_follows m input g e log).0 in
      let alive = goes_alive m g f d follows.going last in
      does_words m input good g e f d alive (is_here m input g f d e alive follows));
}

pub chain_of : (m : Module) (input : List ℤ) → GoodForm m.code → (h : List Entry) → IsHistory m input h → IsChained m input h
chain_of m input good h history =
    let k = grows flat_meaning m.code good (root_stack m) (le_true _ _ (omega arith)) (run_says m input) (AreLast m) (IsHistory m input) (history_grows m input good) h history in
    record { lives = k.lives; value = k.value; chain = k.chain; last = k.holds }

-- who runs in the last tree is runnable, and the other way round
pub same_running : (m : Module) (input : List ℤ) (h : List Entry) (t : IsChained m input h) (n : ℕ) → GoesOn h
    → (IsRunnable t.lives n → Lives.IsRunnable (threads_of m) h n) × (Lives.IsRunnable (threads_of m) h n → IsRunnable t.lives n)
same_running m input h t n goes = same_runnable m h t.lives t.value n (goes_alive m h t.lives t.value goes t.last)
