-- Histories of the same names are the same, and so are the threads behind them.
use Rattle.std.proofs.Common.{◌≡◌, ℕ, ℤ, List, [], ◌∷◌, ◌++◌, length, Bool, true, false, refl, Option, Some, sym, ◌∙◌, ap, subst}
use Rattle.std.specs.Prelude.{slice_get}
use Rattle.std.specs.List.{All}
use Rattle.std.proofs.lemmas.Option.{slice_get_within, slice_get-get_or}
use Rattle.obj_mem.specs.declared.value.Value.{Value}
use Rattle.obj_mem.specs.declared.event.Event.{Event}
use Rattle.obj_mem.specs.declared.event.SrcAnswer.{SrcAnswer}
use Rattle.obj_mem.specs.declared.event.Stamp.{Stamp}
use Rattle.tac_ir.specs.declared.code.Code.{Code}
use Rattle.tac_ir.specs.declared.code.Instr.{Instr}
use Rattle.tac_ir.specs.GoodForm.{GoodForm}
use Rattle.tac_thread.specs.Life.{instr_of}
use Rattle.tac_thread.specs.Answered
use Rattle.tac_thread.specs.Answered.{answered, answered_first}
use Rattle.tac_thread.specs.Threads.{is_waiting, IsTree, IsFed, IsForked, IsStuck}
use Rattle.tree_law.specs.Chain.IsTreeAfter.{begins, feeds, forks, halts, sticks}
use Rattle.obj_run.specs.declared.values.ObjStack.{ObjStack}
use Rattle.obj_run.specs.Objects.{object_meaning, main_stack}
use Rattle.obj_run.specs.Asked.{event_of, number_of, reply_of}
use Rattle.obj_run.specs.Entries.{Entry, stamps_of}
use Rattle.obj_run.specs.Starts.{opening}
use Rattle.obj_run.specs.Runs.{ObjLife, ObjLives, IsAsked, IsObjTree, is_zero, is_too_deep}
use Rattle.obj_law.specs.Laws.{names_by}
use Rattle.obj_law.specs.Did.{Did}
use Rattle.obj_law.specs.Did.Did.{gets, loads, sets, stores, compares, news, frees, ins, lefts, outs, calls, rets, turns, forks as forked_to, traps}
use Rattle.obj_law.proofs.Seeing.{seen}
use Rattle.obj_law.proofs.Steady.{steady}
use Rattle.obj_law.proofs.OneStep.{Same, one_life, fed_one, forked_one, stuck_one, begun_one, lists_one}

-- One life, which runs, has one entry behind a history.
module _ (c : Code) (first h : List Stamp) where
  one_name : (e k : Entry) → e.stamp.name.0 ≡ k.stamp.name.0 → e.stamp.event ≡ k.stamp.event → e.stamp.answer ≡ k.stamp.answer → e.number ≡ k.number → e ≡ k
  one_name e k name event answer number = λ i. record { stamp = record { name = record { 0 = name i }; event = event i; answer = answer i }; number = number i }

  pub one_entry : (n : ℕ) (l : ObjLife) (e k : Entry) → IsAsked c first h n l e → IsAsked c first h n l k → e ≡ k
  one_entry n l e k x y =
      let wants : Some x.want ≡ Some y.want = sym x.wants ∙ y.wants in
      let want : x.want ≡ y.want = cc in
      let events : Some e.stamp.event ≡ Some k.stamp.event = sym x.event ∙ ap (event_of c) want ∙ y.event in
      let event : e.stamp.event ≡ k.stamp.event = cc in
      let answers : Some e.stamp.answer ≡ Some k.stamp.answer = sym x.answer ∙ ap (Rattle.obj_mem.specs.Valid.answer_of (h ++ first) n) event ∙ y.answer in
      let answer : e.stamp.answer ≡ k.stamp.answer = cc in
      one_name e k (x.name ∙ sym y.name) event answer (x.number ∙ ap number_of want ∙ sym y.number)

-- What an entry does to the threads behind a history, whatever kind it is of.
pub data Went (c : Code) (n : ℕ) (l : ObjLife) (e : Entry) (f : ObjLives) (d : Option Value) (g : ObjLives) (b : Option Value) : Type 0 where
  fed : IsFed object_meaning c f d n (reply_of e.stamp.answer) g b → is_zero e.stamp.event ≡ false → ((k : ℕ) → e.stamp.event ≡ Event.Fork k → ⊥) → Went c n l e f d g b
  forked : (k : ℕ) (stacks : List ObjStack) → IsForked object_meaning c f d n stacks g b → All (λ s. s ≡ l.top.stack) stacks → e.stamp.event ≡ Event.Fork (length stacks) → is_too_deep n e.stamp.event ≡ false
      → Went c n l e f d g b
  halted : (f ≡ g) × (d ≡ b) → is_zero e.stamp.event ≡ true → Went c n l e f d g b
  stuck : IsStuck f d n g b → is_too_deep n e.stamp.event ≡ true → Went c n l e f d g b

-- a history with a newest entry
pub record Step (c : Code) (input : List ℤ) (e : Entry) (h : List Entry) (g : ObjLives) (b : Option Value) : Type 0 where
  pub f : ObjLives
  pub d : Option Value
  pub chain : IsObjTree c input h f d
  pub l : ObjLife
  pub lives : f e.stamp.name.0 ≡ Some l
  pub asked : IsAsked c (opening c input) (stamps_of h) e.stamp.name.0 l e
  pub went : Went c e.stamp.name.0 l e f d g b

deep_forks : (n : ℕ) (e : Event) → is_too_deep n e ≡ true → (k : ℕ) × (e ≡ Event.Fork k)
deep_forks n (Event.Fork k) deep = (k, refl)
deep_forks n e deep = cc

module _ (c : Code) (input : List ℤ) (good : GoodForm c) where
  -- a fork's event
  fork_event : (h : List Stamp) (n : ℕ) (l : ObjLife) (i : Instr) (e : Event) (a : SrcAnswer) (join : ℕ) (entries : List ℕ) → Did c h n l.top i e a → i ≡ Instr.Fork join entries → e ≡ Event.Fork (length entries)
  fork_event h n l i e a join entries (forked_to join2 entries2) is = (let same : entries2 ≡ entries = cc in ap (λ xs. Event.Fork (length xs)) same)
  fork_event h n l i e a join entries (gets to r place v was) is = cc
  fork_event h n l i e a join entries (loads to x r v was) is = cc
  fork_event h n l i e a join entries (sets place x d was) is = cc
  fork_event h n l i e a join entries (stores x y d was) is = cc
  fork_event h n l i e a join entries (compares to x y ne same was) is = cc
  fork_event h n l i e a join entries (news to x site k int) is = cc
  fork_event h n l i e a join entries (frees x was) is = cc
  fork_event h n l i e a join entries (ins to) is = cc
  fork_event h n l i e a join entries (lefts to) is = cc
  fork_event h n l i e a join entries (outs x k int) is = cc
  fork_event h n l i e a join entries (calls to g def args) is = cc
  fork_event h n l i e a join entries (rets x r) is = cc
  fork_event h n l i e a join entries turns is = cc
  fork_event h n l i e a join entries (traps to x y op zero) is = cc

  -- who is answered its fork waits
  fork_waits : (h : List Stamp) (n : ℕ) (l : ObjLife) (i : Instr) (e : Event) (a : SrcAnswer) (k : ℕ) → Did c h n l.top i e a → e ≡ Event.Fork k → is_waiting (answered_first object_meaning c l i (reply_of a)).stage ≡ true
  fork_waits h n l i e a k (forked_to join entries) is = refl
  fork_waits h n l i e a k (gets to r place v was) is = cc
  fork_waits h n l i e a k (loads to x r v was) is = cc
  fork_waits h n l i e a k (sets place x d was) is = cc
  fork_waits h n l i e a k (stores x y d was) is = cc
  fork_waits h n l i e a k (compares to x y ne same was) is = cc
  fork_waits h n l i e a k (news to x site z int) is = cc
  fork_waits h n l i e a k (frees x was) is = cc
  fork_waits h n l i e a k (ins to) is = cc
  fork_waits h n l i e a k (lefts to) is = cc
  fork_waits h n l i e a k (outs x z int) is = cc
  fork_waits h n l i e a k (calls to g def args) is = cc
  fork_waits h n l i e a k (rets x r) is = cc
  fork_waits h n l i e a k turns is = cc
  fork_waits h n l i e a k (traps to x y op zero) is = cc

  abbrev first : List Stamp
  first = opening c input

  pub moved_on : (h : List Entry) (f : ObjLives) (d : Option Value) (n : ℕ) (l : ObjLife) (e : Entry) → IsObjTree c input h f d → f n ≡ Some l → is_waiting l.stage ≡ false → IsAsked c first (stamps_of h) n l e
      → is_waiting (answered object_meaning c l (reply_of e.stamp.answer)).stage ≡ false → (k : ℕ) → e.stamp.event ≡ Event.Fork k → ⊥
  moved_on h f d n l e chain lives awake asked moved k is =
      let ready = steady c input good h f d chain n l lives awake in
      let did = (seen c first (stamps_of h) n l e ready asked).0 in
      let waits = fork_waits (stamps_of h ++ first) n l (instr_of c l.top) e.stamp.event e.stamp.answer k did is in
      let clash : true ≡ false = sym waits ∙ ap (λ s. is_waiting (Answered.answered_at object_meaning c l s (reply_of e.stamp.answer)).stage) (sym ready) ∙ moved in
      cc

  pub forks_by : (h : List Entry) (f : ObjLives) (d : Option Value) (n : ℕ) (l : ObjLife) (e : Entry) → IsObjTree c input h f d → f n ≡ Some l → is_waiting l.stage ≡ false → IsAsked c first (stamps_of h) n l e
      → (join : ℕ) (entries : List ℕ) → instr_of c l.top ≡ Instr.Fork join entries → e.stamp.event ≡ Event.Fork (length entries)
  forks_by h f d n l e chain lives awake asked join entries is =
      fork_event (stamps_of h ++ first) n l (instr_of c l.top) e.stamp.event e.stamp.answer join entries
      (seen c first (stamps_of h) n l e (steady c input good h f d chain n l lives awake) asked).0 is

  pub step : (e : Entry) (h : List Entry) (g : ObjLives) (b : Option Value) → IsObjTree c input (e ∷ h) g b → Step c input e h g b
  step e h g b (feeds old e2 n reply f g2 d b2 chain tree fed_to awake moved told) =
      let l = fed_to.life in
      let name = told.asked.name in
      record {
        f = f;
        d = d;
        chain = chain;
        l = l;
        lives = ap f name ∙ fed_to.lived;
        asked = subst (λ k. IsAsked c first (stamps_of h) k l e) (sym name) told.asked;
        went = fed (subst (λ k. IsFed object_meaning c f d k (reply_of e.stamp.answer) g b) (sym name) (subst (λ r. IsFed object_meaning c f d n r g b) (sym told.replies) fed_to)) told.no_zero
            (moved_on h f d n l e chain fed_to.lived awake told.asked (ap (λ r. is_waiting (answered object_meaning c l r).stage) told.replies ∙ moved));
      }
  step e h g b (forks old e2 n stacks f g2 d b2 chain tree forked_at awake told shares some join entries is count few) =
      let l = forked_at.life in
      let name = told.asked.name in
      record {
        f = f;
        d = d;
        chain = chain;
        l = l;
        lives = ap f name ∙ forked_at.lived;
        asked = subst (λ k. IsAsked c first (stamps_of h) k l e) (sym name) told.asked;
        went = forked 0 stacks (subst (λ k. IsForked object_meaning c f d k stacks g b) (sym name) forked_at) shares
            (forks_by h f d n l e chain forked_at.lived awake told.asked join entries is ∙ ap Event.Fork count) (ap (λ k. is_too_deep k e.stamp.event) name ∙ told.shallow);
      }
  step e h g b (halts old e2 n l f d chain lives awake halted_by) =
      let name = halted_by.0.name in
      record {
        f = g;
        d = b;
        chain = chain;
        l = l;
        lives = ap g name ∙ lives;
        asked = subst (λ k. IsAsked c first (stamps_of h) k l e) (sym name) halted_by.0;
        went = halted (refl, refl) halted_by.1;
      }
  step e h g b (sticks old e2 n f g2 d b2 chain tree stuck_at awake stays) =
      let l = stuck_at.life in
      let name = stays.0.name in
      record {
        f = f;
        d = d;
        chain = chain;
        l = l;
        lives = ap f name ∙ stuck_at.lived;
        asked = subst (λ k. IsAsked c first (stamps_of h) k l e) (sym name) stays.0;
        went = stuck (subst (λ k. IsStuck f d k g b) (sym name) stuck_at) (ap (λ k. is_too_deep k e.stamp.event) name ∙ stays.1);
      }

  -- The kinds exclude one another.

  zero_shallow : (n : ℕ) (e : Event) → is_zero e ≡ true → is_too_deep n e ≡ false
  zero_shallow n Event.Zero zero = refl
  zero_shallow n (Event.Fork k) zero = cc
  zero_shallow n e zero = cc

  fork_no_zero : (e : Event) (k : ℕ) → e ≡ Event.Fork k → is_zero e ≡ false
  fork_no_zero e k is = ap is_zero is

  clash : {A : Type 0} (b : Bool) → b ≡ true → b ≡ false → A
  clash b one other = (let no : true ≡ false = sym one ∙ other in cc)

  same_stacks : (s : ObjStack) (xs ys : List ObjStack) → length xs ≡ length ys → All (λ x. x ≡ s) xs → All (λ x. x ≡ s) ys → xs ≡ ys
  same_stacks s xs ys count all also = lists_one xs ys count (λ i x y there here. member xs all i x there ∙ sym (member ys also i y here))
    where
      member : (xs : List ObjStack) → All (λ x. x ≡ s) xs → (i : ℕ) (x : ObjStack) → slice_get xs i ≡ Some x → x ≡ s
      member xs all i x there =
          let within = slice_get_within xs i x there in
          let both : Some (Rattle.std.specs.Prelude.get_or xs i x) ≡ Some x = sym (slice_get-get_or xs i x within) ∙ there in
          let same : Rattle.std.specs.Prelude.get_or xs i x ≡ x = cc in
          sym same ∙ all i x within

  went_one : (n : ℕ) (l : ObjLife) (e : Entry) (f g j : ObjLives) (d b q : Option Value) → Went c n l e f d g b → Went c n l e f d j q → Same g b j q
  went_one n l e f g j d b q (fed x zero fork) (fed y zero2 fork2) = fed_one object_meaning c f g j d b q n (reply_of e.stamp.answer) x y
  went_one n l e f g j d b q (fed x zero fork) (forked k stacks y share is shallow) = absurd (fork (length stacks) is)
  went_one n l e f g j d b q (fed x zero fork) (halted y zero2) = clash (is_zero e.stamp.event) zero2 zero
  went_one n l e f g j d b q (fed x zero fork) (stuck y deep) = (let k = deep_forks n e.stamp.event deep in absurd (fork k.0 k.1))
  went_one n l e f g j d b q (forked k stacks x share is shallow) (fed y zero fork) = absurd (fork (length stacks) is)
  went_one n l e f g j d b q (forked k stacks x share is shallow) (forked k2 stacks2 y share2 is2 shallow2) =
      let events : Event.Fork (length stacks2) ≡ Event.Fork (length stacks) = sym is2 ∙ is in
      let count : length stacks2 ≡ length stacks = cc in
      let same = same_stacks l.top.stack stacks2 stacks count share2 share in
      forked_one object_meaning c f g j d b q n stacks x (subst (λ z. IsForked object_meaning c f d n z j q) same y)
  went_one n l e f g j d b q (forked k stacks x share is shallow) (halted y zero) = clash (is_zero e.stamp.event) zero (fork_no_zero e.stamp.event (length stacks) is)
  went_one n l e f g j d b q (forked k stacks x share is shallow) (stuck y deep) = clash (is_too_deep n e.stamp.event) deep shallow
  went_one n l e f g j d b q (halted x zero) (fed y zero2 fork) = clash (is_zero e.stamp.event) zero zero2
  went_one n l e f g j d b q (halted x zero) (forked k stacks y share is shallow) = clash (is_zero e.stamp.event) zero (fork_no_zero e.stamp.event (length stacks) is)
  went_one n l e f g j d b q (halted x zero) (halted y zero2) = (sym x.0 ∙ y.0, sym x.1 ∙ y.1)
  went_one n l e f g j d b q (halted x zero) (stuck y deep) = clash (is_too_deep n e.stamp.event) deep (zero_shallow n e.stamp.event zero)
  went_one n l e f g j d b q (stuck x deep) (fed y zero fork) = (let k = deep_forks n e.stamp.event deep in absurd (fork k.0 k.1))
  went_one n l e f g j d b q (stuck x deep) (forked k stacks y share is shallow) = clash (is_too_deep n e.stamp.event) deep shallow
  went_one n l e f g j d b q (stuck x deep) (halted y zero) = clash (is_too_deep n e.stamp.event) deep (zero_shallow n e.stamp.event zero)
  went_one n l e f g j d b q (stuck x deep) (stuck y deep2) = stuck_one object_meaning c f g j d b q n x y

  begun : (g : ObjLives) (b : Option Value) → IsObjTree c input [] g b → Rattle.tac_thread.specs.Threads.IsBegun object_meaning c main_stack g b
  begun g b (begins f2 d2 tree on) = on

  -- with one history before
  step_one : (e k : Entry) (h i : List Entry) (g j : ObjLives) (b q : Option Value) → h ≡ i → e.stamp.name.0 ≡ k.stamp.name.0 → (x : Step c input e h g b) → (y : Step c input k i j q) → Same x.f x.d y.f y.d
      → (e ≡ k) × (g ≡ j) × (b ≡ q)
  step_one e k h i g j b q same_h name x y same =
      let lives : y.f e.stamp.name.0 ≡ Some x.l = sym (ap (λ (z : ObjLives). z e.stamp.name.0) same.0) ∙ x.lives in
      let l : x.l ≡ y.l = one_life object_meaning c y.f e.stamp.name.0 x.l y.l lives (ap y.f name ∙ y.lives) in
      let one : e ≡ k = one_entry c first (stamps_of i) k.stamp.name.0 y.l e k
      (subst (λ z. IsAsked c first (stamps_of z) k.stamp.name.0 y.l e) same_h (subst (λ z. IsAsked c first (stamps_of h) k.stamp.name.0 z e) l (subst (λ m. IsAsked c first (stamps_of h) m x.l e) name x.asked))) y.asked in
      let went : Went c k.stamp.name.0 y.l k y.f y.d g b =
      subst (λ z. Went c k.stamp.name.0 y.l z y.f y.d g b) one
      (subst (λ z. Went c k.stamp.name.0 y.l e y.f z g b) same.1
      (subst (λ z. Went c k.stamp.name.0 y.l e z x.d g b) same.0
      (subst (λ z. Went c k.stamp.name.0 z e x.f x.d g b) l
      (subst (λ m. Went c m x.l e x.f x.d g b) name x.went)))) in
      let threads = went_one k.stamp.name.0 y.l k y.f g j y.d b q went y.went in
      (one, threads.0, threads.1)

  pub histories_one : (h k : List Entry) (f g : ObjLives) (d b : Option Value) → names_by h ≡ names_by k → IsObjTree c input h f d → IsObjTree c input k g b → (h ≡ k) × (f ≡ g) × (d ≡ b)
  histories_one [] [] f g d b names x y = (let same = begun_one object_meaning c main_stack f g d b (begun f d x) (begun g b y) in (refl, same.0, same.1))
  histories_one [] (e ∷ k) f g d b names x y = cc
  histories_one (e ∷ h) [] f g d b names x y = cc
  histories_one (e ∷ h) (i ∷ k) f g d b names x y =
      let one = step e h f d x in
      let two = step i k g b y in
      let name : e.stamp.name.0 ≡ i.stamp.name.0 = cc in
      let rest : names_by h ≡ names_by k = cc in
      let before = histories_one h k one.f two.f one.d two.d rest one.chain two.chain in
      let last = step_one e i h k f g d b before.0 name one two (before.1, before.2) in
      (ap (λ z. z ∷ h) last.0 ∙ ap (λ z. i ∷ z) before.0, last.1, last.2)
