-- A thread of a machine that turned, and what follows where it has ended.
use Rattle.std.proofs.Common.{◌≡◌, ℕ, List, Bool, true, false, Option, Some, None, Ok, Err, refl, sym, ◌∙◌, ap, subst}
use Rattle.std.specs.Prelude.{ℤ, Result, IfOk, OnErr}
use Rattle.std.specs.Result.{IsErr}
use Rattle.tac_ir.specs.declared.code.Code.{Code}
use Rattle.tac_ir.specs.declared.run.Op.{Op}
use Rattle.tac_ir.specs.declared.run.Answer.{Answer}
use Rattle.tac_ir.specs.declared.run.Entry.{Entry}
use Rattle.tac_ir.specs.Module.{Module}
use Rattle.tac_ir.specs.Path.{stops}
use Rattle.tac_thread.specs.Doing.{want_of}
use Rattle.tac_thread.specs.Answered.{IsReplyTo}
use Rattle.tac_thread.specs.Lent.{with_life}
use Rattle.tac_thread.specs.tools.Settling.{IsStepped}
use Rattle.tac_thread.specs.Threads.{life_in, running, is_waiting, want_of_life, end_in, Takes, IsTree, IsSettling, IsFed, Settles}
use Rattle.tac_thread.specs.Flat.{flat_meaning}
use Rattle.tac_thread.proofs.Trees.{running_is, waits_for, stepped_settling, settled_tree, not_ended, fed_to, fed_here}
use Rattle.tac_thread.proofs.Lent.{lent_changes, lent_same}
use Rattle.path_law.specs.Asked.{op_of, Tells}
use Rattle.path_law.specs.Standing.{FlatLife}
use Rattle.path_law.proofs.Grown.{tree_fed}
use Rattle.flat_core.specs.declared.ask.Asked.{Asked}
use Rattle.flat_core.specs.declared.store.Store.{Store}
use Rattle.flat_core.specs.tools.Asked.{asks, op_in, asked_of, entry_of}
use Rattle.flat_core.specs.Serves.{FlatThreads, Serves, Asks, IsPerformed}
use Rattle.flat_core.specs.Turns.{HasGoneOn, IsTurned}
use Rattle.flat_core.proofs.Asking.{IsAskedBy, asked_by}
use Rattle.word_table.specs.Tables.{CanRun}

pub on_err : {A E : Type 0} {P : Type 0} (r : Result A E) → P → OnErr r P
on_err (Ok x) p = tt
on_err (Err e) p = p

pub if_ok : {A E : Type 0} (P : A → Type 0) (r : Result A E) → IsErr r → IfOk r P
if_ok P (Ok x) failed = cc
if_ok P (Err e) failed = tt

-- a thread that waits asks for nothing
pub asked_lived : (c : Code) (l : FlatLife) → asked_of c (running (Some l)) ≡ asks l (op_in (want_of flat_meaning c l))
asked_lived c l = by (is_waiting l.stage) refl
  where
    by : (b : Bool) → is_waiting l.stage ≡ b → asked_of c (elim b as (λ x. Option FlatLife) [ true ↦ None | false ↦ Some l ]) ≡ asks l (op_in (want_of flat_meaning c l))
    by true waits = sym (ap (λ w. asks l (op_in w)) (waits_for flat_meaning c l waits))
    by false awake = refl

-- a thread that lives asks for what its life does
pub asks_for : (m : Module) (t : FlatThreads) (n : ℕ) (l : FlatLife) (o : Option Asked) → Some l ≡ life_in t n → o ≡ asks l (op_in (want_of flat_meaning m.code l)) → asked_of m.code (running (life_in t n)) ≡ o
asks_for m t n l o lived is = ap (λ x. asked_of m.code (running x)) (sym lived) ∙ asked_lived m.code l ∙ sym is

-- Threads that turned.

gone_kind : (m : Module) (t : FlatThreads) (n : ℕ) (l k : FlatLife) (a : Asked) (answer : Answer) → Some l ≡ life_in t n → (by : IsAskedBy m.code (running (life_in t n)) a) → (gone : HasGoneOn m l a answer k)
    → (by.life ≡ l) × IsReplyTo flat_meaning m.code by.want gone.reply
gone_kind m t n l k a answer lived by gone =
    let both : Some by.life ≡ Some l = sym (running_is (life_in t n) by.life by.runs).0 ∙ sym lived in
    let same : by.life ≡ l = cc in
    let wants : Some by.want ≡ Some gone.kind.0 = sym by.wants ∙ ap (want_of flat_meaning m.code) same ∙ gone.kind.1 in
    let want : by.want ≡ gone.kind.0 = cc in
    (same, subst (λ w. IsReplyTo flat_meaning m.code w gone.reply) (sym want) gone.kind.2)

takes : (m : Module) (t : FlatThreads) (n : ℕ) (l k : FlatLife) (a : Asked) (answer : Answer) → Some l ≡ life_in t n → Asks m t n a → ((j : ℕ) → a.op ≡ Op.Fork j → ⊥) → (gone : HasGoneOn m l a answer k)
    → Takes flat_meaning m.code (life_in t) n gone.reply
takes m t n l k a answer lived asks no_fork gone =
    let by = asked_by m.code (running (life_in t n)) a asks in
    record {
      want = by.want;
      wants = ap (want_of_life flat_meaning m.code) by.runs ∙ by.wants;
      kind = (gone_kind m t n l k a answer lived by gone).1;
      no_fork = λ j is. (let ops : Some a.op ≡ Some (Op.Fork j) = sym by.event ∙ ap op_of is in let op : a.op ≡ Op.Fork j = cc in no_fork j op);
    }

stepped : (m : Module) (t : FlatThreads) (n : ℕ) (l k : FlatLife) (a : Asked) (answer : Answer) → Some l ≡ life_in t n → (gone : HasGoneOn m l a answer k)
    → IsStepped flat_meaning m.code (life_in t) n gone.reply (life_in (with_life t n k))
stepped m t n l k a answer lived gone = record { life = l; lived = sym lived; next = k; runs = gone.runs; guest = gone.guest; changes = lent_changes t n l k lived }

-- it alone may have ended
pub turned_settling : (m : Module) (input : List ℤ) (h : List Entry) (t : FlatThreads) (s r : Store) (n : ℕ) (l k : FlatLife) (a : Asked) (answer : Answer) → Serves m input h t s → Some l ≡ life_in t n → Asks m t n a
    → ((j : ℕ) → a.op ≡ Op.Fork j → ⊥) → IsTurned m input h n l a answer k r → IsSettling flat_meaning m.code n (life_in (with_life t n k))
turned_settling m input h t s r n l k a answer serves lived asks no_fork turned = by (stops answer) refl
  where
    by : (b : Bool) → stops answer ≡ b → IsSettling flat_meaning m.code n (life_in (with_life t n k))
    by true stop =
        let same : t ≡ with_life t n k = sym (lent_same t n l lived) ∙ ap (with_life t n) (sym (turned.stays stop)) in
        let tree = serves.threads.tree in
        subst (λ x. IsSettling flat_meaning m.code n (life_in x)) same (record { threads = tree.threads; going = λ j _. tree.going j })
    by false goes =
        let gone = (turned.goes_on goes).0 in
        stepped_settling flat_meaning m.code n gone.reply (life_in t) (life_in (with_life t n k)) serves.threads.tree (takes m t n l k a answer lived asks no_fork gone) (stepped m t n l k a answer lived gone)

-- and all goes on with the entry
on_with : (m : Module) (input : List ℤ) (h : List Entry) (t u : FlatThreads) (s r : Store) (n : ℕ) (l k : FlatLife) (a : Asked) (answer : Answer) → CanRun m → Serves m input h t s → Some l ≡ life_in t n → Asks m t n a
    → ((j : ℕ) → a.op ≡ Op.Fork j → ⊥) → IsTurned m input h n l a answer k r
    → (stops answer ≡ false → (gone : HasGoneOn m l a answer k) → IsFed flat_meaning m.code (life_in t) t.done n gone.reply (life_in u) u.done × IsTree flat_meaning m.code (life_in u))
    → IsPerformed m input h n a answer u r
on_with m input h t u s r n l k a answer can serves lived asks no_fork turned feeds = record {
  answers = turned.answers;
  goes_on = λ goes. (let on = turned.goes_on goes in
      let gone = on.0 in
      let fed = feeds goes gone in
      let by = asked_by m.code (running (life_in t n)) a asks in
      let kind = gone_kind m t n l k a answer lived by gone in
      record {
        threads = record {
          place = tree_fed m h (life_in t) (life_in u) t.done u.done (entry_of n a answer) gone.reply can.form serves.threads
              (record {
                life = by.life;
                runs = by.runs;
                told = record {
                  want = by.want;
                  wants = by.wants;
                  point = by.point;
                  event = by.event;
                  kind = kind.1;
                  tells = subst (λ x. Tells m.code x a.op answer gone.reply) by.stack gone.tells;
                };
              }) no_fork fed.0;
          tree = fed.1;
        };
        store = on.1;
      });
}

-- where what follows has settled
pub turned_on : (m : Module) (input : List ℤ) (h : List Entry) (t u : FlatThreads) (s r : Store) (n : ℕ) (l k : FlatLife) (a : Asked) (answer : Answer) (c : Code) → c ≡ m.code → CanRun m → Serves m input h t s → Some l ≡ life_in t n
    → Asks m t n a → ((j : ℕ) → a.op ≡ Op.Fork j → ⊥) → IsTurned m input h n l a answer k r
    → Settles flat_meaning c n (life_in (with_life t n k)) t.done (life_in u) u.done → IsTree flat_meaning c (life_in u) → IsPerformed m input h n a answer u r
turned_on m input h t u s r n l k a answer c code can serves lived asks no_fork turned settles tree =
    on_with m input h t u s r n l k a answer can serves lived asks no_fork turned (λ goes gone. (
      fed_to flat_meaning m.code n gone.reply (life_in t) (life_in (with_life t n k)) (life_in u) t.done t.done u.done (stepped m t n l k a answer lived gone) refl
          (subst (λ x. Settles flat_meaning x n (life_in (with_life t n k)) t.done (life_in u) u.done) code settles),
      subst (λ x. IsTree flat_meaning x (life_in u)) code tree,
    ))

-- and where the thread has not ended
pub turned_here : (m : Module) (input : List ℤ) (h : List Entry) (t : FlatThreads) (s r : Store) (n : ℕ) (l k : FlatLife) (a : Asked) (answer : Answer) (c : Code) → c ≡ m.code → CanRun m → Serves m input h t s → Some l ≡ life_in t n
    → Asks m t n a → ((j : ℕ) → a.op ≡ Op.Fork j → ⊥) → IsTurned m input h n l a answer k r → end_in (want_of flat_meaning c k) ≡ None → IsPerformed m input h n a answer (with_life t n k) r
turned_here m input h t s r n l k a answer c code can serves lived asks no_fork turned going =
    let settling = turned_settling m input h t s r n l k a answer serves lived asks no_fork turned in
    let none = not_ended flat_meaning m.code n (life_in t) (life_in (with_life t n k)) k (lent_changes t n l k lived) (ap (λ x. end_in (want_of flat_meaning x k)) (sym code) ∙ going) in
    on_with m input h t (with_life t n k) s r n l k a answer can serves lived asks no_fork turned (λ goes gone. (
      fed_here flat_meaning m.code n gone.reply (life_in t) (life_in (with_life t n k)) t.done t.done (stepped m t n l k a answer lived gone) refl none,
      settled_tree flat_meaning m.code n (life_in (with_life t n k)) settling none,
    ))
