-- A life takes the answer of its event.
use Rattle.std.proofs.Common.{◌≡◌, ℕ, List, ◌∷◌, true, false, Some, refl, sym, ◌∙◌, subst}
use Rattle.std.specs.Prelude.{ℤ}
use Rattle.tac_ir.specs.declared.code.Code.{Code}
use Rattle.tac_ir.specs.declared.run.Op.{Op}
use Rattle.tac_ir.specs.declared.run.Answer.{Answer}
use Rattle.tac_ir.specs.declared.run.Entry.{Entry}
use Rattle.tac_ir.specs.Module.{Module}
use Rattle.tac_ir.specs.Path.{stops}
use Rattle.tac_ir.specs.Answers.{IsAnswer}
use Rattle.code_layout.specs.LayoutOf.{IsLayoutOf}
use Rattle.tac_thread.specs.declared.flat.FlatStack.{FlatStack}
use Rattle.tac_thread.specs.declared.want.ReplyOf.{ReplyOf}
use Rattle.tac_thread.specs.Answered.{answered}
use Rattle.tac_thread.specs.RunsOn.{RunsOn}
use Rattle.tac_thread.specs.Guests.{IsGuestOf, TakesReply}
use Rattle.tac_thread.specs.Flat.{flat_meaning}
use Rattle.path_law.specs.Asked.{Tells}
use Rattle.path_law.specs.Standing.{FlatLife}
use Rattle.path_law.specs.Wants.{room_in}
use Rattle.path_law.specs.Replies.{reply_to, takes_no_stack}
use Rattle.path_law.proofs.Telling.{told_of, telling, replied_goes}
use Rattle.flat_core.specs.declared.ask.Asked.{Asked}
use Rattle.flat_core.specs.declared.store.Store.{Store}
use Rattle.flat_core.specs.tools.Asked.{entry_of}
use Rattle.flat_core.specs.Store.{IsStore, is_plain}
use Rattle.flat_core.specs.Serves.{FlatThreads, IsPerformed}
use Rattle.flat_core.specs.Turns.{AsksFor, IsTurned}
use Rattle.flat_core.proofs.Asking.{asked_of_life}

pub plain_takes_no_stack : (op : Op) → is_plain op ≡ true → takes_no_stack op ≡ true
plain_takes_no_stack (Op.Call f) plain = cc
plain_takes_no_stack (Op.Fork branches) plain = cc
plain_takes_no_stack op plain = refl

-- it may be told the answer of an event that takes no stack
pub takes_answered : (m : Module) (input : List ℤ) (h : List Entry) (l : FlatLife) (n room : ℕ) (a : Asked) (answer : Answer) (reply : ReplyOf ℕ FlatStack) (c : Code) → c ≡ m.code → AsksFor m l a
    → takes_no_stack a.op ≡ true → IsAnswer m input h n room a.op answer → reply_to answer ≡ Some reply → TakesReply flat_meaning c l reply
takes_answered m input h l n room a answer reply c code asks no_stack is replied =
    let by = asked_of_life m.code l a asks in
    let told = told_of m input h n room a.op answer no_stack is (replied_goes answer reply replied) in
    subst (λ k. TakesReply flat_meaning k l reply) (sym code) (by.want, by.wants, (telling m.code a.stack by.want a.op answer reply by.event told replied).kind)

-- and goes on
pub turned_by : (m : Module) (input : List ℤ) (h : List Entry) (l k : FlatLife) (r : Store) (n : ℕ) (a : Asked) (answer : Answer) (reply : ReplyOf ℕ FlatStack) (c : Code) → c ≡ m.code
    → IsAnswer m input h n (room_in a.stack) a.op answer → TakesReply flat_meaning c l reply → Tells m.code a.stack a.op answer reply → stops answer ≡ false
    → RunsOn flat_meaning c (answered flat_meaning c l reply) k → IsGuestOf flat_meaning c k → IsStore m input (entry_of n a answer ∷ h) r → IsTurned m input h n l a answer k r
turned_by m input h l k r n a answer reply c code is kind tells goes run guest store = record {
  answers = is;
  goes_on = λ _. (
    record {
      reply = reply;
      kind = subst (λ x. TakesReply flat_meaning x l reply) code kind;
      tells = tells;
      runs = subst (λ x. RunsOn flat_meaning x (answered flat_meaning x l reply) k) code run;
      guest = subst (λ x. IsGuestOf flat_meaning x k) code guest;
    },
    store,
  );
  stays = λ stop. (let clash : true ≡ false = sym stop ∙ goes in absurd (cc));
  layout = store.layout;
}

-- by an event that takes no stack
pub turned_told : (m : Module) (input : List ℤ) (h : List Entry) (l k : FlatLife) (r : Store) (n : ℕ) (a : Asked) (answer : Answer) (reply : ReplyOf ℕ FlatStack) (c : Code) → c ≡ m.code → AsksFor m l a
    → takes_no_stack a.op ≡ true → IsAnswer m input h n (room_in a.stack) a.op answer → reply_to answer ≡ Some reply
    → RunsOn flat_meaning c (answered flat_meaning c l reply) k → IsGuestOf flat_meaning c k → IsStore m input (entry_of n a answer ∷ h) r → IsTurned m input h n l a answer k r
turned_told m input h l k r n a answer reply c code asks no_stack is replied run guest store =
    let by = asked_of_life m.code l a asks in
    let goes = replied_goes answer reply replied in
    let told = told_of m input h n (room_in a.stack) a.op answer no_stack is goes in
    turned_by m input h l k r n a answer reply c code is (takes_answered m input h l n (room_in a.stack) a answer reply c code asks no_stack is replied)
    (telling m.code a.stack by.want a.op answer reply by.event told replied).tells goes run guest store

-- what stops the run does nothing more
pub turned_stop : (m : Module) (input : List ℤ) (h : List Entry) (l : FlatLife) (r : Store) (n : ℕ) (a : Asked) (answer : Answer) → IsAnswer m input h n (room_in a.stack) a.op answer → stops answer ≡ true
    → IsLayoutOf m.code r.layout → IsTurned m input h n l a answer l r
turned_stop m input h l r n a answer is stop laid = record { answers = is; goes_on = λ goes. (let clash : true ≡ false = sym stop ∙ goes in absurd (cc)); stays = λ _. refl; layout = laid }

pub stopped : (m : Module) (input : List ℤ) (h : List Entry) (u : FlatThreads) (r : Store) (n : ℕ) (a : Asked) (answer : Answer) → IsAnswer m input h n (room_in a.stack) a.op answer → stops answer ≡ true → IsPerformed m input h n a answer u r
stopped m input h u r n a answer is stop = record { answers = is; goes_on = λ goes. (let clash : true ≡ false = sym stop ∙ goes in absurd (cc)) }
