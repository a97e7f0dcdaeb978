-- Events of a guest: it begins, goes on, stops the run, forks, ends, and is left off.
use Rattle.std.proofs.Common.{◌≡◌, ℕ, ◌+◌, ◌*◌, ◌%◌, ◌≤◌, List, [], ◌∷◌, true, refl, arith, sym, subst, Option, Some, None}
use Rattle.std.proofs.lemmas.List.Elements.{All-nil}
use Rattle.dfi_base.specs.Lives.{own, branches_after}
use Rattle.dfi_base.specs.Lives.EndedIn.{ended}
use Rattle.dfi_base.specs.Grown.{IsGrown, AreFew}
use Rattle.dfi_base.proofs.Entries.{first_begins, own_mine, starts_branch}
use Rattle.dfi_base.proofs.Growing.{goes_on, branch_begins}
use Rattle.tac_ir.specs.declared.code.Code.{Code}
use Rattle.tac_ir.specs.declared.run.Entry.{Entry}
use Rattle.tac_ir.specs.declared.run.Op.{Op}
use Rattle.tac_ir.specs.declared.run.Answer.{Answer}
use Rattle.tac_ir.specs.Module.{Module}
use Rattle.tac_ir.specs.GoodForm.{GoodForm}
use Rattle.tac_ir.specs.Path.{Start, stops}
use Rattle.tac_ir.specs.Threads.{threads_of, forked_by, IsForked, IsWanted}
use Rattle.tac_thread.specs.declared.flat.FlatStack.{FlatStack}
use Rattle.tac_thread.specs.declared.want.Want.{Want}
use Rattle.tac_thread.specs.declared.want.ReplyOf.{ReplyOf}
use Rattle.tac_thread.specs.Doing.{want_of}
use Rattle.tac_thread.specs.RunsOn.{RunsOn}
use Rattle.tac_thread.specs.Answered.{answered}
use Rattle.tac_thread.specs.Flat.{flat_meaning}
use Rattle.tac_thread.proofs.Forking.{few_branches}
use Rattle.path_law.specs.Standing.{FlatLife, IsAt, point_of}
use Rattle.path_law.specs.Asked.{op_of}
use Rattle.path_law.specs.Wants.{next_of, IsThreadsWant}
use Rattle.path_law.specs.Told.{IsTold}
use Rattle.path_law.proofs.Laws.{threads_want, answers}
use Rattle.merge_law.specs.Logs.{FitsWant, IsLogOf}
use Rattle.merge_law.specs.Guests.{IsAtWork, IsOfBranch}
use Rattle.merge_law.specs.GuestLaws.{Begins, IsOwnAnswer, GoesOn, Stops, Forks, Branches, Ends, IsLeft}
use Rattle.merge_law.proofs.runs.Stops.{stop_now}

pub begins : Begins
unfolding IsGrown AreFew own
begins m n s l stands = record { log = record { grown = tt; few = tt }; stands = stands; joined = λ i low high. absurd (omega (arith, low, high)) }

-- the event that a life wants
wanted_by : (c : Code) (s : Start) (own : List Entry) (l : FlatLife) (w : Want ℕ) (op : Op) → IsThreadsWant c s own l w → op_of w ≡ Some op → IsWanted c s own (next_of l op)
wanted_by c s own l (Want.Ended v) op is some = cc
wanted_by c s own l Want.Waits op is some = cc
wanted_by c s own l Want.Bad op is some = cc
wanted_by c s own l w op is some = subst (λ o. from o) some is
  where
    from : Option Op → Type 0
    from None = ⊥
    from (Some p) = IsWanted c s own (next_of l p)

pub wants_op : (m : Module) (n : ℕ) (s : Start) (h : List Entry) (l : FlatLife) (w : Want ℕ) (op : Op) → IsAtWork m n s h l → want_of flat_meaning m.code l ≡ Some w → op_of w ≡ Some op
    → IsWanted m.code s (own (threads_of m) n h) (next_of l op)
wants_op m n s h l w op work want some = wanted_by m.code s (own (threads_of m) n h) l w op (threads_want m.code s (own (threads_of m) n h) l w work.stands want) some

one_entry : (m : Module) (n : ℕ) (s : Start) (h : List Entry) (l : FlatLife) (w : Want ℕ) (e : Entry) → IsAtWork m n s h l → e.name.0 ≡ n → want_of flat_meaning m.code l ≡ Some w → op_of w ≡ Some e.op
    → e.point ≡ point_of l.top → IsOwnAnswer m l e → forked_by e.op e.answer ≤ 15 → IsLogOf m n s (e ∷ h)
unfolding AreFew
one_entry m n s h l w e work name want event point answer few = record {
  grown = goes_on (threads_of m) (λ past. FitsWant m) n s h e (next_of l e.op) work.log.grown name (wants_op m n s h l w e.op work want event) work.joined
      (record { point = point; op = refl; answer = answer });
  few = (few, work.log.few);
}

told_entry : (m : Module) (n : ℕ) (s : Start) (h : List Entry) (l : FlatLife) (e : Entry) (reply : ReplyOf ℕ FlatStack) → IsAtWork m n s h l → e.name.0 ≡ n → IsTold m.code l e reply
    → IsOwnAnswer m l e → forked_by e.op e.answer ≤ 15 → IsLogOf m n s (e ∷ h)
told_entry m n s h l e reply work name told answer few = one_entry m n s h l told.want e work name told.wants told.event told.point answer few

stands_on : (m : Module) (n : ℕ) (s : Start) (h : List Entry) (l next : FlatLife) (e : Entry) (reply : ReplyOf ℕ FlatStack) → GoodForm m.code → IsAtWork m n s h l → e.name.0 ≡ n → IsTold m.code l e reply
    → RunsOn flat_meaning m.code (answered flat_meaning m.code l reply) next → IsAt m.code s (own (threads_of m) n (e ∷ h)) next
stands_on m n s h l next e reply good work name told run =
    subst (λ o. IsAt m.code s o next) (sym (own_mine (threads_of m) n e h name)) (answers m.code s (own (threads_of m) n h) l next e reply good work.stands told run)

pub on : GoesOn
on m n s h l next e reply good work name told answer none run = record {
  log = told_entry m n s h l e reply work name told answer (omega (arith, none));
  stands = stands_on m n s h l next e reply good work name told run;
  joined = λ i low high. absurd (
      (let within : i ≤ forked_by e.op e.answer = subst (λ o. i ≤ branches_after (threads_of m) o) (own_mine (threads_of m) n e h name) high in
      omega (arith, none, within, low)));
}

stop_forks_none : (op : Op) (answer : Answer) → stops answer ≡ true → forked_by op answer ≡ 0
stop_forks_none op (Answer.Stop stop) is = by op
  where
    by : (o : Op) → forked_by o (Answer.Stop stop) ≡ 0
    by (Op.Fork n) = refl
    by o = refl
stop_forks_none op Answer.Unit is = cc
stop_forks_none op (Answer.Value v) is = cc

pub halts : Stops
halts m n s h l e want work name is event point answer stop =
    (one_entry m n s h l want e work name is event point answer (let none = stop_forks_none e.op e.answer stop in omega (arith, none)), stop_now e h stop)

-- an entry of what a guest wants starts few branches
few_forked : (m : Module) (l : FlatLife) (w : Want ℕ) (op : Op) (answer : Answer) → GoodForm m.code → want_of flat_meaning m.code l ≡ Some w → op_of w ≡ Some op → forked_by op answer ≤ 15
few_forked m l w op answer good want is = by op answer is
  where
    fork_of : (x : Want ℕ) (n : ℕ) → op_of x ≡ Some (Op.Fork n) → x ≡ Want.Fork n
    fork_of (Want.Fork k) n same = cc
    fork_of x n same = cc

    by : (o : Op) (a : Answer) → op_of w ≡ Some o → forked_by o a ≤ 15
    by (Op.Fork n) Answer.Unit same = few_branches flat_meaning m.code l n good (subst (λ x. want_of flat_meaning m.code l ≡ Some x) (fork_of w n same) want)
    by (Op.Fork n) a same = omega arith
    by o a same = omega arith

pub forks : Forks
forks m n s h l next e reply good work name told answer run = record {
  log = told_entry m n s h l e reply work name told answer (few_forked m l told.want e.op e.answer good told.wants told.event);
  stands = stands_on m n s h l next e reply good work name told run;
  newer = [];
  is = refl;
  names = All-nil (IsOfBranch n 0);
  gone = λ i low high. absurd (omega (arith, low, high));
}

pub branches : Branches
branches m n s h l b e i work name low high few at =
    let k = threads_of m in
    let digit : i ≡ (16 * n + i) % 16 = omega (arith, few) in
    let both = branch_begins k (λ past. FitsWant m) n s h e (16 * n + i) at.start work.log.grown (starts_branch k n i e name low high few) (omega (arith, few))
    (subst (λ x. IsForked m.code s (own k n h) x at.start) digit at.forked) in
    (record { begins = both.0; none = both.1 }, begins m (16 * n + i) at.start b at.stands)

pub ends : Ends
ends m n s h l v work want =
    let at = threads_want m.code s (own (threads_of m) n h) l (Want.Ended v) work.stands want in
    ended n s (first_begins (threads_of m) n s (λ past. FitsWant m) h work.log.grown) (v, at) work.joined

pub left : IsLeft
left m n s h l want op work is some = (
  n,
  (
    s,
    next_of l op,
    record {
      begins = first_begins (threads_of m) n s (λ past. FitsWant m) h work.log.grown;
      wants = wants_op m n s h l want op work is some;
      joined = work.joined;
    },
  ),
)
