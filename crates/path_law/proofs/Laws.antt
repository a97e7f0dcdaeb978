-- The laws.
use Rattle.std.proofs.Common.{◌≡◌, ℕ, ◌/◌, ◌≤◌, List, [], ◌∷◌, false, refl, Some}
use Rattle.tac_ir.specs.declared.code.Code.{Code}
use Rattle.tac_ir.specs.declared.run.Op.{Op}
use Rattle.tac_ir.specs.declared.run.Answer.{Answer}
use Rattle.tac_ir.specs.declared.run.Entry.{Entry}
use Rattle.tac_ir.specs.Module.{Module}
use Rattle.tac_ir.specs.GoodForm.{GoodForm}
use Rattle.tac_ir.specs.Path.{Start, stops}
use Rattle.tac_ir.specs.Threads.{root_start}
use Rattle.tac_thread.specs.declared.flat.FlatStack.{FlatStack}
use Rattle.tac_thread.specs.declared.want.Want.{Want}
use Rattle.tac_thread.specs.declared.want.ReplyOf.{ReplyOf}
use Rattle.tac_thread.specs.Doing.{want_of}
use Rattle.tac_thread.specs.RunsOn.{RunsOn}
use Rattle.tac_thread.specs.Begun.{root_of, branch_of}
use Rattle.tac_thread.specs.Answered.{answered, joined}
use Rattle.tac_thread.specs.Flat.{flat_meaning, with_share}
use Rattle.path_law.specs.Asked.{Tells}
use Rattle.path_law.specs.Standing.{FlatLife, IsAt}
use Rattle.path_law.specs.Begins.{root_stack, IsBranchAt}
use Rattle.path_law.specs.Wants.{room_in, IsThreadsWant}
use Rattle.path_law.specs.Told.{IsTold}
use Rattle.path_law.proofs.Silent.{runs_on}
use Rattle.path_law.proofs.Wants.{wanted, ends}
use Rattle.path_law.proofs.Begins.{root_at, branch_at}
use Rattle.path_law.proofs.Fed.{fed}
use Rattle.path_law.proofs.Joins.{never_bad, joined_at_path}

pub thread_one : (m : Module) (l : FlatLife) → RunsOn flat_meaning m.code (root_of flat_meaning m.code (root_stack m)) l → IsAt m.code (root_start m) [] l
thread_one m l run = runs_on m.code (root_start m) [] (root_of flat_meaning m.code (root_stack m)) l run (root_at m)

pub branches : (c : Code) (s : Start) (own : List Entry) (l b : FlatLife) (n i : ℕ) (stack : FlatStack) → IsAt c s own l → want_of flat_meaning c l ≡ Some (Want.Fork n) → 1 ≤ i
    → with_share (room_in l.top.stack / n) l.top.stack i ≡ Some stack → RunsOn flat_meaning c (branch_of flat_meaning c l i stack) b → IsBranchAt c s own i b
branches c s own l b n i stack now want from share run =
    let at = branch_at c s own l n i stack now want from share in
    record { start = at.start; forked = at.forked; stands = runs_on c at.start [] (branch_of flat_meaning c l i stack) b run at.stands }

pub threads_want : (c : Code) (s : Start) (own : List Entry) (l : FlatLife) (w : Want ℕ) → IsAt c s own l → want_of flat_meaning c l ≡ Some w → IsThreadsWant c s own l w
threads_want c s own l (Want.Ended v) now want = ends c s own l v now want
threads_want c s own l Want.Waits now want = tt
threads_want c s own l Want.Bad now want = absurd (never_bad c s own l now want)
threads_want c s own l w now want = wanted c s own l w _ now want refl

-- an answer that a reply tells does not stop
told_goes : (c : Code) (s : FlatStack) (op : Op) (answer : Answer) (reply : ReplyOf ℕ FlatStack) → Tells c s op answer reply → stops answer ≡ false
told_goes c s (Op.Call f) Answer.Unit (ReplyOf.Stack t) tells = refl
told_goes c s (Op.Call f) answer reply tells = absurd tells
told_goes c s op (Answer.Stop stop) reply tells = absurd tells
told_goes c s op answer reply tells = refl

pub answered_at_path : (c : Code) (s : Start) (own : List Entry) (l : FlatLife) (e : Entry) (reply : ReplyOf ℕ FlatStack) → GoodForm c → IsAt c s own l → IsTold c l e reply
    → IsAt c s (e ∷ own) (answered flat_meaning c l reply)
answered_at_path c s own l e reply good now told = fed c good s own l e told.want e.op reply now told.wants (record {
  is = told.event;
  kind = told.kind;
  tells = told.tells;
  point = told.point;
  event = refl;
  goes = told_goes c l.top.stack e.op e.answer reply told.tells;
})

pub answers : (c : Code) (s : Start) (own : List Entry) (l k : FlatLife) (e : Entry) (reply : ReplyOf ℕ FlatStack) → GoodForm c → IsAt c s own l → IsTold c l e reply
    → RunsOn flat_meaning c (answered flat_meaning c l reply) k → IsAt c s (e ∷ own) k
answers c s own l k e reply good now told run =
    runs_on c s (e ∷ own) (answered flat_meaning c l reply) k run (answered_at_path c s own l e reply good now told)

pub joins : (c : Code) (s : Start) (own : List Entry) (l k : FlatLife) → IsAt c s own l → want_of flat_meaning c l ≡ Some Want.Waits → RunsOn flat_meaning c (joined c l) k → IsAt c s own k
joins c s own l k now want run = runs_on c s own (joined c l) k run (joined_at_path c s own l now want).stands
