-- The threads of a run over objects, each told by its own entries.
use Rattle.std.specs.Prelude.{◌≡◌, ℕ, ◌%◌, Bool, true, false, Option, Some, None, List, [], ◌∷◌, ◌++◌}
use Rattle.dfi_base.specs.Lives.{Kind}
use Rattle.obj_mem.specs.declared.value.Value.{Value}
use Rattle.obj_mem.specs.declared.event.Stamp.{Stamp}
use Rattle.obj_mem.specs.Valid.{answer_of}
use Rattle.tac_ir.specs.declared.code.Code.{Code}
use Rattle.tac_ir.specs.declared.code.Instr.{Instr}
use Rattle.tac_thread.specs.declared.want.Want.{Want}
use Rattle.tac_thread.specs.Life.{instr_of}
use Rattle.tac_thread.specs.Doing.{want_of}
use Rattle.tac_thread.specs.Answered.{answered, joined}
use Rattle.tac_thread.specs.Begun.{root_of, branch_of}
use Rattle.tac_thread.specs.RunsOn.{RunsOn}
use Rattle.tac_thread.specs.Threads.{is_waiting, at_fork, ended_of}
use Rattle.obj_run.specs.Objects.{object_meaning, main_stack}
use Rattle.obj_run.specs.Asked.{event_of, number_of, reply_of}
use Rattle.obj_run.specs.Entries.{Entry, stamps_of}
use Rattle.obj_run.specs.tools.SoFar.{fork_in}
use Rattle.obj_run.specs.Runs.{ObjLife, is_zero, is_too_deep}

-- how many branches an entry starts: none where its thread is too deep
abbrev pub starts_by : Bool → Option ℕ → ℕ
starts_by true fork = 0
starts_by false None = 0
starts_by false (Some branches) = branches

abbrev pub starts_of : Entry → ℕ
starts_of e = starts_by (is_too_deep e.stamp.name.0 e.stamp.event) (fork_in e.stamp.event)

-- A life that began as s comes by these entries of its own, the newest first, to this one, at rest before its next event: told an answer,
-- behind the join of a fork, at a fork at which it waits for good, or where it divided by 0.
pub data LeadsTo (c : Code) (s : ObjLife) : List Entry → ObjLife → Type 0 where
  begins : (l : ObjLife) → RunsOn object_meaning c s l → LeadsTo c s [] l
  told : (e : Entry) (own : List Entry) (k l : ObjLife) → LeadsTo c s own k → is_waiting k.stage ≡ false → is_zero e.stamp.event ≡ false → fork_in e.stamp.event ≡ None
      → RunsOn object_meaning c (answered object_meaning c k (reply_of e.stamp.answer)) l → LeadsTo c s (e ∷ own) l
  joins : (e : Entry) (own : List Entry) (k l : ObjLife) (branches join : ℕ) (entries : List ℕ) → LeadsTo c s own k → is_waiting k.stage ≡ false → fork_in e.stamp.event ≡ Some branches
      → is_too_deep e.stamp.name.0 e.stamp.event ≡ false → instr_of c k.top ≡ Instr.Fork join entries → RunsOn object_meaning c (joined c k) l → LeadsTo c s (e ∷ own) l
  sticks : (e : Entry) (own : List Entry) (k : ObjLife) → LeadsTo c s own k → is_waiting k.stage ≡ false → is_too_deep e.stamp.name.0 e.stamp.event ≡ true → LeadsTo c s (e ∷ own) (at_fork k)
  traps : (e : Entry) (own : List Entry) (k : ObjLife) → LeadsTo c s own k → is_waiting k.stage ≡ false → is_zero e.stamp.event ≡ true → LeadsTo c s (e ∷ own) k

-- branch i of a life that forks by its newest entry begins so
pub record IsBranch (c : Code) (s : ObjLife) (own : List Entry) (i : ℕ) (b : ObjLife) : Type 0 where
  pub life : ObjLife
  pub leads : LeadsTo c s own life
  pub awake : is_waiting life.stage ≡ false
  pub begins : b ≡ branch_of object_meaning c life i life.top.stack

pub record IsWanted (c : Code) (s : ObjLife) (own : List Entry) (w : Want Value) : Type 0 where
  pub life : ObjLife
  pub leads : LeadsTo c s own life
  pub awake : is_waiting life.stage ≡ false
  pub going : ended_of object_meaning c (Some life) ≡ None
  pub wants : want_of object_meaning c life ≡ Some w

pub record HasStopped (c : Code) (s : ObjLife) (own : List Entry) : Type 0 where
  pub life : ObjLife
  pub leads : LeadsTo c s own life
  pub value : Option Value
  pub ended : ended_of object_meaning c (Some life) ≡ Some value

abbrev pub obj_threads : Code → Kind Entry ObjLife (Want Value)
obj_threads c = record {
  name_of = λ e. e.stamp.name.0;
  branches_of = starts_of;
  root = root_of object_meaning c main_stack;
  Branch = λ s own n b. IsBranch c s own (n % 16) b;
  Wants = λ s own w. IsWanted c s own w;
  Stops = λ s own. HasStopped c s own;
}

-- the entry is that of what is wanted, with the valid answer behind this history
pub record Fits (c : Code) (first : List Stamp) (h : List Entry) (w : Want Value) (e : Entry) : Type 0 where
  pub event : event_of c w ≡ Some e.stamp.event
  pub number : e.number ≡ number_of w
  pub answer : answer_of (stamps_of h ++ first) e.stamp.name.0 e.stamp.event ≡ Some e.stamp.answer
