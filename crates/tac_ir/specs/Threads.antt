-- The threads of a run of a module.
use Rattle.std.specs.Prelude.{◌≡◌, ℕ, ◌+◌, ◌-◌, ◌*◌, ◌/◌, ◌%◌, true, Option, Some, None, List, slice_index, length}
use Rattle.dfi_base.specs.declared.numbers.Point.{Point}
use Rattle.dfi_base.specs.Lives.{Kind}
use Rattle.tac_ir.specs.declared.code.Code.{Code}
use Rattle.tac_ir.specs.declared.code.Instr.{Instr}
use Rattle.tac_ir.specs.declared.run.Op.{Op}
use Rattle.tac_ir.specs.declared.run.Answer.{Answer}
use Rattle.tac_ir.specs.declared.run.Entry.{Entry}
use Rattle.tac_ir.specs.Module.{Module}
use Rattle.tac_ir.specs.Layout.{stack_from, memory_words, frame_words, instr_at}
use Rattle.tac_ir.specs.Effect.{Spot, is_last}
use Rattle.tac_ir.specs.Path.{Step, Start, temp_of, next_spot, event_at, frame_end, base_of, IsPath}

-- the next event of a thread, its point, and the words that are left in the thread's region above its frames
pub record Want : Type 0 where
  pub point : Point
  pub op : Op
  pub room : ℕ

-- thread 1 begins at the entry of main, with main's frame at the first of the stacks' words
abbrev pub root_start : Module → Start
root_start m = record {
  point = record { fun = m.code.main; at = 0 };
  base = stack_from m.size;
  region = stack_from m.size + frame_words m.code m.code.main;
  region_end = memory_words m.size;
}

-- the words left in the region after these steps, above the frame of activation a
abbrev pub room_at : Code → Start → List Step → ℕ → ℕ
room_at c s steps a = s.region_end - frame_end c s steps a

-- branch i of a fork into n: it runs in the frame of the function that forked, with the i-th of n equal shares of the room
abbrev pub share_start : Code → Start → List Step → Spot → List ℕ → ℕ → Start
share_start c s steps spot entries i =
    let share = room_at c s steps spot.act / length entries in
    let region = frame_end c s steps spot.act + (i - 1) * share in
    record {
      point = record { fun = spot.point.fun; at = slice_index entries (i - 1) };
      base = base_of c s steps spot.act;
      region = region;
      region_end = region + share;
    }

abbrev pub IsForkedAt : Code → Start → List Step → Spot → ℕ → Instr → Start → Type 0
IsForkedAt c s steps spot i (Instr.Fork join entries) branch = branch ≡ share_start c s steps spot entries i
IsForkedAt c s steps spot i other branch = ⊥

-- after these entries a life that began so stands at a fork, and its branch i begins so
abbrev pub IsForked : Code → Start → List Entry → ℕ → Start → Type 0
IsForked c s own i branch =
    (steps : List Step) × IsPath c s steps own
    × IsForkedAt c s steps (next_spot c s steps) i (instr_at c (next_spot c s steps).point) branch

-- the first step without an entry that has an event is this
pub record IsWanted (c : Code) (s : Start) (own : List Entry) (w : Want) : Type 0 where
  pub steps : List Step
  pub path : IsPath c s steps own
  pub point : (next_spot c s steps).point ≡ w.point
  pub event : event_at c s steps (next_spot c s steps) ≡ Some w.op
  pub room : room_at c s steps (next_spot c s steps).act ≡ w.room

-- what the last instruction of a life ends with: main's return with the value of its temporary, an `end` with none
abbrev pub ended_with : (ℕ → ℕ) → Instr → Option ℕ
ended_with val (Instr.Ret a None) = Some (val a)
ended_with val i = None

-- the path of these entries has come to the last step of the life, which ends with this value
pub record EndsWith (c : Code) (s : Start) (own : List Entry) (v : Option ℕ) : Type 0 where
  pub steps : List Step
  pub path : IsPath c s steps own
  pub last : is_last (instr_at c (next_spot c s steps).point) ≡ true
  pub value : v ≡ ended_with (temp_of c s steps (next_spot c s steps).act) (instr_at c (next_spot c s steps).point)

-- the path has come to the end of the life
abbrev pub IsAtEnd : Code → Start → List Entry → Type 0
IsAtEnd c s own = (v : Option ℕ) × EndsWith c s own v

-- the branches that an entry starts
abbrev pub forked_by : Op → Answer → ℕ
forked_by (Op.Fork n) Answer.Unit = n
forked_by op answer = 0

-- the threads of a module
abbrev pub threads_of : Module → Kind Entry Start Want
threads_of m = record {
  name_of = λ e. e.name.0;
  branches_of = λ e. forked_by e.op e.answer;
  root = root_start m;
  Branch = λ parent own n branch. IsForked m.code parent own (n % 16) branch;
  Wants = IsWanted m.code;
  Stops = IsAtEnd m.code;
}
