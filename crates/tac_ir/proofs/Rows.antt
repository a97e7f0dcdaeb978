-- Runs of three small programs along names, by computation.
use Rattle.std.proofs.Common.{◌≡◌, ℕ, ◌/◌, ◌%◌, List, [], ◌∷◌, ◌++◌, reverse, true, false, refl, Option, Some, None}
use Rattle.std.specs.Prelude.{pos, codes}
use Rattle.std.specs.Fmt.{digits}
use Rattle.dfi_base.specs.Lives.{is_start_of, own}
use Rattle.tac_ir.specs.declared.code.Code.{Code}
use Rattle.tac_ir.specs.declared.code.Shape.{Shape}
use Rattle.tac_ir.specs.declared.code.Lined.{Lined}
use Rattle.tac_ir.specs.declared.code.Place.{Place}
use Rattle.tac_ir.specs.declared.code.Instr.{Instr}
use Rattle.tac_ir.specs.declared.module.Size.{Size}
use Rattle.tac_ir.specs.declared.run.Op.{Op}
use Rattle.tac_ir.specs.declared.run.Stop.{Stop}
use Rattle.tac_ir.specs.declared.run.Answer.{Answer}
use Rattle.tac_ir.specs.declared.run.Entry.{Entry}
use Rattle.tac_ir.specs.declared.run.End.{End}
use Rattle.tac_ir.specs.declared.run.Journal.{Journal}
use Rattle.tac_ir.specs.Module.{Module}
use Rattle.tac_ir.specs.Layout.{words_in, instr_at}
use Rattle.tac_ir.specs.Effect.{Spot}
use Rattle.tac_ir.specs.Path.{Step, Start, calls_in, call_of, frame_end, base_of, here_at, temp_of, next_spot, event_at}
use Rattle.tac_ir.specs.Threads.{Want, root_start, share_start, room_at, threads_of}
use Rattle.tac_ir.specs.Last.{starting, last_write}
use Rattle.tac_ir.specs.Answers.{read_answer, write_answer, call_answer, fork_answer}
use Rattle.tac_ir.specs.Text.{line_of_text, text_of}
use Rattle.tac_ir.proofs.Trace.{onto, trace}

-- The evaluator.

-- the steps of a life that began so, after these entries of its own
unfoldable pub steps_after : Code → Start → List Entry → List Step
steps_after c s own = trace c s 60 (onto own []) []

-- how branch i of an instruction begins
abbrev pub branch_by : Code → Start → List Step → Spot → ℕ → Instr → Start
branch_by c s steps spot i (Instr.Fork join entries) = share_start c s steps spot entries i
branch_by c s steps spot i other = s

-- how the life of thread n began
unfoldable pub start_of : Module → List Entry → ℕ → Start
start_of m [] n = root_start m
start_of m (e ∷ h) n = elim (is_start_of (threads_of m) n e) [
  | false ↦ start_of m h n
  | true ↦ (let parent = start_of m h (n / 16) in
      let steps = steps_after m.code parent (own (threads_of m) (n / 16) h) in
      let spot = next_spot m.code parent steps in
      branch_by m.code parent steps spot (n % 16) (instr_at m.code spot.point))
]

-- what thread n wants next
unfoldable want_of : Module → List Entry → ℕ → Option Want
want_of m h n =
    let s = start_of m h n in
    let steps = steps_after m.code s (own (threads_of m) n h) in
    let spot = next_spot m.code s steps in
    elim (event_at m.code s steps spot) [
      | None ↦ None
      | Some op ↦ Some (record { point = spot.point; op = op; room = room_at m.code s steps spot.act })
    ]

-- the answers of the events of these programs
abbrev answer_to : Module → List Entry → ℕ → ℕ → Op → Answer
answer_to m h n room (Op.Read r w) = read_answer m h r.0 w
answer_to m h n room (Op.Write d w v) = write_answer m w
answer_to m h n room (Op.Call f) = call_answer m room f
answer_to m h n room (Op.Fork branches) = fork_answer n room branches
answer_to m h n room op = Answer.Unit

-- the history after one more step of each of these threads
unfoldable along : Module → List ℕ → List Entry → List Entry
along m [] h = h
along m (n ∷ names) h = elim (want_of m h n) [
  | None ↦ along m names h
  | Some w ↦ along m names (record { name = record { 0 = n }; point = w.point; op = w.op; answer = answer_to m h n w.room w.op } ∷ h)
]

-- an instruction of a line
abbrev pub at_line : ℕ → Instr → Lined
at_line line instr = record { line = line; instr = instr }

-- an entry of a thread, at an index of a function
abbrev pub entry : ℕ → ℕ → ℕ → Op → Answer → Entry
entry n f at op answer = record { name = record { 0 = n }; point = record { fun = f; at = at }; op = op; answer = answer }

-- a read of a word
abbrev pub read : ℕ → ℕ → Op
read r w = Op.Read (record { 0 = r }) w

-- a write by a definition of a word and a value
abbrev pub write : ℕ → ℕ → ℕ → Op
write d w v = Op.Write (record { 0 = d }) w v

-- An index out of bounds. Line 1: int a[4]; 2: int x; 3: int main() { 4: x = 3; 5: a[i] = 9; 6: putint(x); 7: }

-- the module of this program for an index i
abbrev pub indexed : ℕ → Module
indexed i = record {
  size = Size.Small;
  classes = 1 ∷ 1 ∷ 2 ∷ 1 ∷ [];
  sets = (3 ∷ []) ∷ [];
  removed = false ∷ [];
  points = [];
  reach = [];
  code = record {
    shapes = Shape.Int ∷ Shape.Ptr ∷ Shape.Array 4 0 ∷ [];
    sites = [];
    main = 0;
    globals = record { shape = 2; start = pos 0; line = 1 } ∷ record { shape = 0; start = pos 0; line = 2 } ∷ [];
    funs = record {
      params = 0;
      vars = [];
      line = 3;
      code =
          at_line 4 (Instr.Const 0 (pos 3)) ∷ at_line 4 (Instr.Set (Place.Global 1 []) 0 3)
          ∷ at_line 5 (Instr.Addr 1 (Place.Global 0 [])) ∷ at_line 5 (Instr.Decay 2 1 2) ∷ at_line 5 (Instr.Const 3 (pos i))
          ∷ at_line 5 (Instr.Index 4 2 3 1) ∷ at_line 5 (Instr.Const 5 (pos 9)) ∷ at_line 5 (Instr.Store 4 5 4)
          ∷ at_line 6 (Instr.Get 6 (Place.Global 1 []) 1) ∷ at_line 6 (Instr.Out 6)
          ∷ at_line 7 (Instr.Const 7 (pos 0)) ∷ at_line 7 (Instr.Ret 7 None) ∷ [];
    } ∷ [];
  };
}

-- the journal for the index 4
abbrev pub outside : Journal
outside = record {
  entries = entry 1 0 1 (write 3 20 3) Answer.Unit ∷ entry 1 0 7 (write 4 20 9) Answer.Unit ∷ entry 1 0 8 (read 1 20) (Answer.Stop (Stop.Alarm 1)) ∷ [];
  end = End.Alarm;
}

-- the journal for the index 3
abbrev pub inside : Journal
inside = record {
  entries = entry 1 0 1 (write 3 20 3) Answer.Unit ∷ entry 1 0 7 (write 4 19 9) Answer.Unit ∷ entry 1 0 8 (read 1 20) (Answer.Value 3) ∷ entry 1 0 9 (Op.Out (pos 3)) Answer.Unit ∷ [];
  end = End.Done (pos 0);
}

-- behind the array stands x, whose read finds another writer
outside_row : along (indexed 4) (1 ∷ 1 ∷ 1 ∷ []) [] ≡ reverse outside.entries
unfolding along want_of start_of steps_after trace own next_spot event_at here_at temp_of calls_in call_of frame_end base_of last_write starting words_in
outside_row = refl

outside_text : text_of (indexed 4) outside ≡ line_of_text (codes "alarm read 1 line 6 word 20") ++ line_of_text (codes "found class 1 definition 4 line 5") ++ line_of_text (codes "allowed 2")
unfolding text_of digits last_write starting words_in
outside_text = refl

inside_row : along (indexed 3) (1 ∷ 1 ∷ 1 ∷ 1 ∷ []) [] ≡ reverse inside.entries
unfolding along want_of start_of steps_after trace own next_spot event_at here_at temp_of calls_in call_of frame_end base_of last_write starting words_in
inside_row = refl

inside_text : text_of (indexed 3) inside ≡ line_of_text (codes "3") ++ line_of_text (codes "end 0")
unfolding text_of digits
inside_text = refl

-- A write over a return link. Line 1: int f(int *p) { 2: p[i] = 1; 3: return 0; 4: } 5: int main() { 6: int a[2]; 7: f(a); 8: putint(4); 9: }

-- the module of this program for an index i
abbrev pub overrun : ℕ → Module
overrun i = record {
  size = Size.Small;
  classes = 1 ∷ 2 ∷ 3 ∷ [];
  sets = (1 ∷ []) ∷ (3 ∷ []) ∷ (3 ∷ []) ∷ [];
  removed = false ∷ false ∷ false ∷ [];
  points = [];
  reach = [];
  code = record {
    shapes = Shape.Int ∷ Shape.Ptr ∷ Shape.Array 2 0 ∷ [];
    globals = [];
    sites = [];
    main = 1;
    funs =
        record {
          params = 1;
          vars = 1 ∷ [];
          line = 1;
          code =
              at_line 1 (Instr.Set (Place.Local 0 []) 0 1)
              ∷ at_line 2 (Instr.Get 1 (Place.Local 0 []) 1) ∷ at_line 2 (Instr.Const 2 (pos i)) ∷ at_line 2 (Instr.Index 3 1 2 1) ∷ at_line 2 (Instr.Const 4 (pos 1)) ∷ at_line 2 (Instr.Store 3 4 2)
              ∷ at_line 3 (Instr.Const 5 (pos 0)) ∷ at_line 3 (Instr.Ret 5 (Some 2)) ∷ at_line 4 (Instr.Const 6 (pos 0)) ∷ at_line 4 (Instr.Ret 6 (Some 3)) ∷ [];
        }
        ∷ record {
          params = 0;
          vars = 2 ∷ [];
          line = 5;
          code =
              at_line 7 (Instr.Addr 0 (Place.Local 0 [])) ∷ at_line 7 (Instr.Decay 1 0 2) ∷ at_line 7 (Instr.Call 2 0 3 (1 ∷ []))
              ∷ at_line 8 (Instr.Const 3 (pos 4)) ∷ at_line 8 (Instr.Out 3) ∷ at_line 9 (Instr.Const 4 (pos 0)) ∷ at_line 9 (Instr.Ret 4 None) ∷ [];
        } ∷ [];
  };
}

-- the call, the write of its link, and the write and the read of p
abbrev called : List Entry
called = entry 1 1 2 (Op.Call 0) Answer.Unit ∷ entry 1 1 2 (write 3 32771 3) Answer.Unit ∷ entry 1 0 0 (write 1 32772 32769) Answer.Unit ∷ entry 1 0 1 (read 1 32772) (Answer.Value 32769) ∷ []

-- the link is overwritten, and its read finds it
link_row : along (overrun 2) (1 ∷ 1 ∷ 1 ∷ 1 ∷ 1 ∷ 1 ∷ []) []
    ≡ reverse (called ++ entry 1 0 5 (write 2 32771 1) Answer.Unit ∷ entry 1 0 7 (read 2 32771) (Answer.Stop (Stop.Alarm 2)) ∷ [])
unfolding along want_of start_of steps_after trace own next_spot event_at here_at temp_of calls_in call_of frame_end base_of last_write starting words_in
link_row = refl

-- within the array the call returns
return_row : along (overrun 1) (1 ∷ 1 ∷ 1 ∷ 1 ∷ 1 ∷ 1 ∷ 1 ∷ 1 ∷ []) []
    ≡ reverse (called ++ entry 1 0 5 (write 2 32770 1) Answer.Unit ∷ entry 1 0 7 (read 2 32771) (Answer.Value 3) ∷ entry 1 0 7 Op.Ret Answer.Unit ∷ entry 1 1 4 (Op.Out (pos 4)) Answer.Unit ∷ [])
unfolding along want_of start_of steps_after trace own next_spot event_at here_at temp_of calls_in call_of frame_end base_of last_write starting words_in
return_row = refl

-- Two branches. Line 1: int x; 2: int y; 3: int main() { 4: x = 1; 5: par { { x = 2; } { y = x; } } 6: putint(y); 7: }

-- the module of this program
abbrev pub branching : Module
branching = record {
  size = Size.Small;
  classes = 1 ∷ 1 ∷ 2 ∷ 2 ∷ 3 ∷ [];
  sets = (3 ∷ 4 ∷ []) ∷ (5 ∷ []) ∷ [];
  removed = false ∷ false ∷ [];
  points = [];
  reach = [];
  code = record {
    shapes = Shape.Int ∷ Shape.Ptr ∷ [];
    sites = [];
    main = 0;
    globals = record { shape = 0; start = pos 0; line = 1 } ∷ record { shape = 0; start = pos 0; line = 2 } ∷ [];
    funs = record {
      params = 0;
      vars = [];
      line = 3;
      code =
          at_line 4 (Instr.Const 0 (pos 1)) ∷ at_line 4 (Instr.Set (Place.Global 0 []) 0 3) ∷ at_line 5 (Instr.Fork 9 (3 ∷ 6 ∷ []))
          ∷ at_line 5 (Instr.Const 1 (pos 2)) ∷ at_line 5 (Instr.Set (Place.Global 0 []) 1 4) ∷ at_line 5 Instr.End
          ∷ at_line 5 (Instr.Get 2 (Place.Global 0 []) 1) ∷ at_line 5 (Instr.Set (Place.Global 1 []) 2 5) ∷ at_line 5 Instr.End
          ∷ at_line 6 (Instr.Get 3 (Place.Global 1 []) 2) ∷ at_line 6 (Instr.Out 3) ∷ at_line 7 (Instr.Const 4 (pos 0)) ∷ at_line 7 (Instr.Ret 4 None) ∷ [];
    } ∷ [];
  };
}

-- the entries along 1 1 17 18 18 1 1
abbrev pub branched : List Entry
branched =
    entry 1 0 1 (write 3 16 1) Answer.Unit ∷ entry 1 0 2 (Op.Fork 2) Answer.Unit ∷ entry 17 0 4 (write 4 16 2) Answer.Unit
    ∷ entry 18 0 6 (read 1 16) (Answer.Value 2) ∷ entry 18 0 7 (write 5 17 2) Answer.Unit
    ∷ entry 1 0 9 (read 2 17) (Answer.Value 2) ∷ entry 1 0 10 (Op.Out (pos 2)) Answer.Unit ∷ []

-- the second branch reads what the first wrote
branch_row : along branching (1 ∷ 1 ∷ 17 ∷ 18 ∷ 18 ∷ 1 ∷ 1 ∷ []) [] ≡ reverse branched
unfolding along want_of start_of steps_after trace own next_spot event_at here_at temp_of calls_in call_of frame_end base_of last_write starting words_in
branch_row = refl
