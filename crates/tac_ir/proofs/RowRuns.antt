-- The journals of the first two rows are runs along the least runnable names.
use Rattle.std.proofs.Common.{◌≡◌, ℕ, List, [], ◌∷◌, reverse, refl, Some, arith, sym, subst}
use Rattle.std.specs.Prelude.{pos}
use Rattle.dfi_base.specs.Lives.{own, Begins, BeginsIn, Ended, IsNext, branches_after}
use Rattle.dfi_base.specs.Lives.EndedIn.{ended}
use Rattle.tac_ir.specs.declared.run.Entry.{Entry}
use Rattle.tac_ir.specs.Module.{Module}
use Rattle.tac_ir.specs.Layout.{words_in}
use Rattle.tac_ir.specs.Path.{Step, IsPath, calls_in, call_of, frame_end, base_of, here_at, temp_of, next_spot, event_at}
use Rattle.tac_ir.specs.Threads.{Want, EndsWith, root_start, room_at, threads_of}
use Rattle.tac_ir.specs.Last.{starting, last_write}
use Rattle.tac_ir.specs.Answers.{IsAnswer}
use Rattle.tac_ir.specs.CoreRun.{GoesOn, Follows, IsHistory, Returns, IsByLeast, LeastRun}
use Rattle.tac_ir.proofs.Trace.{trace}
use Rattle.tac_ir.proofs.Living.{never_zero, next_not_ended, stopped_not_ended}
use Rattle.tac_ir.proofs.Rows.{indexed, inside, outside, steps_after}

-- the steps of thread 1
abbrev main_steps : Module → List Entry → List Step
main_steps m h = steps_after m.code (root_start m) (own (threads_of m) 1 h)

-- after the history h, in which nothing forks, main wants this
record MainWants (m : Module) (h : List Entry) (want : Want) : Type 0 where
  begins : Begins (threads_of m) h 1 (root_start m)
  path : IsPath m.code (root_start m) (main_steps m h) (own (threads_of m) 1 h)
  alone : branches_after (threads_of m) (own (threads_of m) 1 h) ≡ 0
  point : (next_spot m.code (root_start m) (main_steps m h)).point ≡ want.point
  event : event_at m.code (root_start m) (main_steps m h) (next_spot m.code (root_start m) (main_steps m h)) ≡ Some want.op
  room : room_at m.code (root_start m) (main_steps m h) (next_spot m.code (root_start m) (main_steps m h)).act ≡ want.room

-- main is next
main_next : (m : Module) (h : List Entry) (want : Want) → MainWants m h want → IsNext (threads_of m) h 1 (root_start m) want
main_next m h want w = record {
  begins = w.begins;
  wants = record { steps = main_steps m h; path = w.path; point = w.point; event = w.event; room = w.room };
  joined = λ i low high. absurd (omega (arith, w.alone));
}

-- the words left above main's frame, which is its link alone
abbrev main_room : ℕ
main_room = 32767

-- what main wanted before this entry
abbrev want_by : Entry → Want
want_by e = record { point = e.point; op = e.op; room = main_room }

-- each entry is what main wanted, with its answer; the newest first
abbrev MainHistory : Module → List Entry → Type 0
MainHistory m [] = Unit {0}
MainHistory m (e ∷ h) = (e.name.0 ≡ 1) × MainWants m h (want_by e) × IsAnswer m [] h 1 main_room e.op e.answer × GoesOn h × MainHistory m h

-- what main wanted follows
main_follows : (m : Module) (h : List Entry) (e : Entry) → e.name.0 ≡ 1 → MainWants m h (want_by e) → IsAnswer m [] h 1 main_room e.op e.answer → GoesOn h → Follows m [] h e
main_follows m h e name w answer going =
    let next = main_next m h (want_by e) w in
    record {
      start = root_start m;
      want = want_by e;
      next = subst (λ n. IsNext (threads_of m) h n (root_start m) (want_by e)) (sym name) next;
      point = refl;
      op = refl;
      answer = subst (λ n. IsAnswer m [] h n main_room e.op e.answer) (sym name) answer;
      going = going;
      living = next_not_ended m h 1 (root_start m) (want_by e) next;
    }

-- such entries are a history
main_history : (m : Module) (h : List Entry) → MainHistory m h → IsHistory m [] h
unfolding IsHistory
main_history m [] a = tt
main_history m (e ∷ h) a = (main_follows m h e a.0 a.1 a.2 a.3, main_history m h a.4)

-- no runnable name is less than that of main
main_least : (m : Module) (h : List Entry) → MainHistory m h → IsByLeast m h
unfolding IsByLeast
main_least m [] a = tt
main_least m (e ∷ h) a = (λ n l r. absurd (never_zero m h r.0 (subst (λ k. Begins (threads_of m) h k r.0) (omega (arith, a.0)) r.2.begins)), main_least m h a.4)

-- each entry within the array follows
inside_history : MainHistory (indexed 3) (reverse inside.entries)
unfolding steps_after trace own BeginsIn IsPath next_spot event_at here_at temp_of calls_in call_of frame_end base_of last_write starting words_in
inside_history = assumption (refl, tt)

-- and main returns 0
inside_returns : Returns (indexed 3) (reverse inside.entries) (pos 0)
unfolding steps_after trace own BeginsIn IsPath next_spot event_at here_at temp_of calls_in call_of frame_end base_of words_in
inside_returns =
    let h = reverse inside.entries in
    let start = root_start (indexed 3) in
    let path : IsPath (indexed 3).code start (main_steps (indexed 3) h) (own (threads_of (indexed 3)) 1 h) = assumption (refl, tt) in
    let last : EndsWith (indexed 3).code start (own (threads_of (indexed 3)) 1 h) (Some 0) = record { steps = main_steps (indexed 3) h; path = path; last = refl; value = refl } in
    record {
      start = start;
      begins = (refl, refl);
      word = 0;
      last = last;
      value = refl;
      ended = ended 1 start (refl, refl) (Some 0, last) (λ i low high. absurd (omega arith));
    }

-- within the array, the whole run
inside_run : LeastRun (indexed 3) [] 1000000 inside
inside_run = record {
  run = record { history = main_history _ _ inside_history; within = omega arith; end = inside_returns };
  least = main_least _ _ inside_history;
  whole = λ e. cc;
}

-- each entry outside it follows
outside_history : MainHistory (indexed 4) (reverse outside.entries)
unfolding steps_after trace own BeginsIn IsPath next_spot event_at here_at temp_of calls_in call_of frame_end base_of last_write starting words_in
outside_history = assumption (refl, tt)

-- thread 1 has not ended where it was stopped
outside_lives : Ended (threads_of (indexed 4)) (reverse outside.entries) 1 → ⊥
unfolding own
outside_lives = stopped_not_ended (indexed 4) (reverse outside.entries) 1 _ _ refl refl

-- outside it, the whole run
outside_run : LeastRun (indexed 4) [] 1000000 outside
outside_run = record {
  run = record { history = main_history _ _ outside_history; within = omega arith; end = (outside_lives, refl) };
  least = main_least _ _ outside_history;
  whole = λ e. cc;
}
