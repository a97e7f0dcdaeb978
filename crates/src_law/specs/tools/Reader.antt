-- The acts of a program, read by what one thread hears. Calls and turns of loops are so many at most, in one another and in turn.
use Rattle.std.specs.Prelude.{ℕ, zero, suc, nat_le, true, false, List, [], ◌∷◌, length}
use Rattle.c_typed.specs.Typed.{Typed}
use Rattle.obj_mem.specs.declared.Maker.{Maker}
use Rattle.obj_mem.specs.declared.value.Value.{Value}
use Rattle.obj_mem.specs.declared.event.Event.{Event}
use Rattle.src_law.specs.Acts.{End, done, Kind, a_value, a_truth, an_end, Result, Act, Acts, count}
use Rattle.src_law.specs.Traces.{turn}
use Rattle.src_law.specs.Program.{body, main_act}
use Rattle.src_law.specs.tools.Heard.{branch, got, ended, off, Reads, bind, asks, unit_of, result_of, frame_of, nothing_more}

abbrev pub Calls : Type 0
Calls = ℕ → Maker → List Value → Reads Value

abbrev pub Turns : Type 0
Turns = Act a_truth → Act an_end → Act an_end → Reads End

-- a branch ends where its statements are done and it hears nothing more
abbrev pub to_end : End → Reads End
to_end done [] = ended
to_end e l = off

-- behind a fork a thread goes on after the join, or it is a branch
abbrev pub parted : (ℕ → Reads End) → Reads End
parted branch_of (branch i ∷ l) = branch_of i l
parted branch_of l = got done l

abbrev mutual
  -- by what the body of a call does, and a turn that has begun
  pub reads_by : Calls → Turns → (k : Kind) → Act k → Reads (Result k)
  reads_by calls loops k (Act.gives x) l = got x l
  reads_by calls loops k (Act.does e is) l = bind (asks e l) (result_of k)
  reads_by calls loops k (Act.stops e last) l = bind (asks e l) nothing_more
  reads_by calls loops k (Act.then {j} a f) l = bind (reads_by calls loops j a l) (λ x. reads_by calls loops k (f x))
  reads_by calls loops k (Act.calls f vs) l = bind (bind (asks (Event.Call f) l) frame_of) (λ m. calls f m vs)
  reads_by calls loops k (Act.loops test inner step) l = bind (bind (asks Event.Turn l) unit_of) (λ u. loops test inner step)
  reads_by calls loops k (Act.forks branches) l =
      elim (nat_le (count branches) 15) [
        | true ↦ bind (bind (asks (Event.Fork (count branches)) l) unit_of) (λ u. parted (branch_by calls loops branches))
        | false ↦ off
      ]

  -- branch i, from 1
  pub branch_by : Calls → Turns → Acts → ℕ → Reads End
  branch_by calls loops Acts.no_more i l = off
  branch_by calls loops (Acts.beside a rest) zero l = off
  branch_by calls loops (Acts.beside a rest) (suc zero) l = bind (reads_by calls loops an_end a l) to_end
  branch_by calls loops (Acts.beside a rest) (suc (suc i)) l = branch_by calls loops rest (suc i) l

unfoldable mutual
  pub calls_at : (ℕ → Maker → List Value → Act a_value) → ℕ → ℕ → Maker → List Value → Reads Value
  calls_at body zero f m vs l = off
  calls_at body (suc n) f m vs l = reads_by (calls_at body n) (turns_at body n) a_value (body f m vs) l

  pub turns_at : (ℕ → Maker → List Value → Act a_value) → ℕ → Act a_truth → Act an_end → Act an_end → Reads End
  turns_at body zero test inner step l = off
  turns_at body (suc n) test inner step l = reads_by (calls_at body n) (turns_at body n) an_end (turn test inner step) l

abbrev pub reads : (ℕ → Maker → List Value → Act a_value) → ℕ → (k : Kind) → Act k → Reads (Result k)
reads body n = reads_by (calls_at body n) (turns_at body n)

-- what thread 1 does, by what it hears; each call and each turn hears an answer, so there are enough
abbrev pub source_reading : Typed → Reads Value
source_reading t l = reads (body t) (length l) a_value (main_act t) l
