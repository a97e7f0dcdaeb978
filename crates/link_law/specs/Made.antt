-- The call that made the frame in which a thread stands, and the one behind which it goes on.
use Rattle.std.specs.Prelude.{◌≡◌, ℕ, Some, List}
use Rattle.dfi_base.specs.Lives.{IsNext, own}
use Rattle.tac_ir.specs.declared.run.Entry.{Entry}
use Rattle.tac_ir.specs.Module.{Module}
use Rattle.tac_ir.specs.Layout.{instr_at}
use Rattle.tac_ir.specs.Effect.{Spot}
use Rattle.tac_ir.specs.NumberLaws.{new_call}
use Rattle.tac_ir.specs.Path.{Step, Start, next_spot, call_of, back_of, IsPath}
use Rattle.tac_ir.specs.Threads.{Want, threads_of}

-- After the entries h the thread of entry e is next, and its path has come to these steps: the frame in which it stands was made by this call.
pub record HasMaker (m : Module) (h : List Entry) (e : Entry) : Type 0 where
  pub start : Start
  pub want : Want
  pub next : IsNext (threads_of m) h e.name.0 start want
  pub steps : List Step
  pub path : IsPath m.code start steps (own (threads_of m) e.name.0 h)
  pub made : Spot
  pub call : call_of m.code steps (next_spot m.code start steps).act ≡ Some made

-- d is the definition of that call
pub record MadeBy (m : Module) (h : List Entry) (e : Entry) (d : ℕ) : Type 0 where
  pub maker : HasMaker m h e
  pub def : new_call (instr_at m.code maker.made.point) ≡ Some d

-- a return there goes on behind that call
pub record ReturnsHome (m : Module) (h : List Entry) (e : Entry) : Type 0 where
  pub maker : HasMaker m h e
  pub back : back_of m.code maker.steps (next_spot m.code maker.start maker.steps).act ≡ Some maker.made
