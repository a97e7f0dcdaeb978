-- One view of an answered event of a life that stands ready: the instruction at which it stands, the event, and the answer.
use Rattle.std.specs.Prelude.{◌≡◌, ℕ, ◌+◌, ℤ, pos, Bool, true, List, length, Some}
use Rattle.obj_mem.specs.declared.value.Value.{Value}
use Rattle.obj_mem.specs.declared.event.Event.{Event}
use Rattle.obj_mem.specs.declared.event.SrcAnswer.{SrcAnswer}
use Rattle.obj_mem.specs.declared.event.Stamp.{Stamp}
use Rattle.obj_mem.specs.Objects.{whole_of}
use Rattle.obj_mem.specs.Alive.{next_maker, next_block}
use Rattle.obj_mem.specs.Input.{numbers_left, first_or_0}
use Rattle.obj_mem.specs.Valid.{read_at, write_at, compared, freed, number}
use Rattle.tac_ir.specs.declared.code.Code.{Code}
use Rattle.tac_ir.specs.declared.code.BinOp.{BinOp}
use Rattle.tac_ir.specs.declared.code.Place.{Place}
use Rattle.tac_ir.specs.declared.code.Instr.{Instr}
use Rattle.tac_thread.specs.declared.guest.Activation.{Activation}
use Rattle.tac_thread.specs.Meaning.{divides_by_zero}
use Rattle.tac_thread.specs.Life.{temp}
use Rattle.obj_run.specs.declared.values.ObjStack.{ObjStack}
use Rattle.obj_run.specs.Objects.{object_meaning, place_of, first_heap_site}
use Rattle.obj_run.specs.Asked.{item_words}

abbrev pub ObjActivation : Type 0
ObjActivation = Activation Value ObjStack

-- the value of a temporary
abbrev pub value_in : ObjActivation → ℕ → Value
value_in x t = temp object_meaning x t

-- the word at a place of an activation
abbrev pub word_at : Code → ObjActivation → Place → Value
word_at c x place = place_of c x.fun x.stack place

-- behind the stamps h thread n did this in activation x
pub data Did (c : Code) (h : List Stamp) (n : ℕ) (x : ObjActivation) : Instr → Event → SrcAnswer → Type 0 where
  gets : (to r : ℕ) (place : Place) (v : Value) → read_at h (word_at c x place) ≡ Some (SrcAnswer.Value v) → Did c h n x (Instr.Get to place r) (Event.Rd (word_at c x place)) (SrcAnswer.Value v)
  loads : (to a r : ℕ) (v : Value) → read_at h (value_in x a) ≡ Some (SrcAnswer.Value v) → Did c h n x (Instr.Load to a r) (Event.Rd (value_in x a)) (SrcAnswer.Value v)
  sets : (place : Place) (a d : ℕ) → write_at h (word_at c x place) ≡ Some SrcAnswer.Unit → Did c h n x (Instr.Set place a d) (Event.Wr (word_at c x place) (value_in x a)) SrcAnswer.Unit
  stores : (a b d : ℕ) → write_at h (value_in x a) ≡ Some SrcAnswer.Unit → Did c h n x (Instr.Store a b d) (Event.Wr (value_in x a) (value_in x b)) SrcAnswer.Unit
  compares : (to a b : ℕ) (ne same : Bool) → compared h (value_in x a) (value_in x b) ne ≡ Some (number same)
      → Did c h n x (Instr.Same to ne a b) (Event.Same (value_in x a) (value_in x b) ne) (number same)
  news : (to a site : ℕ) (k : ℤ) → value_in x a ≡ Value.Int k
      → Did c h n x (Instr.New to a site) (Event.New (first_heap_site c + site) k (item_words c site)) (SrcAnswer.Value (whole_of (next_block n h (first_heap_site c + site) k (item_words c site))))
  frees : (a : ℕ) → freed h (value_in x a) ≡ Some SrcAnswer.Unit → Did c h n x (Instr.Free a) (Event.Free (value_in x a)) SrcAnswer.Unit
  ins : (to : ℕ) → Did c h n x (Instr.In to) Event.In (SrcAnswer.Value (Value.Int (first_or_0 (numbers_left h))))
  lefts : (to : ℕ) → Did c h n x (Instr.Left to) Event.Left (SrcAnswer.Value (Value.Int (pos (length (numbers_left h)))))
  outs : (a : ℕ) (k : ℤ) → value_in x a ≡ Value.Int k → Did c h n x (Instr.Out a) (Event.Out k) SrcAnswer.Unit
  calls : (to g def : ℕ) (args : List ℕ) → Did c h n x (Instr.Call to g def args) (Event.Call g) (SrcAnswer.Frame (next_maker n h))
  rets : (a r : ℕ) → Did c h n x (Instr.Ret a (Some r)) Event.Ret SrcAnswer.Unit
  turns : Did c h n x Instr.Turn Event.Turn SrcAnswer.Unit
  forks : (join : ℕ) (entries : List ℕ) → Did c h n x (Instr.Fork join entries) (Event.Fork (length entries)) SrcAnswer.Unit
  traps : (to a b : ℕ) (op : BinOp) → divides_by_zero object_meaning op (value_in x b) ≡ true → Did c h n x (Instr.Bin to op a b) Event.Zero SrcAnswer.Unit

-- the number of the read or definition of an instruction, 0 where an event has none
abbrev pub number_in : Instr → ℕ
number_in (Instr.Get to place r) = r
number_in (Instr.Load to a r) = r
number_in (Instr.Set place a d) = d
number_in (Instr.Store a b d) = d
number_in i = 0
