-- What is so of the histories of a code over objects.
use Rattle.std.specs.Prelude.{◌≡◌, ℕ, Option, Some, List, ◌++◌, map, ℤ, length}
use Rattle.obj_mem.specs.declared.value.Obj.{Obj}
use Rattle.obj_mem.specs.declared.value.Value.{Value}
use Rattle.obj_mem.specs.declared.event.Stamp.{Stamp}
use Rattle.obj_mem.specs.declared.run.SrcRun.{SrcRun}
use Rattle.obj_mem.specs.Laws.{AreAnswered, IsMade}
use Rattle.obj_mem.specs.Written.{last_value}
use Rattle.tac_ir.specs.declared.code.Code.{Code}
use Rattle.tac_ir.specs.declared.code.Instr.{Instr}
use Rattle.tac_ir.specs.GoodForm.{GoodForm}
use Rattle.tac_thread.specs.declared.guest.Stage.{Stage}
use Rattle.tac_thread.specs.declared.guest.Activation.{Activation}
use Rattle.tac_thread.specs.Life.{instr_of}
use Rattle.obj_run.specs.declared.values.ObjStack.{ObjStack}
use Rattle.obj_run.specs.Entries.{Entry, stamps_of}
use Rattle.obj_run.specs.Starts.{opening}
use Rattle.obj_run.specs.Runs.{ObjLife, ObjLives, IsAsked, IsObjTree, IsRunAlong}
use Rattle.obj_law.specs.Did.{Did, number_in}

-- an entry of a life that stands ready is what its instruction does, by its number
abbrev pub EventsAreSeen : Type 0
EventsAreSeen = (c : Code) (first h : List Stamp) (n : ℕ) (l : ObjLife) (e : Entry) → l.stage ≡ Stage.Ready → IsAsked c first h n l e
    → Did c (h ++ first) n l.top (instr_of c l.top) e.stamp.event e.stamp.answer × (e.number ≡ number_in (instr_of c l.top))

-- each stamp is answered as is valid behind those before it
abbrev pub HistoriesAreValid : Type 0
HistoriesAreValid = (c : Code) (input : List ℤ) (h : List Entry) (f : ObjLives) (d : Option Value) → IsObjTree c input h f d → AreAnswered (opening c input) (stamps_of h)

-- a word that was written is of an object that was made
abbrev pub WrittenWordsAreMade : Type 0
WrittenWordsAreMade = (c : Code) (input : List ℤ) (h : List Entry) (f : ObjLives) (d : Option Value) → IsObjTree c input h f d
    → (o : Obj) (off : ℤ) (v : Value) → last_value o off (stamps_of h ++ opening c input) ≡ Some v → IsMade (stamps_of h ++ opening c input) o.maker

abbrev pub names_by : List Entry → List ℕ
names_by h = map (λ e. e.stamp.name.0) h

-- histories of the same names are the same, and so are the threads behind them
abbrev pub HistoriesAreOne : Type 0
HistoriesAreOne = (c : Code) (input : List ℤ) → GoodForm c → (h k : List Entry) (f g : ObjLives) (d b : Option Value) → names_by h ≡ names_by k → IsObjTree c input h f d → IsObjTree c input k g b
    → (h ≡ k) × (f ≡ g) × (d ≡ b)

-- along given names there is at most one run
abbrev pub RunsAreOne : Type 0
RunsAreOne = (c : Code) (input : List ℤ) (names : List ℕ) (r s : SrcRun) → GoodForm c → IsRunAlong c input names r → IsRunAlong c input names s → r ≡ s

-- where no instruction forks, there is at most one history of each length
abbrev pub ForksNowhere : Code → Type 0
ForksNowhere c = (x : Activation Value ObjStack) (join : ℕ) (entries : List ℕ) → instr_of c x ≡ Instr.Fork join entries → ⊥

abbrev pub OneThreadIsOne : Type 0
OneThreadIsOne = (c : Code) (input : List ℤ) → GoodForm c → ForksNowhere c → (h k : List Entry) (f g : ObjLives) (d b : Option Value) → length h ≡ length k
    → IsObjTree c input h f d → IsObjTree c input k g b → (h ≡ k) × (f ≡ g) × (d ≡ b)
