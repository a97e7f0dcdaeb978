-- What threads share, beside the history of a run.
use Rattle.std.specs.Prelude.{ℕ, Bool, true, false, List, ◌∷◌, ℤ}
use Rattle.tac_ir.specs.declared.run.Op.{Op}
use Rattle.tac_ir.specs.declared.run.Entry.{Entry}
use Rattle.tac_ir.specs.Module.{Module}
use Rattle.tac_ir.specs.Answers.{IsAnswer}
use Rattle.code_layout.specs.LayoutOf.{IsLayoutOf}
use Rattle.heap_desk.specs.Stands.{StandsAfter}
use Rattle.word_table.specs.Holds.{HoldsAfter}
use Rattle.flat_core.specs.declared.store.Store.{Store}

-- words, heap and input are where the run is after this history
pub record IsStore (m : Module) (input : List ℤ) (h : List Entry) (s : Store) : Type 0 where
  pub words : HoldsAfter m h s.words
  pub desk : StandsAfter m input h s.desk
  pub layout : IsLayoutOf m.code s.layout

-- an event that takes no stack and no block
abbrev pub is_plain : Op → Bool
is_plain (Op.Call f) = false
is_plain (Op.Fork branches) = false
is_plain (Op.New site count) = false
is_plain op = true

-- a block was taken, or there was no room for it
pub record IsTaken (m : Module) (input : List ℤ) (h : List Entry) (e : Entry) (after : Store) : Type 0 where
  pub answer : (n room : ℕ) → IsAnswer m input h n room e.op e.answer
  pub store : IsStore m input (e ∷ h) after
