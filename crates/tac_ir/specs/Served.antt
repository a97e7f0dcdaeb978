-- What one memory answers: the events on its words, its blocks and the input, whoever asks.
use Rattle.std.specs.Prelude.{◌≡◌, ℕ, Bool, true, false, List, [], ◌∷◌, ℤ}
use Rattle.tac_ir.specs.declared.run.Op.{Op}
use Rattle.tac_ir.specs.declared.run.Entry.{Entry}
use Rattle.tac_ir.specs.Module.{Module}
use Rattle.tac_ir.specs.Answers.{IsAnswer}

-- the events that a memory answers
abbrev pub is_served : Op → Bool
is_served (Op.Read r w) = true
is_served (Op.Write d w v) = true
is_served (Op.New site count) = true
is_served (Op.Free w) = true
is_served Op.In = true
is_served Op.Left = true
is_served op = false

-- Each of these is answered as a run answers it after the entries before it; of other events nothing is said. The newest first.
unfoldable pub AreServed : Module → List ℤ → List Entry → Type 0
AreServed m input [] = Unit {0}
AreServed m input (e ∷ h) = (is_served e.op ≡ true → (n room : ℕ) → IsAnswer m input h n room e.op e.answer) × AreServed m input h
