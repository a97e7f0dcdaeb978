-- Laws of the numbers of definitions and reads, in code of a good form.
use Rattle.std.specs.Prelude.{◌≡◌, ℕ, ◌≤◌, ◌↔◌, Bool, true, false, Option, Some, None, length}
use Rattle.dfi_base.specs.declared.numbers.Point.{Point}
use Rattle.dfi_base.specs.declared.numbers.DefNo.{DefNo}
use Rattle.tac_ir.specs.declared.code.Code.{Code}
use Rattle.tac_ir.specs.declared.code.Instr.{Instr}
use Rattle.tac_ir.specs.declared.run.Op.{Op}
use Rattle.tac_ir.specs.Layout.{instr_at, globals_from}
use Rattle.tac_ir.specs.Effect.{Here, effect_of}
use Rattle.tac_ir.specs.Last.{starting}
use Rattle.tac_ir.specs.Numbers.{new_def, new_read, numbers_in_funs}
use Rattle.tac_ir.specs.GoodForm.{GoodForm}
use Rattle.tac_ir.specs.Answers.{has}

-- the definition that a call makes
abbrev pub new_call : Instr → Option ℕ
new_call (Instr.Call to f def args) = Some def
new_call i = None

-- whether definition d is a call's
abbrev pub is_calls : Code → ℕ → Bool
is_calls c d = has (numbers_in_funs new_call c.funs) d

-- one definition is one instruction, and so is one read
abbrev pub OneInstructionADefinition : Type 0
OneInstructionADefinition = (c : Code) → GoodForm c → (p q : Point) (d : ℕ) → new_def (instr_at c p) ≡ Some d → new_def (instr_at c q) ≡ Some d → p ≡ q

abbrev pub OneInstructionARead : Type 0
OneInstructionARead = (c : Code) → GoodForm c → (p q : Point) (r : ℕ) → new_read (instr_at c p) ≡ Some r → new_read (instr_at c q) ≡ Some r → p ≡ q

-- The definition of a call is a call's; those of other instructions, and starting definitions, are no call's.
abbrev pub CallsMakeTheirs : Type 0
CallsMakeTheirs = (c : Code) → GoodForm c → (p : Point) (d : ℕ) → new_def (instr_at c p) ≡ Some d → (is_calls c d ≡ true) ↔ (new_call (instr_at c p) ≡ Some d)

abbrev pub StartsAreNoCalls : Type 0
StartsAreNoCalls = (c : Code) → GoodForm c → (d : ℕ) → d ≤ length c.globals → is_calls c d ≡ false

-- what stands in a word before all writes is no call's
abbrev pub WordsStartWithNoCalls : Type 0
WordsStartWithNoCalls = (c : Code) → GoodForm c → (w : ℕ) → is_calls c (starting c c.globals 0 globals_from w).def ≡ false

-- the write of a link: by a call, into the first word of the newest frame, with the definition's own number
pub record WritesLink (i : Instr) (here : Here) (d : DefNo) (w v : ℕ) : Type 0 where
  pub call : new_call i ≡ Some d.0
  pub second : here.spot.second ≡ true
  pub word : w ≡ here.newest_base
  pub value : v ≡ d.0

-- a call's definition is written by the link write of that call alone
abbrev pub CallsWriteLinks : Type 0
CallsWriteLinks = (c : Code) → GoodForm c → (here : Here) (val : ℕ → ℕ) (d : DefNo) (w v : ℕ)
    → (effect_of c here (instr_at c here.spot.point)).event val ≡ Some (Op.Write d w v) → is_calls c d.0 ≡ true → WritesLink (instr_at c here.spot.point) here d w v
