-- Reads and definitions by their numbers, and what searches for their points answer.
use Rattle.std.specs.Prelude.{◌≡◌, ℕ, ◌<◌, Option, Some, None, List, length, slice_get}
use Rattle.dfi_base.specs.declared.numbers.Point.{Point}
use Rattle.tac_ir.specs.declared.code.Code.{Code}
use Rattle.tac_ir.specs.declared.code.Instr.{Instr}
use Rattle.tac_ir.specs.declared.code.Lined.{Lined}
use Rattle.tac_ir.specs.Layout.{instr_at}
use Rattle.tac_ir.specs.GoodModule.{IsPoint}
use Rattle.tac_ir.specs.Numbers.{new_def, new_read}
use Rattle.flow_rules.specs.declared.reads.Made.{Made}

-- the number of that kind that an instruction makes
abbrev pub number_by : Made → Instr → Option ℕ
number_by (Made.Read r) i = new_read i
number_by (Made.Def d) i = new_def i

abbrev pub number_of : Made → ℕ
number_of (Made.Read r) = r
number_of (Made.Def d) = d

abbrev pub Makes : Made → Instr → Type 0
Makes made i = number_by made i ≡ Some (number_of made)

abbrev pub IsMadeAt : Code → Made → Option Point → Type 0
IsMadeAt c made None = (p : Point) → Makes made (instr_at c p) → ⊥
IsMadeAt c made (Some p) = IsPoint c p × Makes made (instr_at c p)

abbrev pub IsMadeIn : List Lined → Made → Option ℕ → Type 0
IsMadeIn code made None = (at : ℕ) (l : Lined) → slice_get code at ≡ Some l → Makes made l.instr → ⊥
IsMadeIn code made (Some at) = (at < length code) × ((l : Lined) → slice_get code at ≡ Some l → Makes made l.instr)
