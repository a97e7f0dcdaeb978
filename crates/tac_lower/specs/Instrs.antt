-- Pieces of one instruction, for a line. A fresh temporary is the next one.
use Rattle.std.specs.Prelude.{ℕ, ◌+◌, ℤ, pos, Bool, true, false, List, Some, None}
use Rattle.tac_ir.specs.declared.code.Instr.{Instr}
use Rattle.tac_ir.specs.declared.code.BinOp.{BinOp}
use Rattle.tac_ir.specs.declared.code.UnOp.{UnOp}
use Rattle.tac_ir.specs.declared.code.Place.{Place}
use Rattle.c_typed.specs.declared.types.ObjectType.{ObjectType}
use Rattle.tac_lower.specs.declared.draft.Taken.{Taken}
use Rattle.tac_lower.specs.declared.draft.Draft.{Draft}
use Rattle.tac_lower.specs.Parts.{Part, given, one, ◌⨟◌}

abbrev pub draft : ℕ → Instr → Draft
draft line i = record { line = line; instr = i; object = None }

abbrev pub draft_of : ℕ → Instr → ObjectType → Draft
draft_of line i t = record { line = line; instr = i; object = Some t }

-- What is taken.
abbrev pub no_number : Taken
no_number = record { temp = false; def = false; read = false }

abbrev pub a_temp : Taken
a_temp = record { temp = true; def = false; read = false }

abbrev pub a_def : Taken
a_def = record { temp = false; def = true; read = false }

abbrev pub a_temp_and_def : Taken
a_temp_and_def = record { temp = true; def = true; read = false }

abbrev pub a_read : Taken
a_read = record { temp = false; def = false; read = true }

abbrev pub a_temp_and_read : Taken
a_temp_and_read = record { temp = true; def = false; read = true }

-- an instruction that writes a fresh temporary
abbrev pub fresh : ℕ → (ℕ → Instr) → Part ℕ
fresh line i = one a_temp (λ n. draft line (i n.temp))

-- one that writes no temporary
abbrev pub quiet : ℕ → (ℕ → Instr) → Part ℕ
quiet line i = one no_number (λ n. draft line (i n.at))

abbrev pub constant : ℕ → ℤ → Part ℕ
constant line k = fresh line (λ t. Instr.Const t k)

abbrev pub null : ℕ → Part ℕ
null line = fresh line (λ t. Instr.Null t)

abbrev pub prefixed : ℕ → UnOp → ℕ → Part ℕ
prefixed line op a = fresh line (λ t. Instr.Un t op a)

abbrev pub computed : ℕ → BinOp → ℕ → ℕ → Part ℕ
computed line op a b = fresh line (λ t. Instr.Bin t op a b)

abbrev pub address : ℕ → Place → Part ℕ
address line p = fresh line (λ t. Instr.Addr t p)

-- field k of a struct of this type
abbrev pub field : ℕ → ObjectType → ℕ → ℕ → Part ℕ
field line struct k a = one a_temp (λ n. draft_of line (Instr.Field n.temp a 0 k) struct)

-- the first item of an array of this type
abbrev pub decay : ℕ → ObjectType → ℕ → Part ℕ
decay line array a = one a_temp (λ n. draft_of line (Instr.Decay n.temp a 0) array)

abbrev pub index : ℕ → ℕ → ℕ → ℕ → Part ℕ
index line words a b = fresh line (λ t. Instr.Index t a b words)

abbrev pub get : ℕ → Place → Part ℕ
get line p = one a_temp_and_read (λ n. draft line (Instr.Get n.temp p n.read))

abbrev pub load : ℕ → ℕ → Part ℕ
load line a = one a_temp_and_read (λ n. draft line (Instr.Load n.temp a n.read))

abbrev pub set : ℕ → Place → ℕ → Part ℕ
set line p a = one a_def (λ n. draft line (Instr.Set p a n.def))

abbrev pub store : ℕ → ℕ → ℕ → Part ℕ
store line a b = one a_def (λ n. draft line (Instr.Store a b n.def))

abbrev pub same : ℕ → Bool → ℕ → ℕ → Part ℕ
same line ne a b = fresh line (λ t. Instr.Same t ne a b)

-- a block of so many items of this type, at this heap site
abbrev pub new : ℕ → ℕ → ObjectType → ℕ → Part ℕ
new line site item a = one a_temp (λ n. draft_of line (Instr.New n.temp a site) item)

abbrev pub call : ℕ → ℕ → List ℕ → Part ℕ
call line f args = one a_temp_and_def (λ n. draft line (Instr.Call n.temp f n.def args))

-- a return of main, and one with the read of its link
abbrev pub last_return : ℕ → ℕ → Part ℕ
last_return line a = quiet line (λ at. Instr.Ret a None)

abbrev pub linked_return : ℕ → ℕ → Part ℕ
linked_return line a = one a_read (λ n. draft line (Instr.Ret a (Some n.read)))

abbrev pub jump : ℕ → ℕ → Part ℕ
jump line target = quiet line (λ at. Instr.Jump target)

-- to the next instruction, or past so many behind it
abbrev pub test : ℕ → ℕ → ℕ → Part ℕ
test line a past = quiet line (λ at. Instr.Test a (at + 1) (at + 1 + past))

-- past so many instructions behind it, or to the next
abbrev pub test_past : ℕ → ℕ → ℕ → Part ℕ
test_past line a past = quiet line (λ at. Instr.Test a (at + 1 + past) (at + 1))

-- past so many instructions
abbrev pub skip : ℕ → ℕ → Part ℕ
skip line past = quiet line (λ at. Instr.Jump (at + 1 + past))

-- 0 into a temporary that was written before
abbrev pub zero_again : ℕ → ℕ → Part ℕ
zero_again line t = quiet line (λ at. Instr.Const t (pos 0)) ⨟ given t
