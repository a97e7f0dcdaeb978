-- How definitions and reads are numbered: both from 1, in the order of the code. Each global has a starting definition, and
-- those come first.
use Rattle.std.specs.Prelude.{◌≡◌, ℕ, ◌+◌, Option, Some, None, List, [], ◌∷◌, ◌++◌, length}
use Rattle.std.specs.List.{range_with_len}
use Rattle.tac_ir.specs.declared.code.Code.{Code}
use Rattle.tac_ir.specs.declared.code.Instr.{Instr}
use Rattle.tac_ir.specs.declared.code.Lined.{Lined}
use Rattle.tac_ir.specs.declared.code.Fun.{Fun}

-- the definition that an instruction makes
abbrev pub new_def : Instr → Option ℕ
new_def (Instr.Set place a def) = Some def
new_def (Instr.Store a b def) = Some def
new_def (Instr.Call to f def args) = Some def
new_def i = None

-- the read that an instruction makes: a return with a link reads it
abbrev pub new_read : Instr → Option ℕ
new_read (Instr.Get to place r) = Some r
new_read (Instr.Load to a r) = Some r
new_read (Instr.Ret a r) = r
new_read i = None

-- the numbers that some lines name, in their order
abbrev pub numbers_in : (Instr → Option ℕ) → List Lined → List ℕ
numbers_in number [] = []
numbers_in number (l ∷ rest) = elim (number l.instr) [ Some n ↦ n ∷ numbers_in number rest | None ↦ numbers_in number rest ]

abbrev pub numbers_in_funs : (Instr → Option ℕ) → List Fun → List ℕ
numbers_in_funs number [] = []
numbers_in_funs number (fun ∷ funs) = numbers_in number fun.code ++ numbers_in_funs number funs

-- the definitions that instructions make, and the reads
abbrev pub defs_made : Code → List ℕ
defs_made c = numbers_in_funs new_def c.funs

abbrev pub reads_made : Code → List ℕ
reads_made c = numbers_in_funs new_read c.funs

-- how many definitions there are
abbrev pub defs_in_code : Code → ℕ
defs_in_code c = length c.globals + length (defs_made c)

-- these are the numbers from this one on, each once, in order
abbrev pub IsCount : ℕ → List ℕ → Type 0
IsCount first numbers = numbers ≡ range_with_len first (length numbers)
