-- Codes that tests are about.
use Rattle.std.specs.Prelude.{ℕ, List, [], ◌∷◌, None, map, pos}
use Rattle.tac_ir.specs.declared.code.Code.{Code}
use Rattle.tac_ir.specs.declared.code.Instr.{Instr}
use Rattle.tac_ir.specs.declared.code.Lined.{Lined}
use Rattle.tac_ir.specs.declared.code.Place.{Place}
use Rattle.tac_ir.specs.declared.code.Shape.{Shape}

-- global 0 is an array of two ints, and global 1 an int
abbrev pub whole : ℕ → Place
whole g = Place.Global g []

-- one function with these instructions, where those globals are
abbrev pub sample_code : List Lined → Code
sample_code lines = record {
  shapes = Shape.Int ∷ Shape.Ptr ∷ Shape.Array 2 0 ∷ [];
  globals = (record { shape = 2; start = pos 0; line = 1 }) ∷ (record { shape = 0; start = pos 0; line = 1 }) ∷ [];
  sites = [];
  main = 0;
  funs = record { params = 0; vars = []; code = lines; line = 1 } ∷ [];
}

abbrev pub on_line : Instr → Lined
on_line i = record { line = 1; instr = i }

-- writes the int and an item of the array, and reads both
abbrev pub straight_lines : List Lined
straight_lines = map on_line (
    Instr.Const 0 (pos 1)
    ∷ Instr.Set (whole 1) 0 3
    ∷ Instr.Addr 1 (whole 0)
    ∷ Instr.Decay 2 1 2
    ∷ Instr.Index 3 2 0 1
    ∷ Instr.Store 3 0 4
    ∷ Instr.Get 4 (whole 1) 1
    ∷ Instr.Load 5 3 2
    ∷ Instr.Ret 0 None ∷ [])

-- writes the int and reads it, with the head of a loop in between
abbrev pub looped_lines : List Lined
looped_lines = map on_line (
    Instr.Const 0 (pos 1)
    ∷ Instr.Set (whole 1) 0 3
    ∷ Instr.Turn
    ∷ Instr.Get 1 (whole 1) 1
    ∷ Instr.Ret 0 None ∷ [])
