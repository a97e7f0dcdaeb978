-- Modules that are given by rows.
use Rattle.std.specs.Prelude.{ℕ, false, List, [], ◌∷◌, map, replicate, length, nat_lt, nat_eq, Some, None, if◌then◌else◌}
use Rattle.tac_ir.specs.declared.code.Shape.{Shape}
use Rattle.tac_ir.specs.declared.code.Fun.{Fun}
use Rattle.tac_ir.specs.declared.code.Lined.{Lined}
use Rattle.tac_ir.specs.declared.code.Place.{Place}
use Rattle.tac_ir.specs.declared.code.Instr.{Instr}
use Rattle.tac_ir.specs.Module.{Module}
use Rattle.test_samples.specs.declared.row.Spot.{Spot}
use Rattle.test_samples.specs.declared.row.Row.{Row}
use Rattle.test_samples.specs.declared.build.Function.{Function}
use Rattle.test_samples.specs.declared.build.Sample.{Sample}

abbrev pub place_at : Spot → Place
place_at (Spot.Global v) = Place.Global v []
place_at (Spot.Local v) = Place.Local v []

abbrev pub instr_of : Row → Instr
instr_of (Row.Const to k) = Instr.Const to k
instr_of (Row.Bin to op a b) = Instr.Bin to op a b
instr_of (Row.Addr to spot) = Instr.Addr to (place_at spot)
instr_of (Row.Decay to a shape) = Instr.Decay to a shape
instr_of (Row.Index to a b) = Instr.Index to a b 1
instr_of (Row.Get to spot read) = Instr.Get to (place_at spot) read
instr_of (Row.Set spot a def) = Instr.Set (place_at spot) a def
instr_of (Row.Load to a read) = Instr.Load to a read
instr_of (Row.Store a b def) = Instr.Store a b def
instr_of (Row.New to a site) = Instr.New to a site
instr_of (Row.Free a) = Instr.Free a
instr_of (Row.In to) = Instr.In to
instr_of (Row.Left to) = Instr.Left to
instr_of (Row.Out a) = Instr.Out a
instr_of (Row.Call to fun def) = Instr.Call to fun def []
instr_of (Row.Pass to fun def a) = Instr.Call to fun def (a ∷ [])
instr_of (Row.Halt a) = Instr.Ret a None
instr_of (Row.Ret a read) = Instr.Ret a (Some read)
instr_of (Row.Jump target) = Instr.Jump target
instr_of (Row.Test a then_at else_at) = Instr.Test a then_at else_at
instr_of Row.Turn = Instr.Turn
instr_of (Row.Fork join first second) = Instr.Fork join (first ∷ second ∷ [])
instr_of Row.Fifteen = Instr.Fork 16 (1 ∷ 2 ∷ 3 ∷ 4 ∷ 5 ∷ 6 ∷ 7 ∷ 8 ∷ 9 ∷ 10 ∷ 11 ∷ 12 ∷ 13 ∷ 14 ∷ 15 ∷ [])
instr_of Row.End = Instr.End

abbrev pub line_of : Row → Lined
line_of row = record { line = 1; instr = instr_of row }

abbrev pub fun_of : Function → Fun
fun_of f = record { params = f.params; vars = f.vars.now; code = map line_of f.rows.now; line = 1 }

abbrev pub array_of : ℕ → Shape
array_of len = Shape.Array len 0

abbrev pub shapes_of : List ℕ → List Shape
shapes_of arrays = Shape.Int ∷ Shape.Ptr ∷ map array_of arrays

-- one member or two, or none where the greatest is 0, which numbers no definition
abbrev pub set_of : ℕ × ℕ → List ℕ
set_of members =
    if nat_eq members.1 0 then []
    else (if nat_lt members.0 members.1 then members.0 ∷ members.1 ∷ [] else members.0 ∷ [])

-- a module in which each read is checked
abbrev pub module_of : Sample → Module
module_of s = record {
  size = s.size;
  code = record { shapes = shapes_of s.arrays.now; globals = s.globals.now; sites = s.sites.now; main = s.main; funs = map fun_of s.funs.now };
  classes = s.classes.now;
  sets = map set_of s.sets.now;
  removed = replicate (length s.sets.now) false;
  points = [];
  reach = [];
}
