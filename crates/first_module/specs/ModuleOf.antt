-- The module of code, before there is an analysis of whole programs.
use Rattle.std.specs.Prelude.{false, [], length, replicate}
use Rattle.tac_ir.specs.declared.code.Code.{Code}
use Rattle.tac_ir.specs.declared.module.Size.{Size}
use Rattle.tac_ir.specs.Module.{Module}
use Rattle.tac_ir.specs.Numbers.{defs_in_code}
use Rattle.first_module.specs.ClassesOf.{classes_of}
use Rattle.first_module.specs.SetsOf.{sets_of}

-- the code, the sets of its reads, and the classes that they give; each read is checked
abbrev pub module_of : Code → Module
module_of c = record {
  size = Size.Small;
  code = c;
  classes = classes_of (sets_of c) (defs_in_code c);
  sets = sets_of c;
  removed = replicate (length (sets_of c)) false;
  points = [];
  reach = [];
}
