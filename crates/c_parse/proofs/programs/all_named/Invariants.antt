use Rattle.std.proofs.Common.{◌≡◌, ◌++◌, drop}
use Rattle.std.specs.Option.{option_map}
use Rattle.c_parse.specs.tools.ProgramParser as spec
use Rattle.c_parse.proofs.programs.all_named.Given as goal

abbrev pub invariant-loop-param : goal.invariant-loop-param
invariant-loop-param l = spec.all_named l.params ≡ option_map (λ rest. l.found ++ rest) (spec.all_named (drop l.param-index l.params))
