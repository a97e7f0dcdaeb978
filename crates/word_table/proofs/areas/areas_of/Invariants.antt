use Rattle.std.proofs.Common.{◌≡◌, ◌++◌, drop}
use Rattle.word_table.specs.tools.Areas.{areas_from}
use Rattle.word_table.proofs.areas.areas_of.Given as goal

abbrev pub invariant-loop-g : goal.invariant-loop-g
invariant-loop-g l = l.areas.items ++ areas_from l.sizes l.fn.m l.g (drop l.g l.global-items) ≡ areas_from l.sizes l.fn.m 0 l.fn.m.code.globals
