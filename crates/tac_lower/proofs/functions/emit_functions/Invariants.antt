use Rattle.std.proofs.Common.{drop}
use Rattle.tac_lower.specs.CodeOf.{sizes_of, first_numbers}
use Rattle.tac_lower.proofs.emitted.Drafting.{Drafting}
use Rattle.tac_lower.proofs.functions.emit_functions.Given as goal

abbrev pub invariant-loop-k : goal.invariant-loop-k
invariant-loop-k l = Drafting (sizes_of l.program) l.program.main (first_numbers l.program) l.program.functions (drop l.k l.program.functions) l.k l.progress l.drafts
