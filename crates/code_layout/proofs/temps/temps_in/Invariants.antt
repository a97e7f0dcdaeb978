use Rattle.std.proofs.Common.{◌≡◌, drop}
use Rattle.tac_ir.specs.Counts.{temps_in}
use Rattle.code_layout.proofs.temps.temps_in.Given as goal

abbrev pub invariant-loop-line : goal.invariant-loop-line
invariant-loop-line l = temps_in l.count (drop l.line-index l.code) ≡ temps_in l.least l.code
