use Rattle.std.proofs.Common.{◌≡◌, drop}
use Rattle.tac_ir.specs.Counts.{past}
use Rattle.code_layout.proofs.temps.past_all.Given as goal

abbrev pub invariant-loop-temp : goal.invariant-loop-temp
invariant-loop-temp l = past l.count (drop l.temp-index l.temps) ≡ past l.least l.temps
