use Rattle.std.proofs.Common.{◌≡◌, drop}
use Rattle.std.specs.Prelude.{max}
use Rattle.tac_ir.specs.Path.{region_in}
use Rattle.tac_thread.proofs.resume.region_at.Given as goal

abbrev pub invariant-loop-line : goal.invariant-loop-line
invariant-loop-line l = max l.region (region_in (drop l.line-index l.line-items) l.at) ≡ region_in l.line-items l.at
