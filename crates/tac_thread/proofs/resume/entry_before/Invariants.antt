use Rattle.std.proofs.Common.{◌≡◌, drop}
use Rattle.std.specs.Prelude.{max}
use Rattle.tac_ir.specs.Path.{entry_before}
use Rattle.tac_thread.proofs.resume.entry_before.Given as goal

abbrev pub invariant-loop-entry : goal.invariant-loop-entry
invariant-loop-entry l = max l.region (entry_before (drop l.entry-index l.entries) l.join l.at) ≡ entry_before l.entries l.join l.at
