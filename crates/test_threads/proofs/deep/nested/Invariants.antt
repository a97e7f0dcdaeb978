use Rattle.std.proofs.Common.{◌≡◌}
use Rattle.test_threads.specs.Deep.{nested}
use Rattle.test_threads.proofs.deep.nested.Given as goal

abbrev pub invariant-loop-i : goal.invariant-loop-i
invariant-loop-i l = l.shapes.items ≡ nested l.nesting l.i
