use Rattle.code_layout.proofs.Starts.{AreStarts}
use Rattle.code_layout.proofs.globals.global_starts.Given as goal

abbrev pub invariant-loop-global : goal.invariant-loop-global
invariant-loop-global l = AreStarts l.code l.global-index l.starts.items l.next
