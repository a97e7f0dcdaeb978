use Rattle.code_layout.proofs.Paths.{IsAlong}
use Rattle.code_layout.proofs.layout.Layout.along.Given as goal

abbrev pub invariant-loop-k : goal.invariant-loop-k
invariant-loop-k l = IsAlong l.c l.shape l.path l.k-index l.here l.total
