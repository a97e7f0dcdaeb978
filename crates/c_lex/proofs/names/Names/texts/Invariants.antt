use Rattle.std.proofs.Common.{◌≡◌, map}
use Rattle.c_lex.proofs.names.Names.texts.Given as goal

abbrev pub invariant-loop-name : goal.invariant-loop-name
invariant-loop-name l = l.texts ≡ map (λ name. name.now.now) l.yielded
