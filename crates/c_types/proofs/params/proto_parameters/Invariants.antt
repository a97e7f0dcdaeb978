use Rattle.c_types.specs.tools.DeclWalk.{proto_parameter_walk}
use Rattle.c_types.proofs.EachLaws.{WentOn}
use Rattle.c_types.proofs.params.proto_parameters.Given as goal

abbrev pub invariant-loop-p : goal.invariant-loop-p
invariant-loop-p l = WentOn (proto_parameter_walk l.outline) l.ps l.initial.known l.known l.p-index
