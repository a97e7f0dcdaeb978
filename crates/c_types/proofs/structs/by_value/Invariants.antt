use Rattle.std.proofs.Common.{◌≡◌, drop}
use Rattle.c_typed.specs.Decls.{by_value}
use Rattle.c_types.proofs.structs.by_value.Given as goal

abbrev pub invariant-loop-d : goal.invariant-loop-d
invariant-loop-d l = by_value l.items ≡ by_value (drop l.d-index l.items)
