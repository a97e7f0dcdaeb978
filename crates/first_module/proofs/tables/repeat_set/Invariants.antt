use Rattle.std.proofs.Common.{◌≡◌, replicate}
use Rattle.first_module.proofs.tables.repeat_set.Given as goal

abbrev pub invariant-loop : goal.invariant-loop
invariant-loop l = l.sets ≡ replicate l.counter l.definitions
