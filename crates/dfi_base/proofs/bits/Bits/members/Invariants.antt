use Rattle.std.proofs.Common.{◌≡◌, ◌-◌, ◌++◌, drop}
use Rattle.dfi_base.specs.Bits.{members, members_from}
use Rattle.dfi_base.proofs.bits.Bits.members.Given as goal

abbrev pub invariant-loop-from : goal.invariant-loop-from
invariant-loop-from l = l.list.items ++ members_from l.from (drop l.from l.self) ≡ members l.self

abbrev pub decreases-loop-from : goal.decreases-loop-from
decreases-loop-from l = l.len - l.from
