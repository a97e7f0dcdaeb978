-- Instructions whose numbers fit the types of events: reads, definitions and sites have 16 bits.
use Rattle.std.specs.Prelude.{Bool, true, nat_lt, Some, length}
use Rattle.tac_ir.specs.declared.code.Instr.{Instr}

abbrev pub is_numbered : Instr → Bool
is_numbered (Instr.Get to place r) = nat_lt r 65536
is_numbered (Instr.Load to a r) = nat_lt r 65536
is_numbered (Instr.Ret a (Some r)) = nat_lt r 65536
is_numbered (Instr.Set place a d) = nat_lt d 65536
is_numbered (Instr.Store a b d) = nat_lt d 65536
is_numbered (Instr.Call to f d args) = nat_lt d 65536
is_numbered (Instr.New to a site) = nat_lt site 65536
is_numbered (Instr.Fork join entries) = nat_lt (length entries) 65536
is_numbered i = true
