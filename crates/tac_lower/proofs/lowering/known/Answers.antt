use Rattle.tac_lower.proofs.lowering.known.Goals as goal

pub returns : goal.returns
returns c =
    rw (← c.program.view_is)
    (c.typed_is_well.ensures (record { structs = c.program.inside.structs; globals = c.program.inside.globals; functions = c.program.inside.functions; main = c.program.inside.main }) c.program.invariant)
