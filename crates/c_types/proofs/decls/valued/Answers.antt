use Rattle.c_types.proofs.decls.valued.Goals as goal

pub returns : goal.returns
returns c = c.valued_so.ensures _ c.value-value.ensures
