use Rattle.std.proofs.Common.{List, ap, arith, length}
use Rattle.tac_ir.specs.declared.code.Fun.{Fun}
use Rattle.tac_ir.specs.Numbers.{new_read, numbers_in_funs}
use Rattle.def_classes.proofs.InRange.{few-reads}
use Rattle.def_classes.proofs.counts.count_in_code.Goals as goal

pub count-definitions-requires-clause-reads : goal.count-definitions-requires-clause-reads
count-definitions-requires-clause-reads c =
    let same = ap (λ (funs : List Fun). length (numbers_in_funs new_read funs)) c.as_slice.ensures in
    omega (arith, few-reads c.args.code.now c.requires)

pub returns-clause-few_reads : goal.returns-clause-few_reads
returns-clause-few_reads c =
    let same = ap (λ (funs : List Fun). length (numbers_in_funs new_read funs)) c.as_slice.ensures in
    omega (arith, few-reads c.args.code.now c.requires, same, c.count-definitions.ensures.reads)
