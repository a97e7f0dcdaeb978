use Rattle.std.proofs.Common.{List, ap, arith, length}
use Rattle.tac_ir.specs.declared.code.Lined.{Lined}
use Rattle.tac_ir.specs.Numbers.{new_def, new_read, numbers_in}
use Rattle.def_classes.proofs.Counting.{count-fun}
use Rattle.def_classes.proofs.counts.count.Goals as goal

pub with_code-counts-requires-clause-definitions : goal.with_code-counts-requires-clause-definitions
with_code-counts-requires-clause-definitions c =
    let next = count-fun new_def c.args.funs.now c.loop-fun.fun-index c.fun-item.result c.loop-fun-test.true c.fun-item.is in
    let same = ap (λ (code : List Lined). length (numbers_in new_def code)) c.as_slice.ensures in
    omega (arith, c.loop-fun.invariant.definitions, c.requires.definitions)

pub with_code-counts-requires-clause-reads : goal.with_code-counts-requires-clause-reads
with_code-counts-requires-clause-reads c =
    let next = count-fun new_read c.args.funs.now c.loop-fun.fun-index c.fun-item.result c.loop-fun-test.true c.fun-item.is in
    let same = ap (λ (code : List Lined). length (numbers_in new_read code)) c.as_slice.ensures in
    omega (arith, c.loop-fun.invariant.reads, c.requires.reads)

pub loop-fun-preserved : goal.loop-fun-preserved
loop-fun-preserved c =
    let definitions = count-fun new_def c.args.funs.now c.loop-fun.fun-index c.fun-item.result c.loop-fun-test.true c.fun-item.is in
    let reads = count-fun new_read c.args.funs.now c.loop-fun.fun-index c.fun-item.result c.loop-fun-test.true c.fun-item.is in
    let same_definitions = ap (λ (code : List Lined). length (numbers_in new_def code)) c.as_slice.ensures in
    let same_reads = ap (λ (code : List Lined). length (numbers_in new_read code)) c.as_slice.ensures in
    record {
      definitions = omega (arith, c.loop-fun.invariant.definitions, c.with_code-counts.ensures.definitions);
      reads = omega (arith, c.loop-fun.invariant.reads, c.with_code-counts.ensures.reads);
    }
