use Rattle.std.proofs.Common.{arith}
use Rattle.tac_ir.specs.Numbers.{new_def, new_read}
use Rattle.def_classes.proofs.Counting.{count-line}
use Rattle.def_classes.proofs.counts.with_code.Goals as goal

pub with_instr-counts-requires-clause-definitions : goal.with_instr-counts-requires-clause-definitions
with_instr-counts-requires-clause-definitions c =
    let next = count-line new_def c.args.code.now c.loop-lined.lined-index c.lined-item.result c.loop-lined-test.true c.lined-item.is in
    omega (arith, c.loop-lined.invariant.definitions, c.requires.definitions)

pub with_instr-counts-requires-clause-reads : goal.with_instr-counts-requires-clause-reads
with_instr-counts-requires-clause-reads c =
    let next = count-line new_read c.args.code.now c.loop-lined.lined-index c.lined-item.result c.loop-lined-test.true c.lined-item.is in
    omega (arith, c.loop-lined.invariant.reads, c.requires.reads)

pub loop-lined-preserved : goal.loop-lined-preserved
loop-lined-preserved c =
    let defs = count-line new_def c.args.code.now c.loop-lined.lined-index c.lined-item.result c.loop-lined-test.true c.lined-item.is in
    let reads = count-line new_read c.args.code.now c.loop-lined.lined-index c.lined-item.result c.loop-lined-test.true c.lined-item.is in
    record {
      definitions = omega (arith, c.loop-lined.invariant.definitions, c.with_instr-counts.ensures.definitions);
      reads = omega (arith, c.loop-lined.invariant.reads, c.with_instr-counts.ensures.reads);
    }
