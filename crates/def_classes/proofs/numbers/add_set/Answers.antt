use Rattle.std.proofs.Common.{◌∙◌, ap, arith, length}
use Rattle.std.proofs.lemmas.List.{length-set}
use Rattle.def_classes.proofs.Reading.{adds_reader-more}
use Rattle.def_classes.proofs.numbers.add_set.Goals as goal

pub add_reader-requires-clause-from_one : goal.add_reader-requires-clause-from_one
add_reader-requires-clause-from_one c = (c.requires.members c.loop-definition.definition-index 0 c.loop-definition-test.true).0

pub add_reader-requires-clause-within : goal.add_reader-requires-clause-within
add_reader-requires-clause-within c =
    let high = (c.requires.members c.loop-definition.definition-index 0 c.loop-definition-test.true).1 in
    omega (arith, high, c.loop-definition.invariant.count)

pub loop-definition-preserved : goal.loop-definition-preserved
loop-definition-preserved c =
    let added = c.in_ok-add_reader.ensures in
    record {
      count = ap length added ∙ length-set c.loop-definition.rows.items _ _ ∙ c.loop-definition.invariant.count;
      added = adds_reader-more c.args.set.now c.args.read c.loop-definition.definition-index
          c.args.rows.now.items c.loop-definition.rows.items c.add_reader.new.rows.items
          c.loop-definition-test.true (c.requires.members c.loop-definition.definition-index 0 c.loop-definition-test.true) c.loop-definition.invariant.count
          c.requires.read c.requires.new c.loop-definition.invariant.added added;
    }
