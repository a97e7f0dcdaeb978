use Rattle.std.proofs.Common.{◌∙◌, ap, arith, length, suc}
use Rattle.std.proofs.lemmas.List.{length-set}
use Rattle.first_module.proofs.AscendLemmas.{ascends-at}
use Rattle.first_module.proofs.ReaderLemmas.{adds_reader-more}
use Rattle.first_module.proofs.classes.add_set.Goals as goal

pub add_reader-requires-clause-from_one : goal.add_reader-requires-clause-from_one
add_reader-requires-clause-from_one c = (ascends-at 1 _ c.args.set.now c.loop-definition.definition-index c.requires c.loop-definition-test.true).0

pub add_reader-requires-clause-within : goal.add_reader-requires-clause-within
add_reader-requires-clause-within c =
    let bounds = ascends-at 1 (suc (length c.args.rows.now.items)) c.args.set.now c.loop-definition.definition-index c.requires c.loop-definition-test.true in
    omega (arith, c.loop-definition.invariant.count)

pub loop-definition-preserved : goal.loop-definition-preserved
loop-definition-preserved c =
    let added = c.in_ok-add_reader.ensures in
    record {
      count = ap length added ∙ length-set c.loop-definition.rows.items _ _ ∙ c.loop-definition.invariant.count;
      added = adds_reader-more c.args.set.now c.args.read c.loop-definition.definition-index (suc (length c.args.rows.now.items))
          c.args.rows.now.items c.loop-definition.rows.items c.add_reader.new.rows.items
          c.loop-definition-test.true c.requires c.loop-definition.invariant.count c.loop-definition.invariant.added added;
    }
