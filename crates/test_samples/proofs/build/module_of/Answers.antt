use Rattle.std.proofs.Common.{◌∙◌}
use Rattle.test_samples.proofs.Sets.{is_ordered}
use Rattle.test_samples.proofs.build.module_of.Goals as goal

pub invariant_of-result : goal.invariant_of-result
invariant_of-result c = is_ordered c.args.sample.now.sets.now _ _ _ _ (c.from_vec.ensures ∙ c.in_ok-sets.ensures) c.in_ok-removed.ensures c.new.ensures c.new-2.ensures
