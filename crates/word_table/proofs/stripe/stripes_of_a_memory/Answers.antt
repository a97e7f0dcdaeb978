use Rattle.word_table.proofs.Striped.{whole_is_one, part_holds, others_stay}
use Rattle.word_table.proofs.stripe.stripes_of_a_memory.Goals as goal

pub returns-clause-whole : goal.returns-clause-whole
returns-clause-whole c = whole_is_one

pub returns-clause-part : goal.returns-clause-part
returns-clause-part c = part_holds

pub returns-clause-others : goal.returns-clause-others
returns-clause-others c = others_stay
