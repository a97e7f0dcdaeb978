use Rattle.std.proofs.Common.{◌+◌, ◌<◌, length}
use Rattle.tac_ir.specs.Layout.{parts_of}
use Rattle.tac_ir.specs.GoodForm.{GoodForm}
use Rattle.test_threads.proofs.Forms.{known_code}
use Rattle.test_threads.proofs.DeepForm.{deep_good, pair_last}
use Rattle.test_threads.proofs.deep.deep.Goals as goal

pub returns-clause-form : goal.returns-clause-form
returns-clause-form c = known_code GoodForm _ (deep_good c.args.nesting c.args.depth c.requires) _ c.deep_code.ensures

pub returns-clause-parts : goal.returns-clause-parts
returns-clause-parts c = known_code (λ code. 1 < length (parts_of code (c.args.depth + 2))) _ (pair_last c.args.nesting c.args.depth) _ c.deep_code.ensures
