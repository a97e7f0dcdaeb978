use Rattle.std.proofs.Common.{sym, ◌∙◌, subst}
use Rattle.std.specs.Prelude.{option_map}
use Rattle.tac_thread.specs.Threads.{life_in, name_number}
use Rattle.tac_thread.specs.Threads as tree
use Rattle.flat_core.specs.Stands.{history_of}
use Rattle.flat_core.proofs.Ending.{over_is, goes_on}
use Rattle.flat_core.proofs.Someone.{least_is}
use Rattle.flat_core.proofs.steps.Core.least.Goals as goal

pub returns-then-is_over : goal.returns-then-is_over
returns-then-is_over c = λ m input is. over_is m input c.args.self.now is (sym c.is_over.ensures ∙ c.if-is_over.true)

pub returns : goal.returns
returns c = λ m input is.
    let go = goes_on m input c.args.self.now is (sym c.is_over.ensures ∙ c.if-is_over.false) in
    least_is m input c.args.self.now (history_of c.args.self.now) (option_map name_number c.least.result) go
    (subst (λ core. tree.IsLeastOf (life_in core.threads) (option_map name_number c.least.result)) c.self.view_is c.least.ensures)
