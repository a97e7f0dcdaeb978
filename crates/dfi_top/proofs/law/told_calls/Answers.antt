use Rattle.dfi_top.proofs.Complete.{complete, generates}
use Rattle.dfi_top.proofs.OneAnswer.{one_answer}
use Rattle.dfi_top.proofs.law.told_calls.Goals as goal

pub returns-clause-one : goal.returns-clause-one
returns-clause-one g c = one_answer g.L.Library.tells g.K.Sink.tells g.M.Library.tells g.J.Sink.tells

pub returns-clause-whole : goal.returns-clause-whole
returns-clause-whole g c = complete g.L.Library.tells g.K.Sink.tells

pub returns-clause-program : goal.returns-clause-program
returns-clause-program g c = generates g.L.Library.tells g.K.Sink.tells
