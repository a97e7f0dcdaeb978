use Rattle.std.proofs.Common.{◌++◌, refl}
use Rattle.src_law.proofs.Prefixes.{front_cut}
use Rattle.src_law.proofs.Memory.{go_back}
use Rattle.src_law.proofs.traces_begin_alike.Goals as goal

pub returns-clause-traces : goal.returns-clause-traces
returns-clause-traces c = λ body n k a s t r trace. front_cut body n k a (s ++ t) r trace s t refl

pub returns-clause-histories : goal.returns-clause-histories
returns-clause-histories c = go_back
