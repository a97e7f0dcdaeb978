use Rattle.std.proofs.Common.{arith}
use Rattle.line_writer.proofs.Lining.{any_fit}
use Rattle.line_writer.proofs.lists.numbers.Goals as goal

pub returns-clause-fit : goal.returns-clause-fit
returns-clause-fit c = any_fit c.args.numbers.now (λ k. omega (arith, c.type_inv.numbers k))
