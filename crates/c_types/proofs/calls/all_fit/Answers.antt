use Rattle.c_types.proofs.MemberLaws.{fit_unlike}
use Rattle.c_types.proofs.calls.all_fit.Goals as goal

pub returns-then-values-parameters : goal.returns-then-values-parameters
returns-then-values-parameters c = fit_unlike c.args.values.now c.args.parameters.now c.if-values-parameters.true
