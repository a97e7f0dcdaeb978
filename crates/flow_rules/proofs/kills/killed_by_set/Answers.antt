use Rattle.std.proofs.Common.{◌∙◌, sym}
use Rattle.flow_rules.proofs.OneVariable.{killed_none}
use Rattle.flow_rules.proofs.kills.killed_by_set.Goals as goal

pub returns-else-is_of_one_variable : goal.returns-else-is_of_one_variable
returns-else-is_of_one_variable c =
    killed_none c.args.c.now c.requires.form c.args.fun c.args.place.now c.requires.place (λ one. (let clash = sym c.if-is_of_one_variable.false ∙ c.is_of_one_variable.ensures.1 one in cc))
