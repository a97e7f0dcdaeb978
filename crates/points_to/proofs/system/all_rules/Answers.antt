use Rattle.std.proofs.Common.{◌++◌, ◌<◌, length, ap, ◌∙◌, arith}
use Rattle.points_to.specs.Systems.{rules_in, rules_from}
use Rattle.points_to.proofs.Named.{lines_are, fun_at}
use Rattle.points_to.proofs.Gathered.{rules_turn}
use Rattle.points_to.proofs.system.all_rules.Goals as goal

pub loop-fun-preserved : goal.loop-fun-preserved
loop-fun-preserved c =
    let code = c.args.c.now in
    let f = c.loop-fun.fun in
    let low : f < length code.funs = omega (arith, c.loop-fun-test.true, c.len-fun-end.ensures) in
    let one = fun_at code.funs f low in
    rules_turn code code.funs f one.0 c.loop-fun.rules c.push_fun.new.rules (rules_from code 0 code.funs) one.1 low
    (c.in_ok-push_fun.ensures ∙ ap (λ l. c.loop-fun.rules ++ rules_in code f l) (lines_are code f one.0 one.1)) c.loop-fun.invariant
