use Rattle.std.proofs.Common.{◌+◌, map, sym, subst, take, arith}
use Rattle.std.proofs.lemmas.List.{take_all}
use Rattle.tac_lower.specs.tools.Interning.{Interned}
use Rattle.tac_lower.proofs.interned.InternedLists.{each_more}
use Rattle.tac_lower.proofs.interned.FewShapes.{few_each}
use Rattle.tac_lower.proofs.types.Interner.variables.Goals as goal

pub loop-variable-preserved : goal.loop-variable-preserved
loop-variable-preserved c =
    let variables = c.args.variables.now in
    let i = c.loop-variable.variable-index in
    subst (λ made. Interned c.args.structs.now (map (λ v. v.object) (take (i + 1) variables)) (λ shape. map (λ v. shape v.object) (take (i + 1) variables)) c.args.self.now c.number.new.self made)
    (sym c.in_ok-push.ensures.ok)
    (each_more c.args.structs.now (λ v. v.object) (λ n v. n) variables i c.variable-item.result
    c.args.self.now c.loop-variable.self c.number.new.self c.loop-variable.made c.in_ok-shape.shape c.loop-variable-test.true c.variable-item.is c.loop-variable.invariant c.in_ok-shape.ensures)

pub returns : goal.returns
returns c =
    let variables = c.args.variables.now in
    subst (λ xs. Interned c.args.structs.now (map (λ v. v.object) xs) (λ shape. map (λ v. shape v.object) xs) c.args.self.now c.loop-variable.self c.loop-variable.made)
    (take_all c.loop-variable.variable-index variables (omega arith)) c.loop-variable.invariant

pub number-requires-clause-few : goal.number-requires-clause-few
number-requires-clause-few c =
    few_each c.args.structs.now c.args.self.now.shapes c.loop-variable.self.shapes (λ v. v.object) c.args.variables.now c.loop-variable.variable-index c.variable-item.result
    c.loop-variable-test.true c.variable-item.is c.loop-variable.invariant.shapes c.requires.few
