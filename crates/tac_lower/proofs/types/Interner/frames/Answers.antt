use Rattle.std.proofs.Common.{◌+◌, map, sym, subst, take, arith}
use Rattle.std.proofs.lemmas.List.{take_all}
use Rattle.tac_lower.specs.CodeOf.{variables_in}
use Rattle.tac_lower.specs.Shapes.{shapes_from}
use Rattle.tac_lower.specs.tools.Interning.{AreFew, Interned}
use Rattle.tac_lower.proofs.interned.DraftLaws.{frames_more}
use Rattle.tac_lower.proofs.interned.FewShapes.{few_frame}
use Rattle.tac_lower.proofs.types.Interner.frames.Goals as goal

pub loop-function-preserved : goal.loop-function-preserved
loop-function-preserved c =
    let functions = c.args.functions.now in
    let i = c.loop-function.function-index in
    let frame = subst (λ vs. Interned c.args.structs.now (map (λ v. v.object) vs) (λ shape. map (λ v. shape v.object) vs) c.loop-function.self c.variables.new.self c.in_ok-frame.frame)
    c.as_slice.ensures c.in_ok-frame.ensures in
    subst (λ made. Interned c.args.structs.now (variables_in (take (i + 1) functions)) (λ shape. map (λ f. map (λ v. shape v.object) f.variables) (take (i + 1) functions)) c.args.self.now c.variables.new.self made)
    (sym c.in_ok-push.ensures.ok)
    (frames_more c.args.structs.now functions i c.function-item.result c.args.self.now c.loop-function.self c.variables.new.self c.loop-function.made c.in_ok-frame.frame
    c.loop-function-test.true c.function-item.is c.loop-function.invariant frame)

pub returns : goal.returns
returns c =
    subst (λ xs. Interned c.args.structs.now (variables_in xs) (λ shape. map (λ f. map (λ v. shape v.object) f.variables) xs) c.args.self.now c.loop-function.self c.loop-function.made)
    (take_all c.loop-function.function-index c.args.functions.now (omega arith)) c.loop-function.invariant

pub variables-requires-clause-few : goal.variables-requires-clause-few
variables-requires-clause-few c =
    let few = few_frame c.args.structs.now c.args.self.now.shapes c.loop-function.self.shapes c.args.functions.now c.loop-function.function-index c.function-item.result
    c.loop-function-test.true c.function-item.is c.loop-function.invariant.shapes c.requires.few in
    subst (λ vs. AreFew (shapes_from c.args.structs.now c.loop-function.self.shapes (map (λ v. v.object) vs))) (sym c.as_slice.ensures) few
