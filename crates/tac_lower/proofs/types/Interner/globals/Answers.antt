use Rattle.std.proofs.Common.{◌≡◌, ◌∙◌, ◌+◌, ◌++◌, [], ◌∷◌, ap, map, of_z, rules, sym, subst, take, to_z, w32, arith}
use Rattle.std.proofs.lemmas.List.{take_all}
use Rattle.tac_lower.specs.CodeOf.{global_of}
use Rattle.tac_lower.specs.tools.Interning.{Interned}
use Rattle.tac_lower.proofs.interned.InternedLists.{each_more}
use Rattle.tac_lower.proofs.interned.FewShapes.{few_each}
use Rattle.tac_lower.proofs.types.Interner.globals.Goals as goal

pub loop-global-preserved : goal.loop-global-preserved
loop-global-preserved c =
    let globals = c.args.globals.now in
    let i = c.loop-global.global-index in
    let global = c.global-item.result in
    let same : to_z w32 (of_z w32 global.start) ≡ global.start = search rules in
    subst (λ made. Interned c.args.structs.now (map (λ g. g.object) (take (i + 1) globals)) (λ shape. map (global_of shape) (take (i + 1) globals)) c.args.self.now c.number.new.self made)
    (ap (λ k. c.loop-global.made ++ record { shape = c.in_ok-shape.shape; start = k; line = global.line.0 } ∷ []) (sym same) ∙ sym c.in_ok-push.ensures.ok)
    (each_more c.args.structs.now (λ g. g.object) (λ n g. record { shape = n; start = g.start; line = g.line.0 }) globals i global
    c.args.self.now c.loop-global.self c.number.new.self c.loop-global.made c.in_ok-shape.shape c.loop-global-test.true c.global-item.is c.loop-global.invariant c.in_ok-shape.ensures)

pub returns : goal.returns
returns c =
    let globals = c.args.globals.now in
    subst (λ xs. Interned c.args.structs.now (map (λ g. g.object) xs) (λ shape. map (global_of shape) xs) c.args.self.now c.loop-global.self c.loop-global.made)
    (take_all c.loop-global.global-index globals (omega arith)) c.loop-global.invariant

pub number-requires-clause-few : goal.number-requires-clause-few
number-requires-clause-few c =
    few_each c.args.structs.now c.args.self.now.shapes c.loop-global.self.shapes (λ g. g.object) c.args.globals.now c.loop-global.global-index c.global-item.result
    c.loop-global-test.true c.global-item.is c.loop-global.invariant.shapes c.requires.few
