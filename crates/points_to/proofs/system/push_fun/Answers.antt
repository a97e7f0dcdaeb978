use Rattle.std.proofs.Common.{◌≡◌, ◌++◌, ◌<◌, Some, length, ap, sym, ◌∙◌, subst}
use Rattle.std.specs.Prelude.{slice_get}
use Rattle.std.proofs.lemmas.List.{append-nil, drop_all}
use Rattle.std.proofs.lemmas.Option.{slice_get-get_or}
use Rattle.tac_ir.specs.declared.code.Fun.{Fun}
use Rattle.points_to.specs.Systems.{rules_in}
use Rattle.points_to.proofs.Named.{stands, lines_are}
use Rattle.points_to.proofs.system.push_fun.Goals as goal

pub push_rules-requires-clause-here : goal.push_rules-requires-clause-here
push_rules-requires-clause-here c =
    let code = c.args.c.now in
    let f = c.args.fun in
    let fun = c.index-as_slice-fun.result in
    let items = c.as_slice-line-items.result.now in
    let at = c.loop-line.line-index in
    let found : slice_get code.funs f ≡ Some fun =
    ap (λ l. slice_get l f) (sym c.as_slice.ensures) ∙ slice_get-get_or c.as_slice.result.now f fun (subst (λ l. f < length l) (sym c.as_slice.ensures) c.requires.fun)
    ∙ ap Some (sym c.index-as_slice-fun.is) in
    let are : fun.code ≡ items = ap (λ (x : Fun). x.code) c.index-as_slice-fun.is ∙ sym c.as_slice-line-items.ensures in
    stands code c.requires.form f fun at c.line-item.result found
    (ap (λ l. slice_get l at) are ∙ slice_get-get_or items at c.line-item.result c.loop-line-test.true ∙ ap Some (sym c.line-item.is))

pub returns : goal.returns
returns c =
    let code = c.args.c.now in
    let f = c.args.fun in
    let fun = c.index-as_slice-fun.result in
    let items = c.as_slice-line-items.result.now in
    let found : slice_get code.funs f ≡ Some fun =
    ap (λ l. slice_get l f) (sym c.as_slice.ensures) ∙ slice_get-get_or c.as_slice.result.now f fun (subst (λ l. f < length l) (sym c.as_slice.ensures) c.requires.fun)
    ∙ ap Some (sym c.index-as_slice-fun.is) in
    let are : fun.code ≡ items = ap (λ (x : Fun). x.code) c.index-as_slice-fun.is ∙ sym c.as_slice-line-items.ensures in
    sym (append-nil c.loop-line.rules)
    ∙ ap (λ l. c.loop-line.rules ++ rules_in code f l) (sym (drop_all c.loop-line.line-index items c.loop-line-test.false))
    ∙ c.loop-line.invariant
    ∙ ap (λ l. c.args.rules.now ++ rules_in code f l) (sym (lines_are code f fun found ∙ are))
