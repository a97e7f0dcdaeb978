use Rattle.std.proofs.Common.{◌∙◌, ◌++◌, [], ap, map, subst, sym}
use Rattle.c_typed.specs.Typed.{Typed}
use Rattle.tac_lower.specs.CodeOf.{all_of, types_needed, code_with, finished, global_of, needs_in, site_of, sites_in, variables_in}
use Rattle.tac_lower.specs.Shapes.{shapes_from, shapes_of}
use Rattle.tac_lower.specs.tools.Interning.{AreFew, Interned, joined}
use Rattle.tac_lower.proofs.interned.DraftLaws.{objects}
use Rattle.tac_lower.proofs.interned.FewShapes.{few_globals, few_variables, few_new, few_named}
use Rattle.tac_lower.proofs.interned.WholeCode.{whole_code}
use Rattle.tac_lower.proofs.finish.finish.Goals as goal

pub returns : goal.returns
returns c =
    let inside = c.program.inside in
    let t : Typed = record { structs = inside.structs; globals = inside.globals; functions = inside.functions; main = inside.main } in
    let i0 = c.in_ok-interner.interner in
    let i1 = c.globals.new.self in
    let i2 = c.frames.new.self in
    let i3 = c.sites.new.self in
    let i4 = c.lines.new.self in
    let globals = c.in_ok-globals.globals in
    let frames = c.in_ok-frames.frames in
    let sites = c.in_ok-sites.sites in
    let lines = c.in_ok-lines.lines in
    let drafts = c.args.drafts in
    let structs = c.new-structs.ensures ∙ c.as_slice-items.ensures in
    let g = subst (λ xs. Interned t.structs (map (λ g. g.object) xs) (λ shape. map (global_of shape) xs) i0 i1 globals) c.as_slice.ensures
    (subst (λ ss. Interned ss (map (λ g. g.object) c.as_slice.result.now) (λ shape. map (global_of shape) c.as_slice.result.now) i0 i1 globals) structs c.in_ok-globals.ensures) in
    let f = subst (λ xs. Interned t.structs (variables_in xs) (λ shape. map (λ f. map (λ v. shape v.object) f.variables) xs) i1 i2 frames) c.as_slice-functions.ensures
    (subst (λ ss. Interned ss (variables_in c.as_slice-functions.result.now) (λ shape. map (λ f. map (λ v. shape v.object) f.variables) c.as_slice-functions.result.now) i1 i2 frames) structs c.in_ok-frames.ensures) in
    let s = subst (λ xs. Interned t.structs (map (λ i. i.object) (sites_in (all_of xs))) (λ shape. map (site_of shape) (sites_in (all_of xs))) i2 i3 sites) c.as_slice-2.ensures
    (subst (λ ss. Interned ss (map (λ i. i.object) (sites_in (all_of c.as_slice-2.result.now))) (λ shape. map (site_of shape) (sites_in (all_of c.as_slice-2.result.now))) i2 i3 sites) structs c.in_ok-sites.ensures) in
    let l = subst (λ ss. Interned ss (map (λ i. i.object) (needs_in (all_of drafts))) (λ shape. map (λ ds. map (finished shape) ds) drafts) i3 i4 lines) structs c.in_ok-lines.ensures in
    let join = c.in_ok-funs.ensures ∙ ap (λ fs. joined fs frames lines) c.as_slice-functions.ensures in
    whole_code t drafts i0 i1 i2 i3 i4 c.in_ok-shapes.shapes globals frames sites lines c.in_ok-funs.funs c.in_ok-interner.ensures.shapes g f s l join c.in_ok-shapes.ensures
    ∙ ap (λ t. code_with t drafts) c.program.view_is

pub globals-requires-clause-few : goal.globals-requires-clause-few
globals-requires-clause-few c =
    let inside = c.program.inside in
    let t : Typed = record { structs = inside.structs; globals = inside.globals; functions = inside.functions; main = inside.main } in
    let drafts = all_of c.args.drafts in
    let structs = c.new-structs.ensures ∙ c.as_slice-items.ensures in
    let begin = c.in_ok-interner.ensures.shapes in
    let all = subst (λ (t : Typed). AreFew (shapes_of t.structs (types_needed t drafts))) (sym c.program.view_is) c.requires in
    let gs = map (λ g. g.object) c.as_slice.result.now in
    let fs = variables_in c.as_slice-functions.result.now in
    let ss = objects (sites_in (all_of c.args.drafts)) in
    let ls = objects (needs_in drafts) in
    let few : AreFew (shapes_from c.new-structs.result c.in_ok-interner.interner.shapes (gs ++ fs ++ ss ++ ls)) =
    subst AreFew (λ j. shapes_from (sym structs j) (sym begin j) (map (λ g. g.object) (sym c.as_slice.ensures j) ++ variables_in (sym c.as_slice-functions.ensures j) ++ ss ++ ls)) all in
    few_globals c.new-structs.result gs fs ss ls c.in_ok-interner.interner.shapes [] [] [] few

pub frames-requires-clause-few : goal.frames-requires-clause-few
frames-requires-clause-few c =
    let inside = c.program.inside in
    let t : Typed = record { structs = inside.structs; globals = inside.globals; functions = inside.functions; main = inside.main } in
    let drafts = all_of c.args.drafts in
    let structs = c.new-structs.ensures ∙ c.as_slice-items.ensures in
    let begin = c.in_ok-interner.ensures.shapes in
    let all = subst (λ (t : Typed). AreFew (shapes_of t.structs (types_needed t drafts))) (sym c.program.view_is) c.requires in
    let gs = map (λ g. g.object) c.as_slice.result.now in
    let fs = variables_in c.as_slice-functions.result.now in
    let ss = objects (sites_in (all_of c.args.drafts)) in
    let ls = objects (needs_in drafts) in
    let few : AreFew (shapes_from c.new-structs.result c.in_ok-interner.interner.shapes (gs ++ fs ++ ss ++ ls)) =
    subst AreFew (λ j. shapes_from (sym structs j) (sym begin j) (map (λ g. g.object) (sym c.as_slice.ensures j) ++ variables_in (sym c.as_slice-functions.ensures j) ++ ss ++ ls)) all in
    few_variables c.new-structs.result gs fs ss ls c.in_ok-interner.interner.shapes c.globals.new.self.shapes [] [] few c.in_ok-globals.ensures.shapes

pub sites-requires-clause-few : goal.sites-requires-clause-few
sites-requires-clause-few c =
    let inside = c.program.inside in
    let t : Typed = record { structs = inside.structs; globals = inside.globals; functions = inside.functions; main = inside.main } in
    let drafts = all_of c.args.drafts in
    let structs = c.new-structs.ensures ∙ c.as_slice-items.ensures in
    let begin = c.in_ok-interner.ensures.shapes in
    let all = subst (λ (t : Typed). AreFew (shapes_of t.structs (types_needed t drafts))) (sym c.program.view_is) c.requires in
    let gs = map (λ g. g.object) c.as_slice.result.now in
    let fs = variables_in c.as_slice-functions.result.now in
    let ss = objects (sites_in (all_of c.as_slice-2.result.now)) in
    let ls = objects (needs_in drafts) in
    let few : AreFew (shapes_from c.new-structs.result c.in_ok-interner.interner.shapes (gs ++ fs ++ ss ++ ls)) =
    subst AreFew (λ j. shapes_from (sym structs j) (sym begin j) (map (λ g. g.object) (sym c.as_slice.ensures j) ++ variables_in (sym c.as_slice-functions.ensures j) ++ objects (sites_in (all_of (sym c.as_slice-2.ensures j))) ++ ls)) all in
    few_new c.new-structs.result gs fs ss ls c.in_ok-interner.interner.shapes c.globals.new.self.shapes c.frames.new.self.shapes [] few c.in_ok-globals.ensures.shapes c.in_ok-frames.ensures.shapes

pub lines-requires-clause-few : goal.lines-requires-clause-few
lines-requires-clause-few c =
    let inside = c.program.inside in
    let t : Typed = record { structs = inside.structs; globals = inside.globals; functions = inside.functions; main = inside.main } in
    let drafts = all_of c.args.drafts in
    let structs = c.new-structs.ensures ∙ c.as_slice-items.ensures in
    let begin = c.in_ok-interner.ensures.shapes in
    let all = subst (λ (t : Typed). AreFew (shapes_of t.structs (types_needed t drafts))) (sym c.program.view_is) c.requires in
    let gs = map (λ g. g.object) c.as_slice.result.now in
    let fs = variables_in c.as_slice-functions.result.now in
    let ss = objects (sites_in (all_of c.as_slice-2.result.now)) in
    let ls = objects (needs_in drafts) in
    let few : AreFew (shapes_from c.new-structs.result c.in_ok-interner.interner.shapes (gs ++ fs ++ ss ++ ls)) =
    subst AreFew (λ j. shapes_from (sym structs j) (sym begin j) (map (λ g. g.object) (sym c.as_slice.ensures j) ++ variables_in (sym c.as_slice-functions.ensures j) ++ objects (sites_in (all_of (sym c.as_slice-2.ensures j))) ++ ls)) all in
    few_named c.new-structs.result gs fs ss ls c.in_ok-interner.interner.shapes c.globals.new.self.shapes c.frames.new.self.shapes c.sites.new.self.shapes few c.in_ok-globals.ensures.shapes c.in_ok-frames.ensures.shapes
    c.in_ok-sites.ensures.shapes
