use Rattle.std.proofs.Common.{◌≡◌, ◌++◌, [], ◌∷◌, map, rules, subst, sym}
use Rattle.tac_lower.specs.CodeOf.{finished, needs_in}
use Rattle.tac_lower.specs.tools.Interning.{Interned}
use Rattle.tac_lower.proofs.interned.DraftLaws.{lines_more, popped, all_popped}
use Rattle.tac_lower.proofs.interned.FewShapes.{few_line}
use Rattle.tac_lower.proofs.types.Interner.lines_in.Goals as goal

pub loop-draft-preserved : goal.loop-draft-preserved
loop-draft-preserved c =
    let seen = c.loop-draft.invariant.0 in
    let draft = c.in-Some.draft in
    let more = seen ++ draft ∷ [] in (
      more,
      popped c.args.drafts seen c.loop-draft.left c.pop.new.self draft c.loop-draft.invariant.1 c.in-Some.ensures,
      subst (λ lines. Interned c.args.structs.now (map (λ i. i.object) (needs_in more)) (λ shape. map (finished shape) more) c.args.self.now c.line.new.self lines) (sym c.in_ok-push.ensures.ok)
          (lines_more c.args.structs.now seen draft c.args.self.now c.loop-draft.self c.line.new.self c.loop-draft.lines c.in_ok-line.field-0 c.loop-draft.invariant.2 c.in_ok-line.ensures),
    )

pub returns : goal.returns
returns c =
    let none : c.loop-draft.left ≡ [] = search rules in
    subst (λ seen. Interned c.args.structs.now (map (λ i. i.object) (needs_in seen)) (λ shape. map (finished shape) seen) c.args.self.now c.loop-draft.self c.loop-draft.lines)
    (all_popped c.args.drafts c.loop-draft.invariant.0 c.loop-draft.left c.loop-draft.invariant.1 none) c.loop-draft.invariant.2

pub line-requires-clause-few : goal.line-requires-clause-few
line-requires-clause-few c =
    few_line c.args.structs.now c.args.self.now.shapes c.loop-draft.self.shapes c.args.drafts c.loop-draft.invariant.0 c.loop-draft.left c.pop.new.self c.in-Some.draft
    c.loop-draft.invariant.1 c.in-Some.ensures c.loop-draft.invariant.2.shapes c.requires.few
