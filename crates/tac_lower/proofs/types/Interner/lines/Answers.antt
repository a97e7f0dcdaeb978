use Rattle.std.proofs.Common.{◌≡◌, ◌++◌, [], ◌∷◌, map, rules, subst, sym}
use Rattle.tac_lower.specs.CodeOf.{all_of, finished, needs_in}
use Rattle.tac_lower.specs.tools.Interning.{Interned}
use Rattle.tac_lower.proofs.interned.DraftLaws.{all_lines_more, popped, all_popped}
use Rattle.tac_lower.proofs.interned.FewShapes.{few_lines}
use Rattle.tac_lower.proofs.types.Interner.lines.Goals as goal

pub loop-drafts-preserved : goal.loop-drafts-preserved
loop-drafts-preserved c =
    let seen = c.loop-drafts.invariant.0 in
    let drafts = c.in-Some.drafts in
    let more = seen ++ drafts ∷ [] in (
      more,
      popped c.args.drafts seen c.loop-drafts.left c.pop.new.self drafts c.loop-drafts.invariant.1 c.in-Some.ensures,
      subst (λ lines. Interned c.args.structs.now (map (λ i. i.object) (needs_in (all_of more))) (λ shape. map (λ ds. map (finished shape) ds) more) c.args.self.now c.lines_in.new.self lines) (sym c.in_ok-push.ensures.ok)
          (all_lines_more c.args.structs.now seen drafts c.args.self.now c.loop-drafts.self c.lines_in.new.self c.loop-drafts.lines c.in_ok-lines_in.field-0 c.loop-drafts.invariant.2 c.in_ok-lines_in.ensures),
    )

pub returns : goal.returns
returns c =
    let none : c.loop-drafts.left ≡ [] = search rules in
    subst (λ seen. Interned c.args.structs.now (map (λ i. i.object) (needs_in (all_of seen))) (λ shape. map (λ ds. map (finished shape) ds) seen) c.args.self.now c.loop-drafts.self c.loop-drafts.lines)
    (all_popped c.args.drafts c.loop-drafts.invariant.0 c.loop-drafts.left c.loop-drafts.invariant.1 none) c.loop-drafts.invariant.2

pub lines_in-requires-clause-few : goal.lines_in-requires-clause-few
lines_in-requires-clause-few c =
    few_lines c.args.structs.now c.args.self.now.shapes c.loop-drafts.self.shapes c.args.drafts c.loop-drafts.invariant.0 c.loop-drafts.left c.pop.new.self c.in-Some.drafts
    c.loop-drafts.invariant.1 c.in-Some.ensures c.loop-drafts.invariant.2.shapes c.requires.few
