use Rattle.std.proofs.Common.{◌≡◌, ℕ, List, [], ◌∷◌, ◌++◌, Some, get_or, reverse, take, ap, sym, subst, ◌∙◌}
use Rattle.tac_ir.specs.declared.code.Lined.{Lined}
use Rattle.first_module.specs.SetsOf.{set_by, sets_behind}
use Rattle.first_module.specs.tools.Steps.{sets_in, step_of}
use Rattle.first_module.specs.tools.Trail.{HasTrail, NamesWithin}
use Rattle.first_module.proofs.TrailLemmas.{earlier-more, in_list, names-here, plain, sets-added, sets-more, straight-more, trail-more}
use Rattle.first_module.proofs.straight.straight_sets.Goals as goal

pub loop-lined-preserved : goal.loop-lined-preserved
loop-lined-preserved c =
    let code = c.args.code.now in
    let n = c.args.globals in
    let i = c.loop-lined.lined-index in
    let l = c.lined-item.result in
    let within = c.loop-lined-test.true in
    let is = c.lined-item.is in
    let before = c.loop-lined.invariant in
    let earlier = reverse (take i code) in
    let behind = c.loop-lined.behind.items in
    let definitions = c.loop-lined.definitions.items in
    let sets = c.loop-lined.sets in
    let step = c.in-Some.step in
    let step-is : step_of (in_list behind) l.instr ≡ Some step
    = ap (λ xs. step_of (in_list xs) l.instr) (sym c.deref.ensures.value) ∙ sym c.step_of.ensures ∙ c.in-Some.is in
    let names = names-here code i l within is (λ (l : Lined). NamesWithin n l.instr) c.requires.names in
    let next = c.move_pointer.new.behind.items in
    let more = trail-more n earlier behind definitions before.trail l step step-is names next c.in_ok-move_pointer.ensures in
    let added : c.add_set.new.sets ≡ sets ++ set_by earlier l.instr
    = c.in_ok-add_set.ensures
    ∙ ap (λ (ds : List (List ℕ)). sets ++ sets_in (λ g. get_or ds g []) step) c.deref-in-loop-lined.ensures.value
    ∙ ap (λ xs. sets ++ xs) (sets-added n earlier behind definitions before.trail l step step-is names) in
    record {
      trail = subst (λ (e : List Lined). HasTrail n e next c.add_definition.new.definitions.items) (sym (earlier-more code i l within is))
          (subst (λ ds. HasTrail n (l ∷ earlier) next ds) (sym c.in_ok-add_definition.ensures) more);
      straight = straight-more code i l within is (plain n earlier behind definitions before.trail l step step-is) ∙ before.straight;
      told = sets-more code i l within is sets c.add_set.new.sets (sets_behind [] code) before.told added;
    }
