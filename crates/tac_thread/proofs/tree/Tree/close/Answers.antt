use Rattle.std.proofs.Common.{◌∙◌, ap, sym}
use Rattle.tac_thread.specs.Threads.{life_in}
use Rattle.tac_thread.proofs.Trees.{stays_here, main_stops, others_stay, removed_tree, parent_waits, closed_to}
use Rattle.tac_thread.proofs.tree.Tree.close.Goals as goal

pub returns-in-None-clause-stops : goal.returns-in-None-clause-stops
returns-in-None-clause-stops g c = λ _. stays_here g.D.Domain.meaning _ _ (life_in c.args.self.now) _ _ c.ended.ensures c.in-None.is

pub returns-then-name-eq1-clause-stops : goal.returns-then-name-eq1-clause-stops
returns-then-name-eq1-clause-stops g c =
    let ends = sym c.ended.ensures ∙ c.in-Some.is in
    λ _. main_stops g.D.Domain.meaning _ _ (life_in c.args.self.now) _ _ _ _ c.if-name-eq1.true ends c.main_value.ensures (λ k. ap (λ t. life_in t k) c.self.view_is ∙ c.remove.ensures.lives k)

pub returns-then-name-eq1-clause-tree : goal.returns-then-name-eq1-clause-tree
returns-then-name-eq1-clause-tree g c =
    let ends = sym c.ended.ensures ∙ c.in-Some.is in
    λ _. removed_tree g.D.Domain.meaning _ _ (life_in c.args.self.now) _ _ c.requires.threads ends (λ k. ap (λ t. life_in t k) c.self.view_is ∙ c.remove.ensures.lives k)

pub returns-then-has_branch-clause-stops : goal.returns-then-has_branch-clause-stops
returns-then-has_branch-clause-stops g c =
    let ends = sym c.ended.ensures ∙ c.in-Some.is in
    λ _. others_stay g.D.Domain.meaning _ _ (life_in c.args.self.now) _ _ _ _ c.if-name-eq1.false ends c.remove.ensures.lives (c.has_branch.ensures.lives c.if-has_branch.true) c.remove.ensures.done

pub returns-then-has_branch-clause-tree : goal.returns-then-has_branch-clause-tree
returns-then-has_branch-clause-tree g c =
    let ends = sym c.ended.ensures ∙ c.in-Some.is in
    λ _. removed_tree g.D.Domain.meaning _ _ (life_in c.args.self.now) _ _ c.requires.threads ends c.remove.ensures.lives

pub join-requires-clause-waits : goal.join-requires-clause-waits
join-requires-clause-waits g c =
    let ends = sym c.ended.ensures ∙ c.in-Some.is in
    parent_waits g.D.Domain.meaning _ _ (life_in c.args.self.now) _ _ c.requires.threads c.if-name-eq1.false ends c.remove.ensures.lives

pub returns-clause-goes_on : goal.returns-clause-goes_on
returns-clause-goes_on g c =
    let ends = sym c.ended.ensures ∙ c.in-Some.is in
    λ _. closed_to g.D.Domain.meaning _ _ (life_in c.args.self.now) _ _ _ _ _ c.requires.threads c.if-name-eq1.false ends c.remove.ensures.lives (c.has_branch.ensures.none c.if-has_branch.false) c.join.ensures.joined (c.join.ensures.done ∙ c.remove.ensures.done)
