use Rattle.std.proofs.Common.{◌∙◌}
use Rattle.tac_thread.specs.Threads.{life_in}
use Rattle.tac_thread.proofs.Forking.{free_for, planted_lives, forking_is, stuck_tree, forked_tree, forking_waits, forked_is}
use Rattle.tac_thread.proofs.tree.Tree.fork.Goals as goal

pub returns-then-is_deep-clause-tree : goal.returns-then-is_deep-clause-tree
returns-then-is_deep-clause-tree g c =
    stuck_tree g.D.Domain.meaning _ (life_in c.args.self.now) _ _ _ _ _ c.requires.tree c.requires.kind c.wait.ensures

pub plant-requires-clause-free : goal.plant-requires-clause-free
plant-requires-clause-free g c =
    free_for g.D.Domain.meaning _ (life_in c.args.self.now) _ _ _ c.requires.form c.requires.tree c.requires.kind c.in_ok-branches.ensures

pub wait-requires-2 : goal.wait-requires-2
wait-requires-2 g c =
    planted_lives g.D.Domain.meaning _ (life_in c.args.self.now) (life_in c.plant.new.self) _ _ _ c.requires.tree c.in_ok-branches.ensures c.in_ok-plant.ensures.planted

pub resume-requires-clause-tree : goal.resume-requires-clause-tree
resume-requires-clause-tree g c =
    let here = forking_is g.D.Domain.meaning _ (life_in c.args.self.now) (life_in c.plant.new.self) (life_in c.wait-2.new.self) _ _ _ _ _ c.in_ok-branches.ensures
    c.requires.form c.requires.tree c.requires.kind c.in_ok-plant.ensures.planted c.wait-2.ensures in
    forked_tree g.D.Domain.meaning _ _ _ _ _ _ here

pub resume-requires-clause-waits : goal.resume-requires-clause-waits
resume-requires-clause-waits g c =
    let here = forking_is g.D.Domain.meaning _ (life_in c.args.self.now) (life_in c.plant.new.self) (life_in c.wait-2.new.self) _ _ _ _ _ c.in_ok-branches.ensures
    c.requires.form c.requires.tree c.requires.kind c.in_ok-plant.ensures.planted c.wait-2.ensures in
    forking_waits g.D.Domain.meaning _ _ _ _ _ _ here

pub returns-clause-forks : goal.returns-clause-forks
returns-clause-forks g c =
    let here = forking_is g.D.Domain.meaning _ (life_in c.args.self.now) (life_in c.plant.new.self) (life_in c.wait-2.new.self) _ _ _ _ _ c.in_ok-branches.ensures
    c.requires.form c.requires.tree c.requires.kind c.in_ok-plant.ensures.planted c.wait-2.ensures in
    forked_is g.D.Domain.meaning _ (life_in c.args.self.now) (life_in c.wait-2.new.self) _ _ _ _ _ _ _ c.in_ok-branches.ensures here (c.is_deep.ensures.bound c.if-is_deep.false)
    (c.wait-2.ensures.done ∙ c.in_ok-plant.ensures.done) c.resume.ensures.resumes
