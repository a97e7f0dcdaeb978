use Rattle.tac_thread.specs.Threads.{life_in}
use Rattle.tac_thread.specs.Threads.Resumes.{some_live}
use Rattle.tac_thread.proofs.Trees.{joined_settling, resumed_to}
use Rattle.tac_thread.proofs.tree.Tree.resume.Goals as goal

pub returns-then-has_branch-clause-resumes : goal.returns-then-has_branch-clause-resumes
returns-then-has_branch-clause-resumes g c = some_live _ _ _ (c.has_branch.ensures.lives c.if-has_branch.true)

pub settle-requires-clause-threads : goal.settle-requires-clause-threads
settle-requires-clause-threads g c =
    joined_settling g.D.Domain.meaning _ _ (life_in c.args.self.now) _ c.requires.tree c.join.ensures.joined (c.has_branch.ensures.none c.if-has_branch.false)

pub returns-clause-resumes : goal.returns-clause-resumes
returns-clause-resumes g c =
    resumed_to g.D.Domain.meaning _ _ (life_in c.args.self.now) _ _ _ _ _ (c.has_branch.ensures.none c.if-has_branch.false) c.join.ensures.joined c.join.ensures.done c.settle.ensures.settles
