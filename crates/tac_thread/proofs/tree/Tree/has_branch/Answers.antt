use Rattle.std.proofs.Common.{◌∙◌, sym}
use Rattle.tac_thread.proofs.Trees.{found_branch}
use Rattle.tac_thread.proofs.tree.Tree.has_branch.Goals as goal

pub returns-then-contains_key-clause-lives : goal.returns-then-contains_key-clause-lives
returns-then-contains_key-clause-lives g c =
    λ _. found_branch _ c.args.self.now c.args.name c.loop-i.i c.self.view_is c.loop-i.auto.i c.loop-i-test.true (sym c.contains_key.ensures ∙ c.if-contains_key.true)
