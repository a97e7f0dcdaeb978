use Rattle.std.proofs.Common.{ℕ, ◌+◌, ◌*◌}
use denote.Param.Weighed.{most, w_this}
use Rattle.c_typed.proofs.stmt.Stmt.TheLaws.{the_size}
use Rattle.c_typed.specs.declared.stmt.Branch.{Branch}
use Rattle.c_typed.specs.declared.stmt.Stmt.{Stmt}
use Rattle.c_typed.specs.declared.stmt.Stmt.TheShapes.{weighed-Stmt-Par-1-at-3}
use Rattle.c_typed.specs.Sites.{stmt}
use Rattle.c_sites.specs.tools.Numbers.{sited_branch}
use Rattle.c_sites.proofs.Loops.{SoFar}
use Rattle.c_sites.proofs.stmts.+stmts.Given as goal

abbrev pub invariant-body-loop-s : goal.invariant-body-loop-s
invariant-body-loop-s l = SoFar stmt l.ss l.initial.next l.numbered l.next l.s-index

abbrev pub invariant-branches-loop-b : goal.invariant-branches-loop-b
invariant-branches-loop-b l = SoFar sited_branch l.bs l.initial.next l.numbered l.next l.b-index

-- Each call is made for a part that is less deep, or for one as deep by a function that is named later here.
abbrev depth : Stmt → ℕ
depth s = w_this.weight Stmt the_size s

abbrev branch_depth : Branch Stmt → ℕ
branch_depth b = weighed-Stmt-Par-1-at-3.weight Stmt the_size b

abbrev pub decreases-number : goal.decreases-number
decreases-number l = 8 * depth l.s.now

abbrev pub decreases-boxed : goal.decreases-boxed
decreases-boxed l = 8 * depth l.s.now + 1

abbrev pub decreases-body : goal.decreases-body
decreases-body l = 8 * most depth l.ss.now + 2

abbrev pub decreases-branch : goal.decreases-branch
decreases-branch l = 8 * most depth l.b.now.body + 3

abbrev pub decreases-branches : goal.decreases-branches
decreases-branches l = 8 * most branch_depth l.bs.now + 5
