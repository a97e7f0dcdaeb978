use Rattle.std.proofs.Common.{ℕ, ◌+◌, ◌*◌, drop, map, Result}
use Rattle.tac_lower.specs.declared.writer.Writer.{Writer}
use Rattle.tac_lower.specs.declared.writer.Stop.{Stop}
use Rattle.tac_lower.specs.Parts.{in_turn}
use Rattle.tac_lower.specs.Stmts.{around_by, stmt}
use Rattle.tac_lower.specs.tools.Emits.{Emits}
use Rattle.tac_lower.specs.tools.Nested.{branch}
use Rattle.tac_lower.proofs.emitted.Turns.{Rest}
use Rattle.tac_lower.proofs.emitted.Forking.{Forking}
use Rattle.tac_lower.proofs.emitted.StmtWeights.{weight, total, bodies}
use Rattle.tac_lower.proofs.writer.Writer.+stmts.Given as goal

-- whatever emits the other statements now has emitted all
abbrev pub invariant-stmts-loop-s : goal.invariant-stmts-loop-s
invariant-stmts-loop-s l =
    (new : Writer) (r : Result ℕ Stop)
    → Rest (stmt (around_by l.structs l.in_main)) l.items l.s-index l.ends l.self new r
    → Emits (in_turn (map (stmt (around_by l.structs l.in_main)) l.items)) l.ends l.fn.self new r

-- the same for branches
abbrev pub invariant-branches-loop-b : goal.invariant-branches-loop-b
invariant-branches-loop-b l =
    (new : Writer) (r : Result ℕ Stop)
    → Rest (branch (around_by l.structs l.in_main)) l.branches l.b-index l.ends l.self new r
    → Emits (in_turn (map (branch (around_by l.structs l.in_main)) l.branches)) l.ends l.fn.self new r

abbrev pub invariant-fork-loop-b : goal.invariant-fork-loop-b
invariant-fork-loop-b l =
    Forking (l.self.next.at + 1) (map (branch (around_by l.structs l.in_main)) l.branches) (map (branch (around_by l.structs l.in_main)) (drop l.b-index l.branches))
    l.self.room l.join l.entries

-- Each call is made for a part, or for one as large by a function that is named later here.
abbrev pub decreases-stmt : goal.decreases-stmt
decreases-stmt l = 8 * weight l.s.now

abbrev pub decreases-points : goal.decreases-points
decreases-points l = 8 * weight l.s.now + 1

abbrev pub decreases-when : goal.decreases-when
decreases-when l = 8 * weight l.first.now + 2

abbrev pub decreases-otherwise : goal.decreases-otherwise
decreases-otherwise l = 8 * weight l.second.now + 2

abbrev pub decreases-while_loop : goal.decreases-while_loop
decreases-while_loop l = 8 * weight l.body.now + 2

abbrev pub decreases-stmts : goal.decreases-stmts
decreases-stmts l = 8 * total l.items.now + 2

abbrev pub decreases-branch : goal.decreases-branch
decreases-branch l = 8 * total l.body.now + 3

abbrev pub decreases-branch_points : goal.decreases-branch_points
decreases-branch_points l = 8 * total l.body.now + 4

abbrev pub decreases-fork : goal.decreases-fork
decreases-fork l = 8 * bodies l.branches.now + 5

abbrev pub decreases-branches : goal.decreases-branches
decreases-branches l = 8 * bodies l.branches.now + 5

abbrev pub decreases-par : goal.decreases-par
decreases-par l = 8 * bodies l.branches.now + 6
