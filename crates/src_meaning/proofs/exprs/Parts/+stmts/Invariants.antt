use Rattle.std.proofs.Common.{◌≡◌, ℕ, ◌+◌, ◌-◌, ◌*◌, drop, map}
use denote.Param.Weighed.{most, w_this}
use Rattle.c_typed.proofs.stmt.Stmt.TheLaws.{the_size}
use Rattle.c_typed.specs.declared.stmt.Branch.{Branch}
use Rattle.c_typed.specs.declared.stmt.Stmt.{Stmt}
use Rattle.c_typed.specs.declared.stmt.Stmt.TheShapes.{weighed-Stmt-Par-1-at-3}
use Rattle.src_law.specs.Acts.{an_end}
use Rattle.src_law.specs.Program.{body}
use Rattle.src_law.specs.Stmts as spec
use Rattle.src_law.specs.tools.Reader.{reads}
use Rattle.src_meaning.specs.tools.Levels.{seen, program_of}
use Rattle.src_meaning.proofs.exprs.Parts.+stmts.Given as goal

-- Each call is made for a part that is less deep, or for one as deep by a function that is named earlier here, or with a turn less.
abbrev depth : Stmt → ℕ
depth s = w_this.weight Stmt the_size s

abbrev branch_depth : Branch Stmt → ℕ
branch_depth b = weighed-Stmt-Par-1-at-3.weight Stmt the_size b

-- of two the deeper one
abbrev deeper : ℕ → ℕ → ℕ
deeper a b = a + (b - a)

abbrev pub decreases-stmt : goal.decreases-stmt
decreases-stmt g l = 2 * l.self.now.level.fuel + 8 * depth l.s.now

abbrev pub decreases-inner : goal.decreases-inner
decreases-inner g l = 2 * l.self.now.level.fuel + (8 * depth l.s.now + 1)

abbrev pub decreases-stmts : goal.decreases-stmts
decreases-stmts g l = 2 * l.self.now.level.fuel + (8 * most depth l.items.now + 1)

abbrev pub decreases-when : goal.decreases-when
decreases-when g l = 2 * l.self.now.level.fuel + (8 * depth l.first.now + 2)

abbrev pub decreases-choose : goal.decreases-choose
decreases-choose g l = 2 * l.self.now.level.fuel + (8 * deeper (depth l.first.now) (depth l.second.now) + 2)

abbrev pub decreases-while_loop : goal.decreases-while_loop
decreases-while_loop g l = 2 * l.self.now.level.fuel + (8 * depth l.body.now + 2)

abbrev pub decreases-while_turn : goal.decreases-while_turn
decreases-while_turn g l = 2 * l.self.now.level.fuel + (8 * depth l.body.now + 3)

abbrev pub decreases-for_loop : goal.decreases-for_loop
decreases-for_loop g l = 2 * l.self.now.level.fuel + (8 * deeper (depth l.body.now) (depth l.step.now) + 2)

abbrev pub decreases-for_turn : goal.decreases-for_turn
decreases-for_turn g l = 2 * l.self.now.level.fuel + (8 * deeper (depth l.body.now) (depth l.step.now) + 3)

abbrev pub decreases-counted_loop : goal.decreases-counted_loop
decreases-counted_loop g l = 2 * l.self.now.level.fuel + (8 * deeper (depth l.start.now) (deeper (depth l.body.now) (depth l.step.now)) + 4)

abbrev pub decreases-branch_body : goal.decreases-branch_body
decreases-branch_body g l = 2 * l.self.now.level.fuel + (8 * most depth l.body.now + 2)

abbrev pub decreases-branch : goal.decreases-branch
decreases-branch g l = 2 * l.self.now.level.fuel + (8 * most branch_depth l.branches.now + 3)

abbrev pub decreases-par : goal.decreases-par
decreases-par g l = 2 * l.self.now.level.fuel + (8 * most branch_depth l.branches.now + 4)

-- what reads the other statements now reads all
abbrev pub invariant-stmts-loop-s : goal.invariant-stmts-loop-s
invariant-stmts-loop-s g l =
    reads (body (program_of l.self.level.program)) l.self.level.fuel an_end (spec.in_turn (map (spec.stmt (seen l.self.level)) (drop l.s-index l.items))) l.heard
    ≡ reads (body (program_of l.self.level.program)) l.self.level.fuel an_end (spec.in_turn (map (spec.stmt (seen l.self.level)) l.items)) l.fn.heard
