use Rattle.std.proofs.Common.{rules, ◌≡◌, ℕ, ◌+◌, ◌<◌, ◌≤◌, List, map, length, get_or, Ok, ap, sym, subst, arith}
use denote.Param.Weighed.{most, at_most, w_this}
use Rattle.c_typed.proofs.stmt.Stmt.TheLaws.{the_size}
use Rattle.c_typed.specs.declared.stmt.Branch.{Branch}
use Rattle.c_typed.specs.declared.stmt.Stmt.{Stmt}
use Rattle.c_typed.specs.declared.stmt.Stmt.TheShapes.{weighed-Stmt-Par-1-at-3}
use Rattle.c_typed.specs.Sites.{in_turn}
use Rattle.c_sites.specs.tools.Numbers.{Numbers, sited_branch}
use Rattle.c_sites.proofs.Branches.{par_numbered}
use Rattle.c_sites.proofs.stmts.+stmts.Goals as goal

abbrev depth : Stmt → ℕ
depth s = w_this.weight Stmt the_size s

abbrev branch_depth : Branch Stmt → ℕ
branch_depth b = weighed-Stmt-Par-1-at-3.weight Stmt the_size b

-- a branch is no deeper than all branches
no_deeper : (bs : List (Branch Stmt)) (i : ℕ) (b : Branch Stmt) → i < length bs → b ≡ get_or bs i b → most (w_this.weight Stmt the_size) b.body ≤ most branch_depth bs
no_deeper bs i b within is =
    let all : branch_depth b ≤ most branch_depth bs = subst (λ x. branch_depth x ≤ most branch_depth bs) (sym is) (at_most branch_depth bs i b within) in
    let same : most (w_this.weight Stmt the_size) b.body ≤ branch_depth b = omega arith in
    omega arith

pub branches-branch-alloc-requires : goal.branches-branch-alloc-requires
branches-branch-alloc-requires t c =
    let e = no_deeper c.args.bs.now c.loop-b.b-index c.b-item.result c.loop-b-test.true c.b-item.is in
    (omega (arith, e), tt)

pub branch-body-requires : goal.branch-body-requires
branch-body-requires t c =
    let items : c.as_slice.result.now ≡ c.args.b.now.body = search rules in
    let e = ap (most depth) items in
    (omega (arith, e), tt)

pub number-returns-in_ok-branches-in-Par : goal.number-returns-in_ok-branches-in-Par
number-returns-in_ok-branches-in-Par t c =
    let bs : c.as_slice-in-Par.result.now ≡ c.in-Par.bs = search rules in
    par_numbered c.args.s.now c.in-Par.line c.in-Par.bs c.in_ok-branches-in-Par.branches c.args.next.now c.branches.new.next c.in-Par.is
    (subst (λ bs. Numbers (Ok c.in_ok-branches-in-Par.branches) c.args.next.now c.branches.new.next (in_turn (map sited_branch bs))) bs c.in_ok-branches-in-Par.ensures)
