use Rattle.std.proofs.Common.{◌≡◌, ℕ, suc, ◌+◌, ◌-◌, ◌≤◌, get_or, Some, subst, arith}
use Rattle.std.specs.Prelude.{slice_get}
use Rattle.tac_ir.specs.Regions.{regions_of}
use Rattle.par_interfere.specs.tools.Spans.{region_at}
use Rattle.par_interfere.proofs.BranchLists.{before_next, before_join, entry_positive, join_positive}
use Rattle.par_interfere.proofs.branches.last_of.Goals as goal

next : (n : ℕ) → suc n ≡ n + 1
next n = omega arith

pub overflow_sub-result : goal.overflow_sub-result
overflow_sub-result c =
    subst (λ k. 1 ≤ get_or c.args.entries.now k 0) (next c.args.branch) (entry_positive c.args.entries.now c.args.join c.args.branch c.requires.ascends c.if-branch-entries.true)

pub overflow_sub-result-else-branch-entries : goal.overflow_sub-result-else-branch-entries
overflow_sub-result-else-branch-entries c = join_positive c.args.entries.now c.args.join c.args.branch c.requires.ascends c.requires.branch

pub returns-then-branch-entries : goal.returns-then-branch-entries
returns-then-branch-entries c fork =
    subst (λ k. slice_get (regions_of fork c.args.join c.args.entries.now) c.args.branch ≡ Some (region_at fork (get_or c.args.entries.now c.args.branch 0) (get_or c.args.entries.now k 0 - 1)))
    (next c.args.branch) (before_next fork c.args.join c.args.entries.now c.args.branch c.if-branch-entries.true)

pub returns-else-branch-entries : goal.returns-else-branch-entries
returns-else-branch-entries c fork = before_join fork c.args.join c.args.entries.now c.args.branch c.requires.branch c.if-branch-entries.false
