use Rattle.std.proofs.Common.{◌≡◌, ℕ, ◌+◌, ◌-◌, ◌*◌, ◌++◌, drop, map}
use denote.Param.Weighed.{most, w_this}
use Rattle.c_typed.proofs.expr.Expr.TheLaws.{the_size}
use Rattle.c_typed.specs.declared.expr.Expr.{Expr}
use Rattle.src_law.specs.Acts.{some_values}
use Rattle.src_law.specs.Exprs as spec
use Rattle.src_law.specs.Program.{body}
use Rattle.src_law.specs.tools.Heard.{got, bind}
use Rattle.src_law.specs.tools.Reader.{reads}
use Rattle.src_meaning.specs.tools.Levels.{seen, program_of}
use Rattle.src_meaning.proofs.exprs.Parts.+exprs.Given as goal

-- Each call is made for a part that is less deep, or for one as deep by a function that is named earlier here.
abbrev depth : Expr → ℕ
depth e = w_this.weight Expr the_size e

-- of two the deeper one
abbrev deeper : Expr → Expr → ℕ
deeper a b = depth a + (depth b - depth a)

abbrev pub decreases-expr : goal.decreases-expr
decreases-expr g l = 8 * depth l.e.now

abbrev pub decreases-operand : goal.decreases-operand
decreases-operand g l = 8 * depth l.e.now + 1

abbrev pub decreases-field : goal.decreases-field
decreases-field g l = 8 * depth l.whole.now + 2

abbrev pub decreases-read : goal.decreases-read
decreases-read g l = 8 * depth l.place.now + 2

abbrev pub decreases-decay : goal.decreases-decay
decreases-decay g l = 8 * depth l.place.now + 2

abbrev pub decreases-prefix : goal.decreases-prefix
decreases-prefix g l = 8 * depth l.operand.now + 2

abbrev pub decreases-truth : goal.decreases-truth
decreases-truth g l = 8 * depth l.e.now + 2

abbrev pub decreases-makes : goal.decreases-makes
decreases-makes g l = 8 * depth l.count.now + 2

abbrev pub decreases-index : goal.decreases-index
decreases-index g l = 8 * deeper l.pointer.now l.index.now + 3

abbrev pub decreases-both : goal.decreases-both
decreases-both g l = 8 * deeper l.left.now l.right.now + 3

abbrev pub decreases-either : goal.decreases-either
decreases-either g l = 8 * deeper l.left.now l.right.now + 3

abbrev pub decreases-computed : goal.decreases-computed
decreases-computed g l = 8 * deeper l.left.now l.right.now + 3

abbrev pub decreases-binary : goal.decreases-binary
decreases-binary g l = 8 * deeper l.left.now l.right.now + 4

abbrev pub decreases-values : goal.decreases-values
decreases-values g l = 8 * most depth l.arguments.now + 1

abbrev pub decreases-calls : goal.decreases-calls
decreases-calls g l = 8 * most depth l.arguments.now + 2

-- what reads the other arguments now, behind these values, reads all
abbrev pub invariant-values-loop-argument : goal.invariant-values-loop-argument
invariant-values-loop-argument g l =
    bind (reads (body (program_of l.self.level.program)) l.self.level.fuel some_values (spec.values_of (map (spec.expr (seen l.self.level)) (drop l.argument-index l.arguments))) l.heard) (λ ws. got (l.values ++ ws))
    ≡ reads (body (program_of l.self.level.program)) l.self.level.fuel some_values (spec.values_of (map (spec.expr (seen l.self.level)) l.arguments)) l.fn.heard
