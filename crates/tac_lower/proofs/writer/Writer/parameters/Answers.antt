use Rattle.std.proofs.Common.{rules, ◌≡◌, ◌+◌, drop, Ok, Err, sym, subst, arith}
use Rattle.tac_ir.specs.declared.code.Place.{Place}
use Rattle.tac_lower.specs.declared.draft.Ends.{Ends}
use Rattle.tac_lower.specs.Instrs.{set}
use Rattle.tac_lower.specs.tools.Emits.{Emits}
use Rattle.tac_lower.proofs.emitted.Gathers.{left_from}
use Rattle.tac_lower.proofs.emitted.Parameters.{Parameters, next_parameter, no_parameter, no_more_parameters}
use Rattle.tac_lower.proofs.writer.Writer.parameters.Goals as goal

abbrev no_ends : Ends
no_ends = record { leave = 0; again = 0 }

pub loop-variable-preserved : goal.loop-variable-preserved
loop-variable-preserved c = (
  (let few = c.loop-variable.invariant.0 in let count = (c.in_ok-set.ensures no_ends).count in omega arith),
  λ ends new r more.
      c.loop-variable.invariant.1 ends new r
      (next_parameter c.loop-variable.k (drop c.loop-variable.variable-index c.args.variables.now) (drop (c.loop-variable.variable-index + 1) c.args.variables.now) c.variable-item.result
      ends c.loop-variable.self c.set.new.self new c.in_ok-set.field-0 r
      (left_from c.args.variables.now c.loop-variable.variable-index c.variable-item.result c.loop-variable-test.true c.variable-item.is)
      (subst (λ path. Emits (set c.variable-item.result.line.0 (Place.Local c.loop-variable.k path) c.loop-variable.k) ends c.loop-variable.self c.set.new.self (Ok c.in_ok-set.field-0)) c.new.ensures (c.in_ok-set.ensures ends))
      more),
)

pub returns-in_err-set : goal.returns-in_err-set
returns-in_err-set c = λ ends.
    let told : c.from_residual.result ≡ Err c.in_err-set.field-0.0 = search rules in
    subst (λ r. Parameters 0 c.args.variables.now ends c.args.self.now c.set.new.self r) (sym told)
    (c.loop-variable.invariant.1 ends c.set.new.self (Err c.in_err-set.field-0.0)
    (no_parameter c.loop-variable.k (drop c.loop-variable.variable-index c.args.variables.now) (drop (c.loop-variable.variable-index + 1) c.args.variables.now) c.variable-item.result
    ends c.loop-variable.self c.set.new.self c.in_err-set.field-0.0
    (left_from c.args.variables.now c.loop-variable.variable-index c.variable-item.result c.loop-variable-test.true c.variable-item.is)
    (subst (λ path. Emits (set c.variable-item.result.line.0 (Place.Local c.loop-variable.k path) c.loop-variable.k) ends c.loop-variable.self c.set.new.self (Err c.in_err-set.field-0.0)) c.new.ensures (c.in_err-set.ensures ends))))

pub returns : goal.returns
returns c = λ ends.
    c.loop-variable.invariant.1 ends c.loop-variable.self (Ok 0)
    (no_more_parameters c.loop-variable.k c.args.variables.now c.loop-variable.variable-index ends c.loop-variable.self c.loop-variable-test.false)
