use Rattle.std.proofs.Common.{◌∙◌, ap, arith, length, sym}
use Rattle.tac_ir.specs.Edges.{calls_fun}
use Rattle.flow_rules.specs.PointNumber.{point_at}
use Rattle.flow_rules.proofs.Reached.{called_within}
use Rattle.flow_rules.proofs.calls.add_calls.Goals as goal

pub add_call-changed-requires : goal.add_call-changed-requires
add_call-changed-requires c =
    let long = c.loop-at.invariant.grown.long in
    let room = c.requires.room in
    record {
      room = λ g calls. called_within c.args.c.now c.requires.form (point_at c.args.fun c.loop-at.at) (omega (arith, c.loop-at-test.true, c.requires.end)) g (length c.loop-at.set) (omega (arith, long, room)) (ap (calls_fun g) (sym c.instr_at.ensures) ∙ calls);
    }
