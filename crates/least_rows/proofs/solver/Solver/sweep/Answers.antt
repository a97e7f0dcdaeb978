use Rattle.std.proofs.Common.{length}
use Rattle.least_rows.proofs.Writing.{further, none_both}
use Rattle.least_rows.proofs.Visiting.{swept, had_within}
use Rattle.least_rows.proofs.solver.Solver.sweep.Goals as goal

pub loop-at-preserved : goal.loop-at-preserved
loop-at-preserved c =
    let s = c.args.system.now in
    let old = c.loop-at.self in
    let new = c.visit-changed.new.self in
    record {
      ready = c.visit-changed.ensures.ready;
      grown = further s (length s.rules) c.args.self.now.rows.items old.rows.items new.rows.items c.args.self.now.waiting old.waiting new.waiting c.loop-at.changed
          c.visit-changed.result c.loop-at.invariant.grown c.visit-changed.ensures.grown;
      passed = λ still.
          let both = none_both c.loop-at.changed c.visit-changed.result still in
          swept old.waiting new.waiting c.loop-at.at c.in-Some.number (had_within old.waiting c.in-Some.number c.in-Some.ensures.1) (c.loop-at.invariant.passed both.1) c.in-Some.ensures.2
          (c.visit-changed.ensures.done both.0);
    }
