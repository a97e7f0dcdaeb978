use Rattle.std.proofs.Common.{rules, ◌≡◌, ◌+◌, pos, Err, refl, ap, sym, subst}
use Rattle.tac_lower.specs.tools.Emits.{Emits, at_spot, changed}
use Rattle.tac_lower.specs.Parts.{◌▷◌}
use Rattle.tac_lower.specs.Instrs as i
use Rattle.tac_lower.specs.Values.{expr, sizes_in, carried}
use Rattle.tac_lower.proofs.pieces.Levels.{typing_is}
use Rattle.tac_lower.proofs.emitted.Chains.{change_behind, changed_counts, follow, stopped, yields, yields_stopped}
use Rattle.c_typed.specs.Elaboration.{update}
use Rattle.tac_lower.specs.Stmts as stmts
use Rattle.tac_lower.proofs.writer.Writer.step.Goals as goal

pub returns : goal.returns
returns c = λ ends.
    yields ((expr (sizes_in c.args.structs.now) c.args.target.now).yield c.args.line) (λ q. i.get c.args.line q ▷ λ first. (i.constant c.args.line (pos 1)) ▷ λ b. carried c.args.line (update (sizes_in c.args.structs.now) c.args.op (stmts.scalar_at (expr (sizes_in c.args.structs.now) c.args.target.now).typing)) first b ▷ λ x. i.set c.args.line q x) (λ a. i.load c.args.line a ▷ λ first. (i.constant c.args.line (pos 1)) ▷ λ b. carried c.args.line (update (sizes_in c.args.structs.now) c.args.op (stmts.scalar_at (expr (sizes_in c.args.structs.now) c.args.target.now).typing)) first b ▷ λ x. i.store c.args.line a x) ends c.args.self.now c.expr.new.self c.change.new.self c.in_ok-place.place c.change.result (λ x. refl) (c.in_ok-place.ensures ends)
    (change_behind c.args.line (i.constant c.args.line (pos 1)) (update (sizes_in c.args.structs.now) c.args.op (stmts.scalar_at (expr (sizes_in c.args.structs.now) c.args.target.now).typing)) c.in_ok-place.place ends c.expr.new.self c.change.new.self c.change.result
    (follow 0 (at_spot (λ p. i.get c.args.line p) (λ a. i.load c.args.line a) c.in_ok-place.place) (λ first. (i.constant c.args.line (pos 1)) ▷ λ b. changed c.args.line (update (sizes_in c.args.structs.now) c.args.op (stmts.scalar_at (expr (sizes_in c.args.structs.now) c.args.target.now).typing)) c.in_ok-place.place first b) ends c.expr.new.self c.old_value.new.self c.change.new.self c.in_ok-old.old c.change.result (λ x. ap (λ n. (i.constant c.args.line (pos 1)).points + n) (changed_counts c.args.line (update (sizes_in c.args.structs.now) c.args.op (stmts.scalar_at (expr (sizes_in c.args.structs.now) c.args.target.now).typing)) c.in_ok-place.place x 0 0 0))
    (c.in_ok-old.ensures ends)
    ((follow 0 ((i.constant c.args.line (pos 1))) (λ b. changed c.args.line (update (sizes_in c.args.structs.now) c.args.op (stmts.scalar_at (expr (sizes_in c.args.structs.now) c.args.target.now).typing)) c.in_ok-place.place c.in_ok-old.old b) ends c.old_value.new.self c.constant.new.self c.change.new.self c.in_ok-b.b c.change.result (λ x. changed_counts c.args.line (update (sizes_in c.args.structs.now) c.args.op (stmts.scalar_at (expr (sizes_in c.args.structs.now) c.args.target.now).typing)) c.in_ok-place.place c.in_ok-old.old x c.in_ok-old.old 0)
    (c.in_ok-b.ensures ends)
    ((subst (λ t. Emits (changed c.args.line (update (sizes_in c.args.structs.now) c.args.op (stmts.scalar_at t)) c.in_ok-place.place c.in_ok-old.old c.in_ok-b.b) ends c.constant.new.self c.change.new.self c.change.result) (sym (typing_is (sizes_in c.args.structs.now) c.args.target.now)) (c.change.ensures ends)))))))

pub returns-in_err-place : goal.returns-in_err-place
returns-in_err-place c = λ ends.
    let told : c.from_residual.result ≡ Err c.in_err-place.field-0.0 = search rules in
    subst (λ r. Emits (stmts.compound c.args.line (sizes_in c.args.structs.now) c.args.op (expr (sizes_in c.args.structs.now) c.args.target.now) (i.constant c.args.line (pos 1))) ends c.args.self.now c.expr.new.self r) (sym told)
    (yields_stopped ((expr (sizes_in c.args.structs.now) c.args.target.now).yield c.args.line) (λ q. i.get c.args.line q ▷ λ first. (i.constant c.args.line (pos 1)) ▷ λ b. carried c.args.line (update (sizes_in c.args.structs.now) c.args.op (stmts.scalar_at (expr (sizes_in c.args.structs.now) c.args.target.now).typing)) first b ▷ λ x. i.set c.args.line q x) (λ a. i.load c.args.line a ▷ λ first. (i.constant c.args.line (pos 1)) ▷ λ b. carried c.args.line (update (sizes_in c.args.structs.now) c.args.op (stmts.scalar_at (expr (sizes_in c.args.structs.now) c.args.target.now).typing)) first b ▷ λ x. i.store c.args.line a x) ends c.args.self.now c.expr.new.self c.in_err-place.field-0.0 (c.in_err-place.ensures ends))

pub returns-in_err-old : goal.returns-in_err-old
returns-in_err-old c = λ ends.
    let told : c.from_residual-in_err-old.result ≡ Err c.in_err-old.field-0.0 = search rules in
    subst (λ r. Emits (stmts.compound c.args.line (sizes_in c.args.structs.now) c.args.op (expr (sizes_in c.args.structs.now) c.args.target.now) (i.constant c.args.line (pos 1))) ends c.args.self.now c.old_value.new.self r) (sym told)
    (yields ((expr (sizes_in c.args.structs.now) c.args.target.now).yield c.args.line) (λ q. i.get c.args.line q ▷ λ first. (i.constant c.args.line (pos 1)) ▷ λ b. carried c.args.line (update (sizes_in c.args.structs.now) c.args.op (stmts.scalar_at (expr (sizes_in c.args.structs.now) c.args.target.now).typing)) first b ▷ λ x. i.set c.args.line q x) (λ a. i.load c.args.line a ▷ λ first. (i.constant c.args.line (pos 1)) ▷ λ b. carried c.args.line (update (sizes_in c.args.structs.now) c.args.op (stmts.scalar_at (expr (sizes_in c.args.structs.now) c.args.target.now).typing)) first b ▷ λ x. i.store c.args.line a x) ends c.args.self.now c.expr.new.self c.old_value.new.self c.in_ok-place.place (Err c.in_err-old.field-0.0) (λ x. refl) (c.in_ok-place.ensures ends)
    (change_behind c.args.line (i.constant c.args.line (pos 1)) (update (sizes_in c.args.structs.now) c.args.op (stmts.scalar_at (expr (sizes_in c.args.structs.now) c.args.target.now).typing)) c.in_ok-place.place ends c.expr.new.self c.old_value.new.self (Err c.in_err-old.field-0.0)
    (stopped 0 (at_spot (λ p. i.get c.args.line p) (λ a. i.load c.args.line a) c.in_ok-place.place) (λ first. (i.constant c.args.line (pos 1)) ▷ λ b. changed c.args.line (update (sizes_in c.args.structs.now) c.args.op (stmts.scalar_at (expr (sizes_in c.args.structs.now) c.args.target.now).typing)) c.in_ok-place.place first b) ends c.expr.new.self c.old_value.new.self c.in_err-old.field-0.0 (c.in_err-old.ensures ends))))

pub returns-in_err-b : goal.returns-in_err-b
returns-in_err-b c = λ ends.
    let told : c.from_residual-in_err-b.result ≡ Err c.in_err-b.field-0.0 = search rules in
    subst (λ r. Emits (stmts.compound c.args.line (sizes_in c.args.structs.now) c.args.op (expr (sizes_in c.args.structs.now) c.args.target.now) (i.constant c.args.line (pos 1))) ends c.args.self.now c.constant.new.self r) (sym told)
    (yields ((expr (sizes_in c.args.structs.now) c.args.target.now).yield c.args.line) (λ q. i.get c.args.line q ▷ λ first. (i.constant c.args.line (pos 1)) ▷ λ b. carried c.args.line (update (sizes_in c.args.structs.now) c.args.op (stmts.scalar_at (expr (sizes_in c.args.structs.now) c.args.target.now).typing)) first b ▷ λ x. i.set c.args.line q x) (λ a. i.load c.args.line a ▷ λ first. (i.constant c.args.line (pos 1)) ▷ λ b. carried c.args.line (update (sizes_in c.args.structs.now) c.args.op (stmts.scalar_at (expr (sizes_in c.args.structs.now) c.args.target.now).typing)) first b ▷ λ x. i.store c.args.line a x) ends c.args.self.now c.expr.new.self c.constant.new.self c.in_ok-place.place (Err c.in_err-b.field-0.0) (λ x. refl) (c.in_ok-place.ensures ends)
    (change_behind c.args.line (i.constant c.args.line (pos 1)) (update (sizes_in c.args.structs.now) c.args.op (stmts.scalar_at (expr (sizes_in c.args.structs.now) c.args.target.now).typing)) c.in_ok-place.place ends c.expr.new.self c.constant.new.self (Err c.in_err-b.field-0.0)
    (follow 0 (at_spot (λ p. i.get c.args.line p) (λ a. i.load c.args.line a) c.in_ok-place.place) (λ first. (i.constant c.args.line (pos 1)) ▷ λ b. changed c.args.line (update (sizes_in c.args.structs.now) c.args.op (stmts.scalar_at (expr (sizes_in c.args.structs.now) c.args.target.now).typing)) c.in_ok-place.place first b) ends c.expr.new.self c.old_value.new.self c.constant.new.self c.in_ok-old.old (Err c.in_err-b.field-0.0) (λ x. ap (λ n. (i.constant c.args.line (pos 1)).points + n) (changed_counts c.args.line (update (sizes_in c.args.structs.now) c.args.op (stmts.scalar_at (expr (sizes_in c.args.structs.now) c.args.target.now).typing)) c.in_ok-place.place x 0 0 0))
    (c.in_ok-old.ensures ends)
    ((stopped 0 ((i.constant c.args.line (pos 1))) (λ b. changed c.args.line (update (sizes_in c.args.structs.now) c.args.op (stmts.scalar_at (expr (sizes_in c.args.structs.now) c.args.target.now).typing)) c.in_ok-place.place c.in_ok-old.old b) ends c.old_value.new.self c.constant.new.self c.in_err-b.field-0.0 (c.in_err-b.ensures ends))))))
